-- The table of a board's choices: a best choice on one square is no other square's, told apart by a number for each.
use Rattle.othello_eval.proofs.Common.{◌≡◌, ◌≢◌, ℕ, Option, Some, None, ap, sym, ◌∙◌, Choice, Square, Pass}

number : Option Choice → ℕ
number None = 65
number (Some (Square s)) = s
number (Some Pass) = 64

-- a best choice on one square isn't the choice of another
pub apart : (best : Option Choice) (s t : ℕ) → best ≡ Some (Square s) → s ≢ t → best ≡ Some (Square t) → ⊥
unfolding number
apart best s t is other e = other (ap number (sym is ∙ e))
