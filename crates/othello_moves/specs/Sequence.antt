-- Representation: an Othello board's choices in order, kept as the squares that are set in words.
use Rattle.std.specs.Prelude.{ℕ, Bool, if◌then◌else◌, ◌==◌, List, [], ◌∷◌, ◌++◌, map, filter}
use Rattle.std.specs.Int.{bit_at}
use Rattle.othello_board.specs.Rules.{squares}
use Rattle.othello_moves.specs.declared.choices.Choice.{Choice}
use Rattle.othello_moves.specs.declared.choices.Choice.TheVariants.{Square, Pass}

-- the squares whose bits are set in a word, by rising index
abbrev pub squares_of : ℕ → List ℕ
squares_of word = filter (λ s. bit_at word s == 1) squares

-- a list of just a pass where `passes` is true, else the empty list
abbrev pub pass_if : Bool → List Choice
pass_if passes = if passes then Pass ∷ [] else []

-- the choices that are left: the squares set in the first word, then those set in the second, each by rising index,
-- then a pass where `passes` is true
abbrev pub sequence : ℕ → ℕ → Bool → List Choice
sequence first second passes = map Square (squares_of first ++ squares_of second) ++ pass_if passes
