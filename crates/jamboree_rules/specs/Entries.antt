-- Meaning: what the entries of a search's frame say of its choices, and the table that a root holds.
use Rattle.std.specs.Prelude.{◌≡◌, ℕ, ◌==◌, ℤ, List, [], ◌∷◌, if◌then◌else◌}
use Rattle.othello_moves.specs.declared.choices.Choice.{Choice}
use Rattle.othello_moves.specs.Choices.{choices}
use Rattle.leaf_search.specs.othello_eval.declared.bound.Bound.{Bound}
use Rattle.leaf_search.specs.othello_eval.declared.bound.BoundKind.{BoundKind}
use Rattle.leaf_search.specs.othello_eval.declared.bound.BoundKind.TheVariants.{Low, High, Exact}
use Rattle.leaf_search.specs.othello_eval.Tables.{Says}
use Rattle.jamboree_rules.specs.Frames.{Frame, board, rest_at}
use Rattle.jamboree_rules.specs.Places.{kind_number, kind_in, score_in}

-- the rest of a choice's entry (all of it but the status) says a bound of this kind
abbrev pub IsOfKind : ℕ → BoundKind → Type 0
IsOfKind rest kind = kind_in rest ≡ kind_number kind

-- the bound in the rest of an entry is true of this value; a rest without a kind is no bound, and so true of any
-- value
abbrev pub IsTrueRest : ℕ → ℤ → Type 0
IsTrueRest rest value = (kind : BoundKind) → IsOfKind rest kind → Says kind (score_in rest) value

-- the kind with this number: 1 Low, 2 High, any other Exact
abbrev pub kind_numbered : ℕ → BoundKind
kind_numbered number = if number == 1 then Low else (if number == 2 then High else Exact)

-- the table's entry for a choice: the score and the kind in this rest, which has a kind
abbrev pub bound_in : Choice → ℕ → Bound
bound_in choice rest = record { choice = choice; score = score_in rest; kind = kind_numbered (kind_in rest) }

-- the table's entries for these choices, each with its rest, up to the end of the shorter list
abbrev pub bounds_in : List Choice → List ℕ → List Bound
bounds_in [] rests = []
bounds_in (c ∷ cs) [] = []
bounds_in (c ∷ cs) (rest ∷ rests) = bound_in c rest ∷ bounds_in cs rests

-- the table of a frame: one entry for each choice of its board that the frame's words have a place for
abbrev pub bounds_of : Frame → List Bound
bounds_of f = bounds_in (choices (board f)) f.rests

-- the entry of choice i of the frame has this kind
abbrev pub HasKind : Frame → ℕ → BoundKind → Type 0
HasKind f i kind = IsOfKind (rest_at f i) kind

-- the score in the entry of choice i of the frame
abbrev pub score_at : Frame → ℕ → ℤ
score_at f i = score_in (rest_at f i)
