-- Representation: Othello boards on which the values are tried, and tables of some.
use Rattle.std.specs.Prelude.{List, [], ◌∷◌, replicate, ℤ, pos, negsuc}
use Rattle.othello_board.specs.declared.cells.Cell.{Cell}
use Rattle.othello_board.specs.declared.cells.Cell.TheVariants.{Empty, Own, Opp}
use Rattle.othello_board.specs.Rows.{first_row}
use Rattle.othello_moves.specs.declared.choices.Choice.{Choice}
use Rattle.othello_moves.specs.declared.choices.Choice.TheVariants.{Square, Pass}
use Rattle.othello_eval.specs.declared.bound.Bound.{Bound}
use Rattle.othello_eval.specs.declared.bound.BoundKind.{BoundKind}
use Rattle.othello_eval.specs.declared.bound.BoundKind.TheVariants.{Low, Exact}

-- a board whose 64 discs are all the opponent's
abbrev pub all_opposing : List Cell
all_opposing = replicate 64 Opp

-- a board without a disc
abbrev pub no_discs : List Cell
no_discs = replicate 64 Empty

-- opposing discs on b1 and d1 round an own one on c1: a1 and e1 are legal
abbrev pub corner_or_edge : List Cell
corner_or_edge = first_row (Empty ∷ Opp ∷ Own ∷ Opp ∷ Empty ∷ Empty ∷ Empty ∷ Empty ∷ [])

-- the entry of a root table: a choice, a score, and what the score says of the choice's value
abbrev pub entry : Choice → BoundKind → ℤ → Bound
entry choice kind score = record { choice = choice; score = score; kind = kind }

-- the root table of the start position at depth 1: d3 is exactly -3 (negsuc 2). By symmetry c4, f5 and e6 are worth as much, but
-- their entries say only "at most -3", as alpha-beta leaves them
abbrev pub equal_moves : List Bound
equal_moves = entry (Square 19) Exact (negsuc 2) ∷ entry (Square 26) Low (negsuc 2) ∷ entry (Square 37) Low (negsuc 2) ∷ entry (Square 44) Low (negsuc 2) ∷ []

-- the root table of `corner_or_edge`: a1 is worth exactly 89, and e1 at most 40
abbrev pub corner_and_edge : List Bound
corner_and_edge = entry (Square 0) Exact (pos 89) ∷ entry (Square 4) Low (pos 40) ∷ []

-- a root table with one entry: to pass is worth exactly -6000
abbrev pub to_pass : List Bound
to_pass = entry Pass Exact (negsuc 5999) ∷ []
