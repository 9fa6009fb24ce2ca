-- Representation: Othello boards on which the choices are tried.
use Rattle.std.specs.Prelude.{List, [], ◌∷◌}
use Rattle.othello_board.specs.declared.cells.Cell.{Cell}
use Rattle.othello_board.specs.declared.cells.Cell.TheVariants.{Empty, Own, Opp}
use Rattle.othello_board.specs.Rows.{first_row}

-- an own disc on a1 and an opposing one on b1, and the rest empty
abbrev pub two_discs : List Cell
two_discs = first_row (Own ∷ Opp ∷ Empty ∷ Empty ∷ Empty ∷ Empty ∷ Empty ∷ Empty ∷ [])

-- `two_discs` seen by the other player, who can't move
abbrev pub two_discs_from_there : List Cell
two_discs_from_there = first_row (Opp ∷ Own ∷ Empty ∷ Empty ∷ Empty ∷ Empty ∷ Empty ∷ Empty ∷ [])

-- an opposing disc, an own one and an opposing one on e1, f1 and g1, so that h1 and d1 are legal
abbrev pub corner_and_edge : List Cell
corner_and_edge = first_row (Empty ∷ Empty ∷ Empty ∷ Empty ∷ Opp ∷ Own ∷ Opp ∷ Empty ∷ [])
