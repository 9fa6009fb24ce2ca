-- Representation: a board on which the definitions of sessions are tried, what is found of a board, and the number of
-- a line's fault.
use Rattle.std.specs.Prelude.{ℕ, ◌++◌, replicate, ◌∷◌, List, ℤ, Option, Some, None}
use Rattle.othello_board.specs.declared.cells.Cell.{Cell}
use Rattle.othello_board.specs.declared.cells.Cell.TheVariants.{Empty, Own, Opp}
use Rattle.othello_moves.specs.declared.choices.Choice.{Choice}
use Rattle.othello_eval.specs.declared.bound.Bound.{Bound}
use Rattle.protocol.specs.Faults.{fault_number}
use Rattle.session.specs.declared.standings.Analysis.{Analysis}
use Rattle.session.specs.Requests.{Request, Fault, Makes, Tabulates, Ends}

-- the opening, seen by Black: White on d4 (27) and e5 (36), Black on e4 (28) and d5 (35)
abbrev pub opening_board : List Cell
opening_board = replicate 27 Empty ++ Opp ∷ Own ∷ replicate 6 Empty ++ Own ∷ Opp ∷ replicate 27 Empty

-- what an analysis tells: a value, a move, and the table's entries
abbrev pub found : ℤ → Option Choice → List Bound → Analysis
found value choice bounds = record { best = record { value = value; choice = choice }; bounds = bounds }

-- the number of the fault of a session's line; none where the line asks for something
abbrev pub faulted : Request → Option ℕ
faulted (Fault fault) = Some (fault_number fault)
faulted (Makes call) = None
faulted (Tabulates job) = None
faulted Ends = None
