-- The table of a board's choices: that a list is one has one proof at most.
use Rattle.std.specs.Prelude.{ℕ, ℤ, List}
use Rattle.othello_eval.proofs.Common.{props, Cell, Bound, BoundKind, Low, High, Exact, Says, IsTable}

pub says-prop : (kind : BoundKind) (score value : ℤ) → IsProp (Says kind score value)
says-prop Low score value = hlevel props
says-prop High score value = hlevel props
says-prop Exact score value = hlevel props

pub table-prop : (depth : ℕ) (board : List Cell) (bounds : List Bound) → IsProp (IsTable depth board bounds)
table-prop depth board bounds = hlevel (props, says-prop)
