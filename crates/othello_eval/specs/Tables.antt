-- Meaning: tables of bounds: what is known of the value of each choice of the board that was asked about.
use Rattle.std.specs.Prelude.{◌≡◌, ℕ, zero, suc, ℤ, ◌≤ℤ◌, List, [], map, Option, Some, All}
use Rattle.othello_board.specs.declared.cells.Cell.{Cell}
use Rattle.othello_moves.specs.declared.choices.Choice.{Choice}
use Rattle.othello_moves.specs.Choices.{choices}
use Rattle.othello_eval.specs.declared.bound.Bound.{Bound}
use Rattle.othello_eval.specs.declared.bound.BoundKind.{BoundKind}
use Rattle.othello_eval.specs.declared.bound.BoundKind.TheVariants.{Low, High, Exact}
use Rattle.othello_eval.specs.Minimax.{choice_value, best_choice}

-- what a score of this kind says of a value: at most the score, at least the score, or the score itself
abbrev pub Says : BoundKind → ℤ → ℤ → Type 0
Says Low score value = value ≤ℤ score
Says High score value = score ≤ℤ value
Says Exact score value = value ≡ score

-- an entry is true of a board that is looked at to this depth: what its score says of its choice's value holds
abbrev pub IsTrueBound : ℕ → List Cell → Bound → Type 0
IsTrueBound depth board b = Says b.kind b.score (choice_value depth board b.choice)

-- the choices that have an entry: all in their order at depth 1 and more, and none at depth 0 (a finished game has no choice)
abbrev pub entered : ℕ → List Cell → List Choice
entered zero board = []
entered (suc depth) board = choices board

-- where the entry is the best choice's, it is exact
abbrev pub IsExactIfBest : Option Choice → Bound → Type 0
IsExactIfBest best b = best ≡ Some b.choice → b.kind ≡ Exact

-- a table of a board to a depth: an entry for each choice, in their order, each true, and the best choice's exact
pub record IsTable (depth : ℕ) (board : List Cell) (bounds : List Bound) : Type 0 where
  pub each : map (λ b. b.choice) bounds ≡ entered depth board
  pub holds : All (IsTrueBound depth board) bounds
  pub best : All (IsExactIfBest (best_choice depth board)) bounds
