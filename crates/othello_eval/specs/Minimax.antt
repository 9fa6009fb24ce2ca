-- Meaning: the minimax value of an Othello board to a depth, and the best choice.
use Rattle.std.specs.Prelude.{ℕ, zero, suc, ◌-◌, ℤ, neg_ℤ, Bool, ◌&&◌, List, [], ◌∷◌, map, Option, None, find, int_le}
use Rattle.std.specs.Int.{int_max}
use Rattle.othello_board.specs.declared.cells.Cell.{Cell}
use Rattle.othello_board.specs.Rules.{exchanged, played}
use Rattle.othello_moves.specs.declared.choices.Choice.{Choice}
use Rattle.othello_moves.specs.declared.choices.Choice.TheVariants.{Square, Pass}
use Rattle.othello_moves.specs.Choices.{choices, legal_squares, after, plies}
use Rattle.othello_eval.specs.Values.{eval, final_value}

-- the greatest of x and the numbers of a list
abbrev pub greatest : ℤ → List ℤ → ℤ
greatest x [] = x
greatest x (y ∷ more) = int_max x (greatest y more)

-- the greatest number of a list, or `other` where the list is empty
abbrev pub greatest_or : ℤ → List ℤ → ℤ
greatest_or other [] = other
greatest_or other (x ∷ more) = greatest x more

-- the value of a board at depth 0: of the finished game where there is no choice, else the evaluation
abbrev pub leaf_value : List Cell → List Choice → ℤ
leaf_value board [] = final_value board
leaf_value board (c ∷ more) = eval board

-- the greatest of what the moves to these squares are worth to the mover, where `below` gives the value of a board
-- with one ply less; the final value where the list is empty
abbrev pub over_squares : (List Cell → ℤ) → List Cell → List ℕ → ℤ
over_squares below board squares = greatest_or (final_value board) (map (λ s. neg_ℤ (below (played board s))) squares)

-- the value of the board after a choice, seen by the other side, where `below` gives the value of a board with one ply
-- less. A square uses that ply. A pass uses none: the ply is used by the other side's moves to its legal squares, of
-- which it has one after a pass
abbrev pub value_after : (List Cell → ℤ) → List Cell → Choice → ℤ
value_after below board (Square s) = below (played board s)
value_after below board Pass = over_squares below (exchanged board) (legal_squares (exchanged board))

-- the minimax value of a board to a depth, seen by the player to move: the value of the finished game where there is
-- no choice, else at depth 0 the evaluation, else the greatest of what the choices are worth to the mover. The law
-- `values_by_choices` says this by `choice_value`
unfoldable pub minimax : ℕ → List Cell → ℤ
minimax zero board = leaf_value board (choices board)
minimax (suc depth) board = greatest_or (final_value board) (map (λ c. neg_ℤ (value_after (minimax depth) board c)) (choices board))

-- what a choice is worth to the mover, at a board that is looked at to a depth of 1 or more: the negated
-- minimax value of the board after it, to the depth that is left, as a square uses a ply and a pass none
abbrev pub choice_value : ℕ → List Cell → Choice → ℤ
choice_value depth board c = neg_ℤ (minimax (depth - plies c) (after board c))

-- whether two integers are equal
abbrev pub int_equal : ℤ → ℤ → Bool
int_equal x y = int_le x y && int_le y x

-- the first choice in order that attains the minimax value; none at depth 0 and in a finished game
unfoldable pub best_choice : ℕ → List Cell → Option Choice
best_choice zero board = None
best_choice (suc depth) board = find (λ c. int_equal (choice_value (suc depth) board c) (minimax (suc depth) board)) (choices board)
