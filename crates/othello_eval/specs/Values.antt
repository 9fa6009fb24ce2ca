-- Meaning: the two values of an Othello board, seen by the player to move: of a finished game, and of a game that goes
-- on.
use Rattle.std.specs.Prelude.{ℕ, ℤ, pos, negsuc, ◌+ℤ◌, ◌-ℤ◌, ◌*ℤ◌, ◌≤ℤ◌, neg_ℤ, List, [], ◌∷◌, ◌++◌, length, count_by}
use Rattle.othello_board.specs.declared.cells.Cell.{Cell}
use Rattle.othello_board.specs.declared.cells.Cell.TheVariants.{Empty, Own, Opp}
use Rattle.othello_board.specs.Rules.{exchanged, is_own_cell, is_opp_cell}
use Rattle.othello_moves.specs.Choices.{legal_squares}

-- the weights of the squares of rows 1 and 8, a to h (negsuc 19 is -20)
abbrev pub edge_row : List ℤ
edge_row = pos 100 ∷ negsuc 19 ∷ pos 10 ∷ pos 5 ∷ pos 5 ∷ pos 10 ∷ negsuc 19 ∷ pos 100 ∷ []

-- the weights of the squares of rows 2 and 7, a to h (negsuc n is -(n + 1))
abbrev pub second_row : List ℤ
second_row = negsuc 19 ∷ negsuc 49 ∷ negsuc 1 ∷ negsuc 1 ∷ negsuc 1 ∷ negsuc 1 ∷ negsuc 49 ∷ negsuc 19 ∷ []

-- the weights of the squares of rows 3 and 6, a to h (negsuc n is -(n + 1))
abbrev pub third_row : List ℤ
third_row = pos 10 ∷ negsuc 1 ∷ negsuc 0 ∷ negsuc 0 ∷ negsuc 0 ∷ negsuc 0 ∷ negsuc 1 ∷ pos 10 ∷ []

-- the weights of the squares of rows 4 and 5, a to h (negsuc n is -(n + 1))
abbrev pub middle_row : List ℤ
middle_row = pos 5 ∷ negsuc 1 ∷ negsuc 0 ∷ negsuc 0 ∷ negsuc 0 ∷ negsuc 0 ∷ negsuc 1 ∷ pos 5 ∷ []

-- the weights of all squares, row by row from the top
unfoldable pub weights : List ℤ
weights = edge_row ++ second_row ++ third_row ++ middle_row ++ middle_row ++ third_row ++ second_row ++ edge_row

-- what a cell adds to the evaluation on a square of weight w: w for an own disc, -w for an opposing one, 0 for none
abbrev pub disc_value : Cell → ℤ → ℤ
disc_value Empty w = pos 0
disc_value Own w = w
disc_value Opp w = neg_ℤ w

-- the weights of own discs less those of opposing discs, over the cells and the weights of their squares
abbrev pub discs_value : List Cell → List ℤ → ℤ
discs_value [] ws = pos 0
discs_value (c ∷ cs) [] = pos 0
discs_value (c ∷ cs) (w ∷ ws) = disc_value c w +ℤ discs_value cs ws

-- how many legal squares the mover has more than the opponent
abbrev pub mobility : List Cell → ℤ
mobility board = pos (length (legal_squares board)) -ℤ pos (length (legal_squares (exchanged board)))

-- the evaluation of a board: the weights of own discs less those of opposing discs, and 4 for each legal square that
-- the mover has more than the opponent
abbrev pub eval : List Cell → ℤ
eval board = discs_value board weights +ℤ (pos 4 *ℤ mobility board)

-- the value of a finished game: 2000 for each disc that the mover has more than the opponent; empty squares count for
-- nobody
abbrev pub final_value : List Cell → ℤ
final_value board = pos 2000 *ℤ (pos (count_by is_own_cell board) -ℤ pos (count_by is_opp_cell board))

-- a value lies from -n to n
abbrev pub IsWithin : ℕ → ℤ → Type 0
IsWithin n z = (neg_ℤ (pos n) ≤ℤ z) × (z ≤ℤ pos n)
