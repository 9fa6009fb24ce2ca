-- Representation: the discs of an Othello board counted under words of squares, for its evaluation.
use Rattle.std.specs.Prelude.{ℕ, ℤ, pos, ◌-ℤ◌, bit_and, count_ones, slice_index_or, map, take, drop, ◌*◌, ◌-◌, nat_lt, if◌then◌else◌}
use Rattle.std.specs.List.{range_with_len}
use Rattle.othello_board.specs.Words.{cell_of}
use Rattle.othello_eval.specs.Values.{weights, discs_value}

-- how many more discs the word `own` has than the word `opp` on these squares
abbrev pub disc_difference : ℕ → ℕ → ℕ → ℤ
disc_difference own opp squares = pos (count_ones (bit_and own squares)) -ℤ pos (count_ones (bit_and opp squares))

-- the evaluation's weight of a square
abbrev pub weight_at : ℕ → ℤ
weight_at s = slice_index_or weights s (pos 0)

-- the weights of the squares of a word that stand in a row, 0 to 7
abbrev pub row_value : ℕ → ℕ → ℤ
row_value word row = discs_value (map (cell_of word 0) (range_with_len (8 * row) 8)) (take 8 (drop (8 * row) weights))

-- the rows alike in weights: 1 and 8, 2 and 7, 3 and 6, 4 and 5, by the upper one, counted from 0
abbrev pub kind_of : ℕ → ℕ
kind_of row = if nat_lt row 4 then row else 7 - row
