-- Meaning: what the two words of an Othello board stand for.
use Rattle.std.specs.Prelude.{ℕ, ◌^◌, List, [], ◌∷◌, map, bit_or, if◌then◌else◌, ◌==◌}
use Rattle.std.specs.Int.{bit_at}
use Rattle.othello_board.specs.declared.cells.Cell.{Cell}
use Rattle.othello_board.specs.declared.cells.Cell.TheVariants.{Empty, Own, Opp}
use Rattle.othello_board.specs.declared.boards.Board.{Board}
use Rattle.othello_board.specs.Rules.{squares}

-- the cell of square s: Own where bit s of `own` is 1, else Opp where bit s of `opp` is 1, else Empty
abbrev pub cell_of : ℕ → ℕ → ℕ → Cell
cell_of own opp s = if bit_at own s == 1 then Own else (if bit_at opp s == 1 then Opp else Empty)

-- the 64 cells of a board of two words, the mover's discs and the opponent's
abbrev pub cells_of : ℕ → ℕ → List Cell
cells_of own opp = map (cell_of own opp) squares

-- the 64 cells of a board, as the rules see them
abbrev pub cells : Board → List Cell
cells b = cells_of b.own b.opp

-- the word in which just the bits of these squares are set
abbrev pub bits_of : List ℕ → ℕ
bits_of [] = 0
bits_of (s ∷ more) = bit_or (2 ^ s) (bits_of more)
