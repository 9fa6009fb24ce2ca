-- Meaning: the board and the flipping of discs, by the rules of the World Othello Federation.
--
-- A board is a list of 64 cells, seen by the mover. Squares are numbered row by row from the top left:
-- the square in column c and row r, both counted from 0, has the index 8 * r + c. So a1 is 0, h1 is 7,
-- a8 is 56 and h8 is 63.
use Rattle.std.specs.Prelude.{ℕ, zero, suc, ◌+◌, ◌-◌, ◌%◌, Bool, true, false, not, ◌&&◌, if◌then◌else◌, ◌==◌, nat_lt, List, [], ◌∷◌, map, Option, Some, None, unwrap_or, slice_index_or}
use Rattle.std.specs.Option.{option_map, option_and_then}
use Rattle.std.specs.List.{flat_map, list_any, range_with_len}
use Rattle.othello_board.specs.declared.cells.Cell.{Cell}
use Rattle.othello_board.specs.declared.cells.Cell.TheVariants.{Empty, Own, Opp}
use Rattle.othello_board.specs.declared.directions.Direction.{Direction}
use Rattle.othello_board.specs.declared.directions.Direction.TheVariants.{North, NorthEast, East, SouthEast, South, SouthWest, West, NorthWest}

-- all 64 squares, by rising index
unfoldable pub squares : List ℕ
squares = range_with_len 0 64

-- the cell on square s of a board; Empty where s is no square of it
abbrev pub cell_at : List Cell → ℕ → Cell
cell_at board s = slice_index_or board s Empty

-- the square one row up, towards row 1; None for a square of row 1
abbrev pub above : ℕ → Option ℕ
above s = if nat_lt s 8 then None else Some (s - 8)

-- the square one row down, towards row 8; None for a square of row 8
abbrev pub below : ℕ → Option ℕ
below s = if nat_lt s 56 then Some (s + 8) else None

-- the square one column to the left, towards column a; None for a square of column a
abbrev pub left_of : ℕ → Option ℕ
left_of s = if s % 8 == 0 then None else Some (s - 1)

-- the square one column to the right, towards column h; None for a square of column h
abbrev pub right_of : ℕ → Option ℕ
right_of s = if s % 8 == 7 then None else Some (s + 1)

-- the next square in a direction; None where the board ends there
abbrev pub step : Direction → ℕ → Option ℕ
step North s = above s
step NorthEast s = option_and_then right_of (above s)
step East s = right_of s
step SouthEast s = option_and_then right_of (below s)
step South s = below s
step SouthWest s = option_and_then left_of (below s)
step West s = left_of s
step NorthWest s = option_and_then left_of (above s)

-- the 8 directions of a board, clockwise from north
abbrev pub directions : List Direction
directions = North ∷ NorthEast ∷ East ∷ SouthEast ∷ South ∷ SouthWest ∷ West ∷ NorthWest ∷ []

-- the next n squares from s in a direction, nearest first, s left out; fewer where the edge comes before
unfoldable pub squares_beside : ℕ → Direction → ℕ → List ℕ
squares_beside zero d s = []
squares_beside (suc n) d s = unwrap_or (option_map (λ t. t ∷ squares_beside n d t) (step d s)) []

-- all squares from s to the edge in a direction, nearest first, s left out: at most 7
abbrev pub ray : Direction → ℕ → List ℕ
ray d s = squares_beside 7 d s

-- one step of `outflanked`: what is outflanked from square s on, which holds this cell, where `beyond` is what is
-- outflanked from the next square on. An own disc ends the run, an opposing disc is added to it, and at an empty
-- square there is none
abbrev pub led_by : Cell → ℕ → Option (List ℕ) → Option (List ℕ)
led_by Own s beyond = Some []
led_by Opp s beyond = option_map (λ run. s ∷ run) beyond
led_by Empty s beyond = None

-- the squares of the opposing discs along these squares up to the first own disc; None where an empty square, or the
-- end of the squares, comes before an own disc
abbrev pub outflanked : List Cell → List ℕ → Option (List ℕ)
outflanked board [] = None
outflanked board (s ∷ beyond) = led_by (cell_at board s) s (outflanked board beyond)

-- the squares of the unbroken straight run of opposing discs that starts beside s in a direction, if a disc of the
-- mover ends it; else []
abbrev pub run : List Cell → ℕ → Direction → List ℕ
run board s d = unwrap_or (outflanked board (ray d s)) []

-- the discs that a disc of the mover on s outflanks, in all directions
abbrev pub flips : List Cell → ℕ → List ℕ
flips board s = flat_map (run board s) directions

-- whether a square's cell is empty
abbrev pub is_empty_cell : Cell → Bool
is_empty_cell Empty = true
is_empty_cell _ = false

-- whether a square's cell has a disc of the mover
abbrev pub is_own_cell : Cell → Bool
is_own_cell Own = true
is_own_cell _ = false

-- whether a square's cell has a disc of the opponent
abbrev pub is_opp_cell : Cell → Bool
is_opp_cell Opp = true
is_opp_cell _ = false

-- whether a list of squares is empty
abbrev pub is_nil : List ℕ → Bool
is_nil [] = true
is_nil (s ∷ more) = false

-- a legal move: onto an empty square, outflanking at least one disc
abbrev pub is_legal : List Cell → ℕ → Bool
is_legal board s = is_empty_cell (cell_at board s) && not (is_nil (flips board s))

-- whether the square s is in a list of squares
abbrev pub is_among : ℕ → List ℕ → Bool
is_among s discs = list_any (λ t. t == s) discs

-- the board with an own disc on each of these squares, and every other cell as it was
abbrev pub made_own : List ℕ → List Cell → List Cell
made_own discs board = map (λ s. if is_among s discs then Own else cell_at board s) squares

-- the cell as the other player sees it: own and opposing discs exchanged
abbrev pub exchanged_cell : Cell → Cell
exchanged_cell Empty = Empty
exchanged_cell Own = Opp
exchanged_cell Opp = Own

-- the board as the other player sees it: own and opposing discs exchanged
abbrev pub exchanged : List Cell → List Cell
exchanged board = map exchanged_cell board

-- the board after the mover's move to s, seen by the other player: the new disc and all discs that it outflanks are
-- the mover's, and a flipped disc outflanks nothing further
abbrev pub played : List Cell → ℕ → List Cell
played board s = exchanged (made_own (s ∷ flips board s) board)
