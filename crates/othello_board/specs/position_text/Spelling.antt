-- Meaning: the text of an Othello position: the 64 cells from a1 to h8, row by row, a space, and the side to move.
use Rattle.std.specs.Prelude.{◌≡◌, ◌≢◌, ℕ, ◌<◌, ◌^◌, ◌⊎◌, ◌==◌, ◌||◌, if◌then◌else◌, Option, Some, None, IsSome, List, [], ◌∷◌, ◌++◌, map, length, slice_index}
use Rattle.std.specs.Option.{option_and_then}
use Rattle.std.specs.Str.{byte}
use Rattle.othello_board.specs.declared.cells.Cell.{Cell}
use Rattle.othello_board.specs.declared.cells.Cell.TheVariants.{Empty, Own, Opp}
use Rattle.othello_board.specs.Rules.{cell_at}
use Rattle.othello_board.specs.Words.{cells}
use Rattle.othello_board.specs.declared.position_text.positions.Side.{Side}
use Rattle.othello_board.specs.declared.position_text.positions.Side.TheVariants.{Black, White}
use Rattle.othello_board.specs.declared.position_text.positions.Position.{Position}
use Rattle.othello_board.specs.declared.position_text.marks.Mark.{Mark}
use Rattle.othello_board.specs.declared.position_text.marks.Mark.TheVariants.{Disc, Blank}

-- what a byte spells: X, x and * a black disc, O and o a white one, - and . an empty cell; None for any other byte
abbrev pub spelled : ℕ → Option Mark
spelled b =
    if b == byte "X" || b == byte "x" || b == byte "*" then Some (Disc Black)
    else (if b == byte "O" || b == byte "o" then Some (Disc White)
    else (if b == byte "-" || b == byte "." then Some Blank
    else None))

-- the side whose disc a mark is; None for a blank
abbrev pub side_of : Mark → Option Side
side_of (Disc side) = Some side
side_of Blank = None

-- the side that a byte spells, which is written as one of its discs; None where the byte spells no disc
abbrev pub side_spelled : ℕ → Option Side
side_spelled b = option_and_then side_of (spelled b)

-- the opponent's side: White for Black, Black for White
abbrev pub other_side : Side → Side
other_side Black = White
other_side White = Black

-- the mark of a cell as this side sees it: an own disc has the colour of this side, an opposing one that of the other
abbrev pub mark_of_cell : Side → Cell → Mark
mark_of_cell side Own = Disc side
mark_of_cell side Opp = Disc (other_side side)
mark_of_cell side Empty = Blank

-- a text spells a position: it has 66 bytes, each of the first 64 spells what stands on its cell,
-- then come a space and a spelling of the side
pub record Spells (text : List ℕ) (p : Position) : Type 0 where
  pub len : length text ≡ 66
  pub each : (s : ℕ) → s < 64 → spelled (slice_index text s) ≡ Some (mark_of_cell p.side (cell_at (cells p.board) s))
  pub space : slice_index text 64 ≡ byte " "
  pub side : side_spelled (slice_index text 65) ≡ Some p.side

-- the byte that a mark is written as: X, O or -
abbrev pub byte_of : Mark → ℕ
byte_of (Disc Black) = byte "X"
byte_of (Disc White) = byte "O"
byte_of Blank = byte "-"

-- the written text of a position, in X, O and - alone
abbrev pub written : Position → List ℕ
written p = map (λ cell. byte_of (mark_of_cell p.side cell)) (cells p.board) ++ byte " " ∷ byte_of (Disc p.side) ∷ []

-- both words of the position's board are below 2^64, as in every position of the code
abbrev pub FitsWords : Position → Type 0
FitsWords p = (p.board.own < 2 ^ 64) × (p.board.opp < 2 ^ 64)

-- each of the first n bytes of a text spells a cell
abbrev pub AllSpelled : List ℕ → ℕ → Type 0
AllSpelled text n = (s : ℕ) → s < n → IsSome (spelled (slice_index text s))

-- a text of 66 bytes in which the byte at this place is the first that spells no cell
pub record IsBadCell (text : List ℕ) (at : ℕ) : Type 0 where
  pub len : length text ≡ 66
  pub within : at < 64
  pub unspelled : spelled (slice_index text at) ≡ None
  pub before : AllSpelled text at

-- a text of 66 bytes whose first 64 each spell a cell, but byte 64 is no space or byte 65 spells no side
pub record IsBadSide (text : List ℕ) : Type 0 where
  pub len : length text ≡ 66
  pub before : AllSpelled text 64
  pub unspelled : (slice_index text 64 ≢ byte " ") ⊎ (side_spelled (slice_index text 65) ≡ None)
