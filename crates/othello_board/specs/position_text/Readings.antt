-- Meaning: what a position's text says, read byte by byte: the marks of its cells, and the side to move.
use Rattle.std.specs.Prelude.{ℕ, ◌==◌, if◌then◌else◌, Option, Some, None, List, [], ◌∷◌, map, slice_index}
use Rattle.std.specs.Option.{option_map}
use Rattle.std.specs.Str.{byte}
use Rattle.othello_board.specs.declared.cells.Cell.{Cell}
use Rattle.othello_board.specs.declared.cells.Cell.TheVariants.{Empty, Own, Opp}
use Rattle.othello_board.specs.Rules.{squares}
use Rattle.othello_board.specs.declared.position_text.positions.Side.{Side}
use Rattle.othello_board.specs.declared.position_text.positions.Side.TheVariants.{Black, White}
use Rattle.othello_board.specs.declared.position_text.marks.Mark.{Mark}
use Rattle.othello_board.specs.declared.position_text.marks.Mark.TheVariants.{Disc, Blank}
use Rattle.othello_board.specs.position_text.Spelling.{spelled, side_spelled}

-- the values of a list of options, in order; None where one of them is None
abbrev pub all_of : {X : Type 0} → List (Option X) → Option (List X)
all_of [] = Some []
all_of (None ∷ more) = None
all_of (Some x ∷ more) = option_map (λ xs. x ∷ xs) (all_of more)

-- the marks that the first 64 bytes of a text spell; None where one of them spells no cell
abbrev pub marks_of : List ℕ → Option (List Mark)
marks_of text = all_of (map (λ s. spelled (slice_index text s)) squares)

-- the side to move, which the byte after the 64 cells and a space spells; None where there is no space or no spelling
-- of a side
abbrev pub mover_of : List ℕ → Option Side
mover_of text = if slice_index text 64 == byte " " then side_spelled (slice_index text 65) else None

-- the cell that a side sees where this mark stands
abbrev pub seen_by : Side → Mark → Cell
seen_by side Blank = Empty
seen_by Black (Disc Black) = Own
seen_by Black (Disc White) = Opp
seen_by White (Disc Black) = Opp
seen_by White (Disc White) = Own
