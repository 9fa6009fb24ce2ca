-- Meaning: what the words `depth position` of a line ask for, or their first fault: 23 where the depth is no number,
-- 27 where it is over 12, then 24 for the length of the position's text, 25 for a cell and 26 for the side.
use Rattle.std.specs.Prelude.{ℕ, ◌==◌, if◌then◌else◌, nat_le, List, map, length, Option, Some, None, Result, Ok, Err}
use Rattle.othello_board.specs.declared.cells.Cell.{Cell}
use Rattle.othello_moves.specs.Depths.{greatest_depth}
use Rattle.othello_board.specs.declared.position_text.positions.Side.{Side}
use Rattle.othello_board.specs.declared.position_text.marks.Mark.{Mark}
use Rattle.othello_board.specs.position_text.Readings.{marks_of, mover_of, seen_by}
use Rattle.protocol.specs.declared.faults.ProtocolFault.{ProtocolFault}
use Rattle.protocol.specs.declared.faults.ProtocolFault.TheVariants.{NoNumber, PositionLength, PositionCell, PositionSide, TooDeep}
use Rattle.protocol.specs.Words.{word_number}

-- a question: the depth to which the value of a board is asked for, the board as the side to move sees it, and that
-- side
pub record QuestionOf : Type 0 where
  pub depth : ℕ
  pub board : List Cell
  pub side : Side

-- the question of this depth, marks and side to move; fault 26 where there is no spelling of a side (None)
abbrev pub mover_question : ℕ → List Mark → Option Side → Result QuestionOf ProtocolFault
mover_question depth marks None = Err PositionSide
mover_question depth marks (Some side) = Ok (record { depth = depth; board = map (seen_by side) marks; side = side })

-- the question of this depth, marks and side to move; fault 25 where a cell isn't spelled (None), else 26 where no
-- side is
abbrev pub marks_question : ℕ → Option (List Mark) → Option Side → Result QuestionOf ProtocolFault
marks_question depth None mover = Err PositionCell
marks_question depth (Some marks) mover = mover_question depth marks mover

-- the question of this depth and a position's text; fault 24 where the text hasn't 66 bytes, else 25 or 26
abbrev pub position_question : ℕ → List ℕ → Result QuestionOf ProtocolFault
position_question depth text =
    if length text == 66 then marks_question depth (marks_of text) (mover_of text) else Err PositionLength

-- the question of this depth and a position's text; fault 23 where the depth is no number (None), 27 where it is over
-- 12
abbrev pub depth_question : Option ℕ → List ℕ → Result QuestionOf ProtocolFault
depth_question None text = Err NoNumber
depth_question (Some depth) text = if nat_le depth greatest_depth then position_question depth text else Err TooDeep

-- what a depth's word and a position's text ask for, or their first fault
abbrev pub question : List ℕ → List ℕ → Result QuestionOf ProtocolFault
question depth text = depth_question (word_number depth) text
