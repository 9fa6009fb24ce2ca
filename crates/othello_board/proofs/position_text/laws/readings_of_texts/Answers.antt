-- Of texts of positions: reading them byte by byte agrees with the rule of spelling, so the law `readings_of_texts`.
use Rattle.othello_board.proofs.PositionText.ReadingLemmas.{marks_of-spelled, mover_of-spelled, seen-mark-of, marks_of-bad_cell, marks_of-bad_side, mover_of-bad_side}
use Rattle.othello_board.proofs.position_text.laws.readings_of_texts.Goals as goal

pub returns : goal.returns
returns c = record {
  marks = marks_of-spelled;
  mover = mover_of-spelled;
  seen = seen-mark-of;
  bad_cell = marks_of-bad_cell;
  bad_side = mover_of-bad_side;
  cells_before_bad_side = marks_of-bad_side;
}
