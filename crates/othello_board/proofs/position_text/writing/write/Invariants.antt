-- A position is written as text (`writing::write`): at each turn, the text spells the squares passed so far.
use Rattle.othello_board.proofs.PositionText.WrittenText.{WritesFirst}
use Rattle.othello_board.proofs.position_text.writing.write.Given as goal

abbrev pub invariant-loop-square : goal.invariant-loop-square
invariant-loop-square l = WritesFirst l.text (record { board = l.board; side = l.side }) l.square
