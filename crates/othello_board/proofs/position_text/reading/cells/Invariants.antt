-- A position's text is read (`reading::cells`): at each turn, the discs are those of the cells read so far.
use Rattle.othello_board.proofs.PositionText.Common.{HoldsFirst}
use Rattle.othello_board.proofs.position_text.reading.cells.Given as goal

abbrev pub invariant-loop-square : goal.invariant-loop-square
invariant-loop-square l = HoldsFirst l.discs.black l.discs.white l.text l.square
