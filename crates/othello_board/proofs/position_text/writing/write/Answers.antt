-- A position is written as text (`writing::write`): the text has a byte for each cell and the side, and spells the
-- position.
use Rattle.othello_board.proofs.PositionText.Common.{arith, refl}
use Rattle.othello_board.proofs.PositionText.WrittenText.{writes-none, writes-all, is-written, written-spells}
use Rattle.othello_board.proofs.position_text.writing.write.Goals as goal

pub loop-square-init : goal.loop-square-init
loop-square-init c = writes-none _ _ refl

pub returns-clause-value : goal.returns-clause-value
returns-clause-value c =
    is-written _ c.args.position.now (writes-all _ _ c.loop-square.square _ (omega arith) c.byte_of-2.ensures c.loop-square.invariant)

pub returns-clause-spells : goal.returns-clause-spells
returns-clause-spells c =
    written-spells _ c.args.position.now (writes-all _ _ c.loop-square.square _ (omega arith) c.byte_of-2.ensures c.loop-square.invariant)
