-- The discs of a position's text (`discs::with_bit`): the bit of this square is set and no other changes.
use Rattle.othello_board.proofs.PositionText.Common.{w64, bit_at_set_same, bit_at_set_other}
use Rattle.othello_board.proofs.position_text.discs.with_bit.Goals as goal

pub returns-clause-here : goal.returns-clause-here
returns-clause-here c = bit_at_set_same w64 c.args.word c.args.square c.requires

pub returns-clause-others : goal.returns-clause-others
returns-clause-others c = λ s other. bit_at_set_other w64 c.args.word c.args.square c.requires s other
