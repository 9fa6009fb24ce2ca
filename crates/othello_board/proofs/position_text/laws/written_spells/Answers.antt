-- Of a written position: its text spells it, so the law `written_spells`.
use Rattle.othello_board.proofs.PositionText.Common.{written}
use Rattle.othello_board.proofs.PositionText.WrittenText.{written-is, written-spells}
use Rattle.othello_board.proofs.position_text.laws.written_spells.Goals as goal

pub returns : goal.returns
returns c = written-spells (written c.args.position) c.args.position (written-is c.args.position)
