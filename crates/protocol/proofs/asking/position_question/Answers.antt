-- A question of a line about a position (`position_question`): what is read is the question that the text spells, or
-- its first fault.
use Rattle.std.proofs.Common.{sym, ap, ◌∙◌}
use Rattle.protocol.proofs.QuestionLemmas.{faulty, spelled-question, fault-question}
use Rattle.protocol.proofs.asking.position_question.Goals as goal

pub returns-in-Ok : goal.returns-in-Ok
returns-in-Ok c = sym (spelled-question c.args.depth c.args.text.now c.in-Ok.position c.in-Ok.ensures.ok)

pub returns-in-Err : goal.returns-in-Err
returns-in-Err c =
    ap faulty c.from.ensures
    ∙ sym (fault-question c.args.depth c.args.text.now c.in-Err.fault c.in-Err.ensures.length c.in-Err.ensures.cell c.in-Err.ensures.side)
