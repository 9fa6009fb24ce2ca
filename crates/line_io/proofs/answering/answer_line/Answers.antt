-- One line of an input is answered (`answering::answer_line`): the answer is written with its LF, or where a write
-- fails a beginning of it.
use Rattle.line_io.proofs.Common.{◌∙◌}
use Rattle.line_io.proofs.Answered.{LinesAnswered-one}
use Rattle.line_io.proofs.answering.answer_line.Goals as goal

pub returns : goal.returns
returns g c =
    let answer = c.answer.ensures in
    LinesAnswered-one _ answer.1 (c.text.ensures ∙ answer.2) _ c.write_text.ensures
