-- The last line of an input is answered (`answering::answer_last`): where no byte came since the last LF nothing is
-- written.
use Rattle.line_io.proofs.Common.{sym, ap, ◌∙◌, option_to_list, option_map, text_of}
use Rattle.line_io.proofs.Answered.{LinesAnswered-none, LinesAnswered-same}
use Rattle.line_io.proofs.answering.answer_last.Goals as goal

pub returns-in-None : goal.returns-in-None
returns-in-None g c =
    LinesAnswered-same (sym (ap (λ o. option_to_list (option_map text_of o)) c.in-None.is) ∙ ap option_to_list c.last.ensures) LinesAnswered-none
