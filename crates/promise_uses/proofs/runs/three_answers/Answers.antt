-- A use of the promise on any list of steps (`three_answers`): three steps have three answers.
use Rattle.promise_uses.proofs.Common.{◌∙◌, if-ok}
use Rattle.promise_uses.proofs.runs.three_answers.Goals as goal

pub returns : goal.returns
returns g c = if-ok c.run_any.result (λ run as_many count three. as_many ∙ three) c.run_any.ensures.answered
