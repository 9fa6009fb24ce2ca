-- A use of the promise on lists of searches (`eight_answers`): eight steps have eight answers.
use Rattle.promise_uses.proofs.Common.{◌∙◌, if-ok}
use Rattle.promise_uses.proofs.runs.eight_answers.Goals as goal

pub returns : goal.returns
returns g c = if-ok c.run.result (λ run as_many count eight. as_many ∙ eight) c.run.ensures.answered
