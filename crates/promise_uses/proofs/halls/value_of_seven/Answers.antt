-- A use of the promise on values (`value_of_seven`): what a hall tells of tenant 7's job 3 is the minimax value and
-- the best choice.
use Rattle.promise_uses.proofs.Parts.{if-some}
use Rattle.promise_uses.proofs.halls.value_of_seven.Goals as goal

pub returns : goal.returns
returns g c = if-some c.value_in.result (λ told is. (is.own, is.opp, is.depth, is.asked.shallow, is.asked.words, is.value_is, is.choice_is)) c.value_in.ensures
