-- A hall with its history takes an ask (`NotedHall::ask`): taken, the history ends with just this Submit; refused, it
-- is for one of the reasons told.
use Rattle.desk.proofs.Common.{rules, Contains, IfErr, ask_refusals}
use Rattle.desk.proofs.Refused.{ask-refused}
use Rattle.desk.proofs.noted_hall.NotedHall.ask.Goals as goal

pub returns-in_err-take_for-clause-refused : goal.returns-in_err-take_for-clause-refused
returns-in_err-take_for-clause-refused g c =
    let decided = rw c.submit-search.ensures.step at c.take_for.ensures.step in
    let known : IfErr c.take_for.result (Contains ask_refusals) = ask-refused _ _ _ _ _ _ c.take_for.result decided in
    search rules

pub returns-clause-told : goal.returns-clause-told
returns-clause-told g c = λ begun come fits. let told = rw c.submit-search.ensures.step at c.take_for.ensures.told begun come in search rules

pub returns-in_err-take_for-clause-told : goal.returns-in_err-take_for-clause-told
returns-in_err-take_for-clause-told g c = λ begun come fits. let told = rw c.submit-search.ensures.step at c.take_for.ensures.told begun come in search rules
