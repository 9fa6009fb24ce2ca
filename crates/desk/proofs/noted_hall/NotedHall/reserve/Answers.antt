-- A hall with its history raises a reservation (`NotedHall::reserve`): taken, the history ends with just this
-- AdmitMore; refused, it is for one of the reasons told.
use Rattle.desk.proofs.Common.{rules, Contains, IfErr, reserve_refusals}
use Rattle.desk.proofs.Refused.{reserve-refused}
use Rattle.desk.proofs.noted_hall.NotedHall.reserve.Goals as goal

pub returns-in_err-take_for-clause-refused : goal.returns-in_err-take_for-clause-refused
returns-in_err-take_for-clause-refused g c =
    let known : IfErr c.take_for.result (Contains reserve_refusals) = reserve-refused _ _ _ _ c.take_for.result c.take_for.ensures.step in
    search rules

pub returns-clause-told : goal.returns-clause-told
returns-clause-told g c = λ begun come. let told = c.take_for.ensures.told begun come in search rules

pub returns-in_err-take_for-clause-told : goal.returns-in_err-take_for-clause-told
returns-in_err-take_for-clause-told g c = λ begun come. let told = c.take_for.ensures.told begun come in search rules
