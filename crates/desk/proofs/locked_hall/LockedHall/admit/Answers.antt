-- A tenant is admitted under the desk's lock (`LockedHall::admit`): the seat knows its Admit as the end of the
-- history, and the shares of seats, badges and the spare one still add up.
use Rattle.desk.proofs.Common.{rules}
use Rattle.desk.proofs.locked_hall.LockedHall.admit.Goals as goal

pub invariant_of-self-2 : goal.invariant_of-self-2
invariant_of-self-2 g c =
    let come = c.in_ok-core.ensures.come g.L.DeskLedger.begun c.self.invariant.7 in
    search rules

pub invariant_of-result : goal.invariant_of-result
invariant_of-result g c =
    let told = c.in_ok-core.ensures.told g.L.DeskLedger.begun c.self.invariant.7 in
    search rules

pub returns-clause-admitted : goal.returns-clause-admitted
returns-clause-admitted g c = (c.in_ok-core.ensures.told g.L.DeskLedger.begun c.self.invariant.7).0

pub returns-clause-new : goal.returns-clause-new
returns-clause-new g c = (c.in_ok-core.ensures.told g.L.DeskLedger.begun c.self.invariant.7).2
