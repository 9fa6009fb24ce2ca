-- A seat leaves under the desk's lock (`LockedHall::leave`): its tenant's Leave ends the history, and its share goes
-- to the spare one.
use Rattle.desk.proofs.Common.{rules, ap}
use Rattle.desk.proofs.Noting.{left-as}
use Rattle.desk.proofs.locked_hall.LockedHall.leave.Goals as goal

pub invariant_of-self : goal.invariant_of-self
invariant_of-self g c =
    let begun = g.L.DeskLedger.begun in
    let moved = c.leave-token.ensures.moved begun c.self.invariant.7 in
    let come = c.leave-token.ensures.come begun c.self.invariant.7 in
    search rules

pub returns-clause-told : goal.returns-clause-told
returns-clause-told g c = rw (← c.seat.view_is) ((c.leave-token.ensures.told g.L.DeskLedger.begun c.self.invariant.7).0)

pub returns-clause-true_to : goal.returns-clause-true_to
returns-clause-true_to g c = rw (← c.seat.view_is) ((c.leave-token.ensures.told g.L.DeskLedger.begun c.self.invariant.7).1)

pub returns-clause-step : goal.returns-clause-step
returns-clause-step g c =
    let begun = g.L.DeskLedger.begun in
    let come = c.self.invariant.7 in
    let left = c.leave-token.ensures in
    rw (← c.self.view_is)
    (rw (← c.seat.view_is)
    (left-as c.self.inside.noted.hall c.leave-token.new.self.hall c.keep_share.new.self.hall c.seat.inside.core.seat c.seat.inside.steps (left.step begun come) (left.moved begun come) c.seat.invariant.3 (ap (λ k. k.hall) c.keep_share.ensures)))
