-- A worker offers a step under the desk's lock (`LockedHall::offer`): the history and the ledger still count each step
-- once.
use Rattle.desk.proofs.Common.{rules, ◌∙◌}
use Rattle.desk.proofs.Noting.{tallied}
use Rattle.desk.proofs.locked_hall.LockedHall.offer.Goals as goal

pub invariant_of-self : goal.invariant_of-self
invariant_of-self g c =
    let i = c.self.invariant in
    let r = c.offer-answer.ensures in
    let inside = c.self.inside in
    let count = tallied c.offer-answer.result inside.noted.hall c.offer-answer.new.self.hall inside.before inside.book.total c.tally.new.book.total r.moved c.tally.ensures.total i.0 in
    let come = r.come g.L.DeskLedger.begun i.7 in
    let kept = r.moved.1 ∙ i.1 in
    search rules
