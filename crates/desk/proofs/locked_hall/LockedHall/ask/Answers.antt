-- A seat asks for a search under the desk's lock (`LockedHall::ask`): what the seat then knows of the history is true,
-- and the shares still add up.
use Rattle.desk.proofs.Common.{rules, ◌∙◌}
use Rattle.desk.proofs.Noting.{asked-share, tallied}
use Rattle.desk.proofs.locked_hall.LockedHall.ask.Goals as goal

pub invariant_of-self : goal.invariant_of-self
invariant_of-self g c =
    let i = c.self.invariant in
    let r = c.ask-answer.ensures in
    let inside = c.self.inside in
    let count = tallied c.ask-answer.result inside.noted.hall c.ask-answer.new.self.hall inside.before inside.book.total c.tally.new.book.total r.moved c.tally.ensures.total i.0 in
    let come = r.come g.L.DeskLedger.begun i.7 in
    let kept = r.moved.1 ∙ i.1 in
    search rules

pub invariant_of-seat : goal.invariant_of-seat
invariant_of-seat g c =
    let i = c.self.invariant in
    let r = c.ask-answer.ensures in
    let inside = c.self.inside in
    let count = tallied c.ask-answer.result inside.noted.hall c.ask-answer.new.self.hall inside.before inside.book.total c.tally.new.book.total r.moved c.tally.ensures.total i.0 in
    let steps = asked-share _ c.ask-answer.result c.seat.inside.core.seat c.ask-answer.new.seat.seat c.seat.inside.steps c.tally.new.steps r.asked c.tally.ensures.steps c.seat.invariant.3 in
    search rules

pub returns-clause-told : goal.returns-clause-told
returns-clause-told g c = rw (← c.seat.view_is) (c.ask-answer.ensures.told g.L.DeskLedger.begun c.self.invariant.7)
