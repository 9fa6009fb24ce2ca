-- The desk gives its hall back at the end (`LockedHall::closed`): the hall has come by the history; and the share that
-- comes with it, if one does, has all parts of the ledger, so that the count is right.
use Rattle.desk.proofs.Common.{rules, sym, ap, subst, HallOf, IsComeBy}
use Rattle.desk.proofs.Owners.{Entries}
use Rattle.desk.proofs.Coming.{at-end}
use Rattle.desk.proofs.locked_hall.LockedHall.closed.Goals as goal

pub returns-clause-come : goal.returns-clause-come
returns-clause-come g c =
    let begun = g.L.DeskLedger.begun in
    let parts = c.into_parts-hall in
    let come = subst (λ (x : HallOf × Entries). IsComeBy begun x.0.grain x.0.shared x.1) (λ i. (sym parts.ensures.hall i, ap (λ l. l.entries) (sym parts.ensures.log) i)) c.self.invariant.7 in
    at-end begun parts.result.0 parts.result.1.entries come

pub returns-clause-parts : goal.returns-clause-parts
returns-clause-parts g c = search rules

pub returns-clause-count : goal.returns-clause-count
returns-clause-count g c = search rules
