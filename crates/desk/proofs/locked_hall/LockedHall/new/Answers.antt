-- A hall is put under a desk's lock (`LockedHall::new`): with a new ledger and a new history the invariant of what
-- lies there holds.
use Rattle.desk.proofs.Common.{rules, sym, subst, HallOf, HasCome}
use Rattle.desk.proofs.locked_hall.LockedHall.new.Goals as goal

pub invariant_of-result : goal.invariant_of-result
invariant_of-result g c =
    let begun = g.L.DeskLedger.begun in
    let come = subst (HasCome begun) (sym c.keep.ensures) (subst (λ (b : HallOf). HasCome b c.new-noted.result) c.requires.begun c.new-noted.ensures.come) in
    search rules
