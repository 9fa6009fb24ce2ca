-- A seat looks at the history under the desk's lock (`LockedHall::show`): the hall is where the history that it sees
-- leads to.
use Rattle.desk.proofs.locked_hall.LockedHall.show.Goals as goal

pub returns-clause-core : goal.returns-clause-core
returns-clause-core g c = rw (← c.self.view_is) (c.show.ensures.core g.L.DeskLedger.begun c.self.invariant.7)
