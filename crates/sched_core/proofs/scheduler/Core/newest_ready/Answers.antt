-- A core tells a tenant's newest ready frame (`Core::newest_ready`): it is the ready one of the greatest serial.
use Rattle.sched_core.proofs.Showing.{newest-of}
use Rattle.sched_core.proofs.scheduler.Core.newest_ready.Goals as goal

pub returns-clause-newest : goal.returns-clause-newest
returns-clause-newest g c = rw (c.newest_ready.ensures, ← c.self.view_is) (newest-of c.args.tenant c.self.invariant.kept)
