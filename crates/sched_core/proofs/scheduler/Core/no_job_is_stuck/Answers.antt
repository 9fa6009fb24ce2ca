-- No job of a core is stuck (`Core::no_job_is_stuck`), by what a core keeps.
use Rattle.sched_core.proofs.Apart.{rising-apart}
use Rattle.sched_laws.specs.Onward.{AreNumbersApart}
use Rattle.sched_laws.specs.Shapes.{AreShaped}
use Rattle.sched_core.proofs.scheduler.Core.no_job_is_stuck.Goals as goal

pub returns-clause-going : goal.returns-clause-going
returns-clause-going g c waits answers number job root lives =
    let shaped : AreShaped c.args.self.now.shared.tenants = rw (← c.self.view_is) c.self.invariant.kept.shaped in
    let apart : AreNumbersApart c.args.self.now.shared.tenants = rw (← c.self.view_is) (rising-apart _ c.newest-known.ensures.rising) in
    c.no_live_job_is_stuck.ensures c.args.self.now.procedure c.args.self.now.shared number job root shaped apart waits answers lives
