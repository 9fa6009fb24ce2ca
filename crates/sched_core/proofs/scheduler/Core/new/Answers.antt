-- A new core (`Core::new`): one without a tenant keeps all that a core keeps true.
use Rattle.sched_core.proofs.Fitting.{nobody-kept}
use Rattle.sched_core.proofs.scheduler.Core.new.Goals as goal

pub invariant_of-result : goal.invariant_of-result
invariant_of-result g c =
    rw c.in_ok-store.ensures (nobody-kept (g.P.Procedure.fits c.args.procedure) (g.P.Procedure.rooted c.args.procedure) c.args.config)
