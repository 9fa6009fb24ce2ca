-- The core does a Cancel (`Engine::cancel`): the live job's root is there, and the outcome is the definition's.
use Rattle.sched_core.proofs.Common.{refl, Cancelled as CancelledJob, ended}
use Rattle.sched_core.proofs.TakenStep.{begins, then-changed, step_result-taken}
use Rattle.sched_core.proofs.Ending.{cancel-going, cancel-root}
use Rattle.sched_core.proofs.engine.Engine.cancel.Goals as goal

pub end_at-requires-clause-there : goal.end_at-requires-clause-there
end_at-requires-clause-there g c =
    let l = cancel-going c.args.self.now.store c.args.number c.args.job _ (g.P.Procedure.functions c.args.self.now.procedure) c.in_ok-serial.ensures.root in
    cancel-root c.args.self.now.store c.args.number c.args.job c.in_ok-serial.serial l.tenant c.requires l.owner l.job_is

pub returns-clause-step_result : goal.returns-clause-step_result
returns-clause-step_result g c =
    let l = cancel-going c.args.self.now.store c.args.number c.args.job _ (g.P.Procedure.functions c.args.self.now.procedure) c.in_ok-serial.ensures.root in
    let w = begins _ c.args.self.now.store l.owner in
    let w1 = then-changed (ended c.in_ok-serial.serial CancelledJob) w c.end_at.ensures in
    step_result-taken l.among refl w1.is
