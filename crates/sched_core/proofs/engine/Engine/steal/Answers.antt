-- The core does a Steal (`Engine::steal`): the tenant has a step left, the frame runs by the worker, and the outcome
-- is the definition's.
use Rattle.sched_core.proofs.Common.{refl, err_from_is_err_and, found-serial, arith}
use Rattle.sched_core.proofs.TakenStep.{step_result-refused, steal-going, begins, then-run}
use Rattle.sched_core.proofs.engine.Engine.steal.Goals as goal

pub returns-in_err-may_steal-clause-step_result : goal.returns-in_err-may_steal-clause-step_result
returns-in_err-may_steal-clause-step_result g c =
    let p = err_from_is_err_and c.from_residual.result c.from_residual.ensures.1 in
    step_result-refused p.1 p.2 c.in_err-may_steal.ensures.refusal refl

pub run-requires-clause-left : goal.run-requires-clause-left
run-requires-clause-left g c = grind arith

pub returns-clause-step_result : goal.returns-clause-step_result
returns-clause-step_result g c =
    let t = steal-going (g.P.Procedure.functions c.args.self.now.procedure) c.args.self.now.store c.args.worker c.args.name c.args.from c.in_ok-may_steal.ensures.refusal in
    let w = then-run (begins _ c.args.self.now.store t.owner) _ _ c.run.ensures.ran in grind (arith, found-serial)
