-- The core does a Take (`Engine::take`): the tenant has a step left, the frame runs by the worker, and the outcome is
-- the definition's.
use Rattle.sched_core.proofs.Common.{found-serial, arith}
use Rattle.sched_core.proofs.TakenStep.{take-going, begins, then-run}
use Rattle.sched_core.proofs.engine.Engine.take.Goals as goal

pub run-requires-clause-left : goal.run-requires-clause-left
run-requires-clause-left g c = grind arith

pub returns-clause-step_result : goal.returns-clause-step_result
returns-clause-step_result g c =
    let t = take-going (g.P.Procedure.functions c.args.self.now.procedure) c.args.self.now.store c.args.worker c.args.name c.in_ok-may_take.ensures.refusal in
    let w = then-run (begins _ c.args.self.now.store t.owner) _ _ c.run.ensures.ran in grind (arith, found-serial)
