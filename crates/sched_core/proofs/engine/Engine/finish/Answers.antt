-- The core does a Finish (`Engine::finish`): a step is left to be counted, and the outcome, the job done with the
-- first words of its root, is the definition's.
use Rattle.sched_core.proofs.Common.{arith, ◌≡◌, Done, kept_words, ended, counted, found-serial}
use Rattle.sched_core.proofs.TakenStep.{begins, then-changed, step-left}
use Rattle.sched_core.proofs.Ending.{finish-going, named-words}
use Rattle.sched_core.proofs.engine.Engine.finish.Goals as goal

pub count_step-requires : goal.count_step-requires
count_step-requires g c =
    let t = finish-going (g.P.Procedure.functions c.args.self.now.procedure) c.args.self.now.store c.args.name c.args.worker c.in_ok-may_finish.ensures.refusal in step-left (then-changed (ended c.args.name.serial (Done c.of-kept.result)) (begins _ c.args.self.now.store t.owner) c.end_at.ensures) t.passes.1.0

pub returns-clause-step_result : goal.returns-clause-step_result
returns-clause-step_result g c =
    let t = finish-going (g.P.Procedure.functions c.args.self.now.procedure) c.args.self.now.store c.args.name c.args.worker c.in_ok-may_finish.ensures.refusal in
    let w = then-changed counted (then-changed (ended c.args.name.serial (Done c.of-kept.result)) (begins _ c.args.self.now.store t.owner) c.end_at.ensures) c.count_step.ensures in
    let kept : c.of-kept.result ≡ kept_words t.frame.value = grind (arith, named-words) in grind (arith, found-serial)
