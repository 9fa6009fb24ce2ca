-- The core does an Answer (`Engine::answer`): the computing frame stores what the procedure makes of it and runs
-- again, and the outcome is the definition's.
use Rattle.sched_core.proofs.Common.{arith, not-false, found-serial}
use Rattle.sched_core.proofs.TakenStep.{then-run, step-left}
use Rattle.sched_core.proofs.Ending.{with-named}
use Rattle.sched_core.proofs.Acting.{IsAnswered, is-answered, computes-holds, may-hold}
use Rattle.sched_core.proofs.engine.Engine.answer.Given.{Over}
use Rattle.sched_core.proofs.engine.Engine.answer.Goals.{After-store_all}
use Rattle.sched_core.proofs.engine.Engine.answer.Goals as goal

-- the answer is allowed, and the stores that it asks for are made
accepted : (g : Over) (c : After-store_all g) →
    IsAnswered (g.P.Procedure.functions c.args.self.now.procedure) c.args.self.now.store c.args.worker c.args.name c.args.answer.now c.store_all.new.self
accepted g c = is-answered c.in_ok-stores.ensures.refusal (rw (c.as_slice.ensures, c.in_ok-stores.ensures.stores) at c.store_all.ensures)

pub run-requires-clause-there : goal.run-requires-clause-there
run-requires-clause-there g c =
    let a = accepted g (goal.at.run-requires-clause-there g c).After-store_all in
    with-named c.args.name _ a.has_frame a.has_words

pub run-requires-clause-free : goal.run-requires-clause-free
run-requires-clause-free g c =
    let a = accepted g (goal.at.run-requires-clause-free g c).After-store_all in
    may-hold c.args.name _ a.has_frame c.store_all.new.self c.args.worker a.has_words.there (computes-holds c.args.worker _ (not-false _ a.going.passes.0))

pub run-requires-clause-left : goal.run-requires-clause-left
run-requires-clause-left g c =
    let a = accepted g (goal.at.run-requires-clause-left g c).After-store_all in
    step-left a.has_words a.going.passes.1.1.0

pub returns-clause-step_result : goal.returns-clause-step_result
returns-clause-step_result g c =
    let a = accepted g (goal.at.returns-clause-step_result g c).After-store_all in
    let w = then-run a.has_words _ _ c.run.ensures.ran in grind (arith, found-serial)
