-- The core does any step (`Engine::step`): each kind, done by its own function, is one step by the definitions.
use Rattle.sched_core.proofs.Common.{refl}
use Rattle.sched_core.proofs.Stepping.{one-step, one-admission}
use Rattle.sched_core.proofs.engine.Engine.step.Goals as goal

pub returns-in-AdmitMore-clause-one : goal.returns-in-AdmitMore-clause-one
returns-in-AdmitMore-clause-one g c = rw c.in-AdmitMore.is (one-admission _ _ _ refl c.admit_more.ensures.admitted)

pub returns-in-Submit-clause-one : goal.returns-in-Submit-clause-one
returns-in-Submit-clause-one g c = rw c.in-Submit.is (one-step _ _ _ _ (rw c.as_slice.ensures.words at c.submit.ensures.step_result))

pub returns-in-Take-clause-one : goal.returns-in-Take-clause-one
returns-in-Take-clause-one g c = rw c.in-Take.is (one-step _ _ _ _ c.take.ensures.step_result)

pub returns-in-Steal-clause-one : goal.returns-in-Steal-clause-one
returns-in-Steal-clause-one g c = rw c.in-Steal.is (one-step _ _ _ _ c.steal.ensures.step_result)

pub returns-in-Advance-clause-one : goal.returns-in-Advance-clause-one
returns-in-Advance-clause-one g c = rw c.in-Advance.is (one-step _ _ _ _ c.advance.ensures.step_result)

pub returns-in-Answer-clause-one : goal.returns-in-Answer-clause-one
returns-in-Answer-clause-one g c = rw c.in-Answer.is (one-step _ _ _ _ c.answer.ensures.step_result)

pub returns-in-Inlet-clause-one : goal.returns-in-Inlet-clause-one
returns-in-Inlet-clause-one g c = rw c.in-Inlet.is (one-step _ _ _ _ c.inlet.ensures.step_result)

pub returns-in-Finish-clause-one : goal.returns-in-Finish-clause-one
returns-in-Finish-clause-one g c = rw c.in-Finish.is (one-step _ _ _ _ c.finish.ensures.step_result)

pub returns-in-Spend-clause-one : goal.returns-in-Spend-clause-one
returns-in-Spend-clause-one g c = rw c.in-Spend.is (one-step _ _ _ _ c.spend.ensures.step_result)

pub returns-in-Cancel-clause-one : goal.returns-in-Cancel-clause-one
returns-in-Cancel-clause-one g c = rw c.in-Cancel.is (one-step _ _ _ _ c.cancel.ensures.step_result)

pub returns-in-Leave-clause-one : goal.returns-in-Leave-clause-one
returns-in-Leave-clause-one g c = rw c.in-Leave.is (one-step _ _ _ _ c.leave.ensures.step_result)
