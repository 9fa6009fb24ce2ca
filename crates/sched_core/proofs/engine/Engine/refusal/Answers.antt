-- The core tells why it would refuse a step (`Engine::refusal`): for an AdmitMore it is the refusal that the test
-- gave.
use Rattle.sched_core.proofs.Common.{◌≡◌, Result, Ok, Err, refl, ◌∙◌, result_err, Refusal, refusal_in}
use Rattle.sched_core.proofs.engine.Engine.refusal.Goals as goal

-- the refusal of a test is its error
error-refusal : {X : Type 0} (tested : Result X Refusal) → result_err tested ≡ refusal_in tested
error-refusal (Ok value) = refl
error-refusal (Err refusal) = refl

pub returns-in-AdmitMore : goal.returns-in-AdmitMore
returns-in-AdmitMore g c = rw c.in-AdmitMore.is (c.err-in-AdmitMore.ensures.value ∙ error-refusal c.may_admit_more.result ∙ c.may_admit_more.ensures.refusal)
