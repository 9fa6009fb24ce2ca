-- The promise on any lists of steps (`run_any`): there is one answer for each step, and a refusal is for the tenant's
-- own state or a busy worker.
use Rattle.promises.proofs.Answered.{as-many, if-ok}
use Rattle.promises.proofs.Refused.{refused-for-these}
use Rattle.promises.proofs.run_any.Goals as goal

pub returns-clause-answered : goal.returns-clause-answered
returns-clause-answered g c = if-ok c.ran.result (λ run whole. as-many _ _ _ _ whole.refused) c.ran.ensures

pub returns-clause-refused : goal.returns-clause-refused
returns-clause-refused g c = if-ok c.ran.result (λ run whole. refused-for-these _ _ _ _ _ whole) c.ran.ensures
