-- The promise on lists of searches (`run`): there is one answer for each step, and a refusal is for the tenant's own
-- state or a busy worker.
use Rattle.promises.proofs.Answered.{if-ok}
use Rattle.promises.proofs.SearchLists.{as-many-answers, refused-of-searches}
use Rattle.promises.proofs.run.Goals as goal

pub returns-clause-answered : goal.returns-clause-answered
returns-clause-answered g c = if-ok c.searched.result (λ run whole. as-many-answers _ _ _ _ _ whole) c.searched.ensures

pub returns-clause-refused : goal.returns-clause-refused
returns-clause-refused g c = if-ok c.searched.result (λ run whole. refused-of-searches _ _ _ _ _ whole) c.searched.ensures
