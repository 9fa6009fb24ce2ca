-- Of a tenant that reserved what suffices: a Spend of any of its frames is refused, so the law
-- `a_job_with_enough_is_never_spent`.
use Rattle.jamboree_core.proofs.NeverSpent.{spend-refused}
use Rattle.jamboree_core.proofs.reserves.a_job_with_enough_is_never_spent.Goals as goal

pub returns : goal.returns
returns c grain cost size journal tenant number serial frame enough roomy is searches nodes segments at = spend-refused grain is searches enough roomy nodes segments serial frame at number
