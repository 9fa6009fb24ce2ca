-- Of a new core: it has no job, so all its jobs are searches; the law `a_new_core_has_no_searches`.
use Rattle.jamboree_core.proofs.Serving.{nobody-searches}
use Rattle.jamboree_core.proofs.laws.a_new_core_has_no_searches.Goals as goal

pub returns : goal.returns
returns c totals = nobody-searches totals
