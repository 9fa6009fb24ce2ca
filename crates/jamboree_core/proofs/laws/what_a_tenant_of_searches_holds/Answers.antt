-- Of a tenant whose jobs are searches: its replies are minimax values and its frames sound, so the law
-- `what_a_tenant_of_searches_holds`.
use Rattle.jamboree_core.proofs.Serving.{tenant-replies, tenant-sound}
use Rattle.jamboree_core.proofs.laws.what_a_tenant_of_searches_holds.Goals as goal

pub returns-clause-replies : goal.returns-clause-replies
returns-clause-replies c origins tenant searches = tenant-replies origins tenant searches

pub returns-clause-sound : goal.returns-clause-sound
returns-clause-sound c origins tenant searches = tenant-sound origins tenant searches
