-- Of a core whose jobs are searches: what each of its tenants and jobs holds, so the law
-- `what_a_core_of_searches_holds`.
use Rattle.jamboree_core.proofs.Serving.{core-replies, core-tenant, core-serves, core-whole}
use Rattle.jamboree_core.proofs.laws.what_a_core_of_searches_holds.Goals as goal

pub returns-clause-replies : goal.returns-clause-replies
returns-clause-replies c origins shared core = core-replies origins shared core

pub returns-clause-tenant : goal.returns-clause-tenant
returns-clause-tenant c origins shared number tenant core at = core-tenant origins shared number tenant core at

pub returns-clause-serves : goal.returns-clause-serves
returns-clause-serves c origins shared number core = core-serves origins shared number core

pub returns-clause-whole : goal.returns-clause-whole
returns-clause-whole c origins shared each none known = core-whole origins shared each none known
