-- The core's store finds a tenant's newest ready frame (`Store::newest_ready`): what its frame table finds is that of
-- the tenant that it stands for.
use Rattle.sched_store.proofs.Lookups.{sym, ◌∙◌, newest-ready-found}
use Rattle.sched_store.proofs.store.Store.newest_ready.Goals as goal

pub returns : goal.returns
returns g c = rw (← c.self.view_is) (c.newest_ready.ensures ∙ sym (newest-ready-found c.self.invariant c.args.tenant))
