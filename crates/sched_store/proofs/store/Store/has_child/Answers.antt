-- The core's store tells whether a frame has a child (`Store::has_child`): as the tenant's tree says.
use Rattle.sched_store.proofs.Lookups.{child-shown}
use Rattle.sched_store.proofs.store.Store.has_child.Goals as goal

pub returns : goal.returns
returns g c = rw (← c.self.view_is) (child-shown c.self.invariant c.args.name c.has_child.result c.has_child.ensures.child)
