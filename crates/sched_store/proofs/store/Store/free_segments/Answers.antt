-- The core's store tells its free segments (`Store::free_segments`): the stack's count is the total less what all
-- tenants' frames take.
use Rattle.sched_store.proofs.Lookups.{refl, total_charge, free-found}
use Rattle.sched_store.proofs.store.Store.free_segments.Goals as goal

pub returns : goal.returns
returns g c = rw (← c.self.view_is) (free-found c.self.invariant c.free_count.result (total_charge c.self.inside.stack) c.free_count.ensures refl)
