-- The core's store tells what a tenant has left (`Store::left`): what its book says is what is left of the tenant's
-- reservation.
use Rattle.sched_store.proofs.Lookups.{sym, ◌∙◌, left-found, left-free}
use Rattle.sched_store.proofs.store.Store.left.Goals as goal

pub returns : goal.returns
returns g c = record {
  left = rw (← c.self.view_is) (c.left.ensures.left ∙ sym (left-found c.self.invariant c.args.tenant));
  free = rw (← c.self.view_is) (left-free c.self.invariant c.left.result c.left.ensures.there);
}
