-- The core's store tells the greatest number of all tenants so far (`Store::newest`), also of those that left: no tenant
-- has a greater one, and the tenants stand by rising numbers.
use Rattle.sched_store.proofs.Lookups.{known-found, rising-found}
use Rattle.sched_store.proofs.store.Store.newest.Goals as goal

pub returns-clause-known : goal.returns-clause-known
returns-clause-known g c = rw (← c.self.view_is) (known-found c.self.invariant)

pub returns-clause-rising : goal.returns-clause-rising
returns-clause-rising g c = rw (← c.self.view_is) (rising-found c.self.invariant)
