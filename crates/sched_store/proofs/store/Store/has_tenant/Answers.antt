-- The core's store tells whether a tenant is there (`Store::has_tenant`): exactly where its book has an account of it.
use Rattle.sched_store.proofs.Lookups.{◌≡◌, ℕ, Parts, is_some, option_map, left_in, account_of, tenant_in, shared_of, parts_of, arith, tenant-found, known-found, rising-found}
use Rattle.sched_store.proofs.store.Store.has_tenant.Goals as goal

-- an account has something left exactly where the tenant is there
same : (parts : Parts) (number : ℕ) → is_some (option_map left_in (account_of number parts.book.accounts)) ≡ is_some (tenant_in (shared_of parts).tenants number)
same parts number = grind (arith, tenant-found)

pub returns : goal.returns
returns g c = record {
  there = rw (← c.self.view_is, c.is_some.ensures, c.left.ensures.left) (same (parts_of c.self.inside) c.args.number);
  known = rw (← c.self.view_is) (known-found c.self.invariant);
  rising = rw (← c.self.view_is) (rising-found c.self.invariant);
}
