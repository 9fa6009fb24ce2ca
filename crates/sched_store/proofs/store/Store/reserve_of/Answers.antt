-- The core's store tells a tenant's reservation (`Store::reserve_of`): the one in the account is the tenant's.
use Rattle.sched_store.proofs.Lookups.{◌≡◌, ℕ, Parts, Account, Tenant, option_map, account_of, tenant_in, shared_of, parts_of, arith, tenant-found}
use Rattle.sched_store.proofs.store.Store.reserve_of.Goals as goal

-- the reservation of an account is that of the tenant that it stands for
same-reserve : (parts : Parts) (number : ℕ) → option_map (λ (a : Account). a.reserve) (account_of number parts.book.accounts) ≡ option_map (λ (t : Tenant). t.reserve) (tenant_in (shared_of parts).tenants number)
same-reserve parts number = grind (arith, tenant-found)

pub returns : goal.returns
returns g c =
    rw (← c.self.view_is, c.reserved.ensures.reserved) (same-reserve (parts_of c.self.inside) c.args.tenant)
