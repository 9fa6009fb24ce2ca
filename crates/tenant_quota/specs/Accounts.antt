-- Meaning: what each tenant has reserved and used: a list of tenants with their accounts, in rising order of tenants.
use Rattle.std.specs.Prelude.{ℕ, ◌+◌, ◌-◌, ◌*◌, ◌≤◌, List, Option, Some, None, sum_by}
use Rattle.std.specs.List.{AllByRecursion}
use Rattle.numbered_list.specs.Places.{read_by_number, inserted, change_by_number, remove_by_number, AreRising}
use Rattle.tenant_quota.specs.Reserves.{ReserveOf}
use Rattle.tenant_quota.specs.declared.account.Account.{Account}
use Rattle.tenant_quota.specs.declared.account.Left.{Left}

-- the account of a tenant that has reserved this and used nothing of it
abbrev pub fresh : ReserveOf → Account
fresh quota = record { reserve = quota; charged = 0; opened = 0; ticks = 0 }

-- a tenant's account after it was charged `segments` segments more, and opened `nodes` nodes more
abbrev pub charged_by : ℕ → ℕ → Account → Account
charged_by segments nodes a = record a { charged = a.charged + segments; opened = a.opened + nodes }

-- a tenant's account after `segments` of the charged segments were given back; the nodes stay opened
abbrev pub credited_by : ℕ → Account → Account
credited_by segments a = record a { charged = a.charged - segments }

-- a tenant's account after one more step
abbrev pub ticked : Account → Account
ticked a = record a { ticks = a.ticks + 1 }

-- a tenant's account once it reserves this; what is used stays
abbrev pub raised_to : ReserveOf → Account → Account
raised_to quota a = record a { reserve = quota }

-- what a tenant's account has left: the segments reserved less those charged, the nodes reserved less those ever
-- opened, and 16 times the nodes reserved less the steps taken
abbrev pub left_in : Account → Left
left_in a = record { segments = a.reserve.segments - a.charged; nodes = a.reserve.nodes - a.opened; steps = 16 * a.reserve.nodes - a.ticks }

-- of a tenant's account: what is reserved is within the limits, and nothing is used beyond it
pub record IsWithinReserve (a : Account) : Type 0 where
  pub some_segments : 1 ≤ a.reserve.segments
  pub segments_within : a.reserve.segments ≤ 4096
  pub some_nodes : 1 ≤ a.reserve.nodes
  pub nodes_within : a.reserve.nodes ≤ 65536
  pub charged_within : a.charged ≤ a.reserve.segments
  pub opened_within : a.opened ≤ a.reserve.nodes
  pub ticks_within : a.ticks ≤ 16 * a.reserve.nodes

-- the tenant whose account an entry is
abbrev pub owner_of_account : ℕ × Account → ℕ
owner_of_account entry = entry.0

-- the account of a tenant; None where the tenant isn't there
abbrev pub account_of : ℕ → List (ℕ × Account) → Option Account
account_of tenant es = read_by_number owner_of_account (λ e. Some e.1) None tenant es

-- the accounts with that of a new tenant, in front of the first tenant that isn't below it
abbrev pub with_new : ℕ → Account → List (ℕ × Account) → List (ℕ × Account)
with_new tenant a es = inserted owner_of_account (tenant, a) es

-- the accounts with the tenant's own changed by f, and all others as they were
abbrev pub with_changed : ℕ → (Account → Account) → List (ℕ × Account) → List (ℕ × Account)
with_changed tenant f es = change_by_number owner_of_account tenant (λ e. (e.0, f e.1)) es

-- the accounts of the book without the one of this tenant
abbrev pub without : ℕ → List (ℕ × Account) → List (ℕ × Account)
without tenant es = remove_by_number owner_of_account tenant es

-- the property P holds of each tenant's account
abbrev pub AllEntries : (ℕ × Account → Type 0) → List (ℕ × Account) → Type 0
AllEntries P es = AllByRecursion P es

-- each tenant is below all later ones, so none stands twice
abbrev pub IsRising : List (ℕ × Account) → Type 0
IsRising es = AreRising owner_of_account es

-- the segments that all tenants together have reserved
abbrev pub reserved_segments : List (ℕ × Account) → ℕ
reserved_segments es = sum_by (λ e. e.1.reserve.segments) es

-- the nodes that all tenants together have reserved
abbrev pub reserved_nodes : List (ℕ × Account) → ℕ
reserved_nodes es = sum_by (λ e. e.1.reserve.nodes) es

-- the segments that all tenants together are charged
abbrev pub charged_segments : List (ℕ × Account) → ℕ
charged_segments es = sum_by (λ e. e.1.charged) es
