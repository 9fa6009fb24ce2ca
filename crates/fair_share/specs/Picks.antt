-- Meaning: which tenant's frame of a hall comes next, by who was served least or has waited longest.
use Rattle.std.specs.Prelude.{◌≡◌, ◌⊎◌, ℕ, zero, suc, Option, Some, None, is_some}
use Rattle.sched_rules.specs.Cores.{CoreState}
use Rattle.sched_rules.specs.Views.{newest_ready_in}
use Rattle.jamboree_rules.specs.declared.pool_rules.task.Task.{Task}
use Rattle.fair_share.specs.Lines.{place_named}
use Rattle.fair_share.specs.Shares.{SharesOf, pick_counted, IsPick, IsNobody, tenant_in_place, tenant_seen, served_all}

-- who shares, after it was noted of the tenants at the first so many places which of them have a ready frame
unfoldable pub seen_up_to : CoreState → ℕ → SharesOf → SharesOf
seen_up_to core zero shares = shares
seen_up_to core (suc place) shares =
    let before = seen_up_to core place shares in
    tenant_seen place (is_some (newest_ready_in core (tenant_in_place before place).name)) before

-- who shares, after it was noted of all tenants which have a ready frame, and one more pick was counted
abbrev pub seen_all : CoreState → SharesOf → SharesOf
seen_all core shares = pick_counted (seen_up_to core 64 shares)

-- a fair task: the newest ready frame, with its home, of a tenant that is a fair pick
pub record IsFairTask (core : CoreState) (shares : SharesOf) (task : Task) : Type 0 where
  pub place : ℕ
  pub picked : IsPick shares place
  pub newest : newest_ready_in core (tenant_in_place shares place).name ≡ Some (task.frame, task.home)

-- there is no fair task: no tenant comes next, or the one that does has no ready frame
abbrev pub IsNoTask : CoreState → SharesOf → Type 0
IsNoTask core shares = IsNobody shares ⊎ ((place : ℕ) × IsPick shares place × (newest_ready_in core (tenant_in_place shares place).name ≡ None))

-- who shares, after the tenant at a place was served so much more; nothing changes without a place
abbrev pub charged_at : Option ℕ → ℕ → SharesOf → SharesOf
charged_at None amount shares = shares
charged_at (Some place) amount shares = served_all place amount shares

-- who shares, after this tenant was served so much more, if it is one of them
abbrev pub charged_to : ℕ → ℕ → SharesOf → SharesOf
charged_to tenant amount shares = charged_at (place_named tenant shares.tenants.accounts) amount shares
