-- Representation: what an admission and a departure make of the core that a store stands for.
use Rattle.std.specs.Prelude.{ℕ, [], ◌∷◌, ◌++◌}
use Rattle.tenant_quota.specs.Reserves.{ReserveOf}
use Rattle.sched_rules.specs.Trees.{admitted_with}
use Rattle.sched_rules.specs.Cores.{CoreState, without_tenant}

-- the core with a new tenant after all others, whose number is the greatest so far
abbrev pub with_admitted : ℕ → ReserveOf → CoreState → CoreState
with_admitted number reserve shared = record shared { newest = number; tenants = shared.tenants ++ (number, admitted_with reserve) ∷ [] }

-- the core without the tenant of this number
abbrev pub with_departed : ℕ → CoreState → CoreState
with_departed number shared = record shared { tenants = without_tenant number shared.tenants }
