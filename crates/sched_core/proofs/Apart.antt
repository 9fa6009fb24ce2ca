-- No two tenants of a core have one number, as they are in rising order.
use Rattle.sched_core.proofs.Common.{◌≡◌, ℕ, ◌+◌, ◌≤◌, List, [], ◌∷◌, None, refl, arith}
use Rattle.sched_rules.specs.Trees.{Tenant}
use Rattle.sched_rules.specs.Cores.{tenant_in}
use Rattle.sched_store.specs.Reads.{AreAfter, AreTenantsRising}
use Rattle.sched_laws.specs.Onward.{AreNumbersApart}

after-missing : (number : ℕ) (entries : List (ℕ × Tenant)) → AreAfter number entries → tenant_in entries number ≡ None
after-missing number [] after = refl
after-missing number (entry ∷ entries) after = grind (arith, after-missing number entries)

pub rising-apart : (entries : List (ℕ × Tenant)) → AreTenantsRising entries → AreNumbersApart entries
rising-apart [] rising = tt
rising-apart (entry ∷ entries) rising = (after-missing entry.0 entries rising.0, rising-apart entries rising.1)

pub ruleset rising_apart = (rising-apart)
