-- Looking a tenant of a core up after one has changed.
use Rattle.std.proofs.Common.{◌≡◌, ◌≢◌, ℕ, ◌<◌, ◌≤◌, ◌==◌, true, false, List, [], ◌∷◌, Option, Some, None, refl, arith}
use Rattle.std.proofs.lemmas.Bool.Decides.{nat_tests}
use Rattle.sched_rules.specs.Trees.{Tenant}
use Rattle.sched_rules.specs.Cores.{tenant_in, with_tenant, without_tenant, with_outcome}
use Rattle.sched_rules.specs.Headline.{AreNumbersTaken}

abbrev Entries : Type 0
Entries = List (ℕ × Tenant)

pub tenant_in-with_tenant : (n : ℕ) (t : Tenant) (es : Entries) → tenant_in (with_tenant n t es) n ≡ Some t
tenant_in-with_tenant n t [] = grind (arith, nat_tests)
tenant_in-with_tenant n t (e ∷ es) = grind (arith, nat_tests, tenant_in-with_tenant n t es)

pub tenant_in-other-with_tenant : (m n : ℕ) (t : Tenant) (es : Entries) → n ≢ m → tenant_in (with_tenant n t es) m ≡ tenant_in es m
tenant_in-other-with_tenant m n t [] other = grind (arith, nat_tests)
tenant_in-other-with_tenant m n t (e ∷ es) other = grind (arith, nat_tests, tenant_in-other-with_tenant m n t es other)

pub tenant_in-without_tenant : (n : ℕ) (es : Entries) → tenant_in (without_tenant n es) n ≡ None
tenant_in-without_tenant n [] = refl
tenant_in-without_tenant n (e ∷ es) = grind (arith, nat_tests, tenant_in-without_tenant n es)

pub tenant_in-other-without_tenant : (m n : ℕ) (es : Entries) → n ≢ m → tenant_in (without_tenant n es) m ≡ tenant_in es m
tenant_in-other-without_tenant m n [] other = refl
tenant_in-other-without_tenant m n (e ∷ es) other = grind (arith, nat_tests, tenant_in-other-without_tenant m n es other)

pub tenant_in-with_outcome : (n : ℕ) (t : Option Tenant) (es : Entries) → tenant_in (with_outcome n t es) n ≡ t
tenant_in-with_outcome n None es = tenant_in-without_tenant n es
tenant_in-with_outcome n (Some t) es = tenant_in-with_tenant n t es

pub tenant_in-other-with_outcome : (m n : ℕ) (t : Option Tenant) (es : Entries) → n ≢ m → tenant_in (with_outcome n t es) m ≡ tenant_in es m
tenant_in-other-with_outcome m n None es other = tenant_in-other-without_tenant m n es other
tenant_in-other-with_outcome m n (Some t) es other = tenant_in-other-with_tenant m n t es other

-- numbers that were taken stay so
pub taken-with_tenant : (newest n : ℕ) (t : Tenant) (es : Entries) → n ≤ newest → AreNumbersTaken newest es → AreNumbersTaken newest (with_tenant n t es)
taken-with_tenant newest n t [] le all = (le, tt)
taken-with_tenant newest n t (e ∷ es) le all = grind (arith, nat_tests, taken-with_tenant newest n t es le all.1)

pub taken-without_tenant : (newest n : ℕ) (es : Entries) → AreNumbersTaken newest es → AreNumbersTaken newest (without_tenant n es)
taken-without_tenant newest n [] all = tt
taken-without_tenant newest n (e ∷ es) all = grind (arith, nat_tests, taken-without_tenant newest n es all.1)

pub taken-with_outcome : (newest n : ℕ) (t : Option Tenant) (es : Entries) → n ≤ newest → AreNumbersTaken newest es → AreNumbersTaken newest (with_outcome n t es)
taken-with_outcome newest n None es le all = taken-without_tenant newest n es all
taken-with_outcome newest n (Some t) es le all = taken-with_tenant newest n t es le all

-- numbers stay taken as greater ones are
pub taken-above : (newest newer : ℕ) (es : Entries) → newest ≤ newer → AreNumbersTaken newest es → AreNumbersTaken newer es
taken-above newest newer [] le all = tt
taken-above newest newer (e ∷ es) le all = (omega arith, taken-above newest newer es le all.1)

-- no tenant is there under a number that wasn't taken
pub tenant_in-new : (newest n : ℕ) (es : Entries) → newest < n → AreNumbersTaken newest es → tenant_in es n ≡ None
tenant_in-new newest n [] lt all = refl
tenant_in-new newest n (e ∷ es) lt all = grind (arith, nat_tests, tenant_in-new newest n es lt all.1, all.0)

-- a tenant that is there has a number that was taken
pub known-number : (newest n : ℕ) (es : Entries) → AreNumbersTaken newest es → tenant_in es n ≢ None → n ≤ newest
known-number newest n [] all is = absurd (is refl)
known-number newest n (e ∷ es) all is =
    elim (e.0 == n) as (λ b. (e.0 == n) ≡ b → n ≤ newest) [
      | true ↦ λ same. grind (arith, nat_tests, all.0)
      | false ↦ λ other. known-number newest n es all.1 (λ none. is (rw other none))
    ] refl
