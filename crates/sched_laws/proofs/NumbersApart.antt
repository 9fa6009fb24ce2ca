-- No two tenants of a core have one number, whatever steps are answered.
use Rattle.sched_laws.proofs.Common.{◌≡◌, ℕ, List, [], ◌∷◌, Option, Some, None, Result, Ok, Err, refl, arith, cases_eq, eq-eqb, ne_eqb, eqb-true, eqb-false, cases_Bool, Functions, Tenant, Outcome, StepOf, DidOf, Refusal, CoreState, tenant_in, tenant_of, with_tenant, without_tenant, with_outcome, step_result, shared_after, after_answer, after_answers}
use Rattle.sched_rules.proofs.Tenants.{tenant_in-other-with_tenant, tenant_in-other-without_tenant}
use Rattle.sched_laws.specs.Onward.{AreNumbersApart}

abbrev Entries : Type 0
Entries = List (ℕ × Tenant)

with-apart : (n : ℕ) (t : Tenant) (es : Entries) → AreNumbersApart es → AreNumbersApart (with_tenant n t es)
with-apart n t [] apart = (refl, tt)
with-apart n t (e ∷ es) apart = grind (arith, with-apart n t es, tenant_in-other-with_tenant, eqb-true, eqb-false)

-- without one, one that wasn't there still isn't
none-without : (n m : ℕ) (es : Entries) → tenant_in es m ≡ None → tenant_in (without_tenant n es) m ≡ None
none-without n m [] none = none
none-without n m (e ∷ es) none = grind (arith, none-without n m es)

without-apart : (n : ℕ) (es : Entries) → AreNumbersApart es → AreNumbersApart (without_tenant n es)
without-apart n [] apart = tt
without-apart n (e ∷ es) apart = grind (arith, without-apart n es, none-without)

outcome-apart : (n : ℕ) (t : Option Tenant) (es : Entries) → AreNumbersApart es → AreNumbersApart (with_outcome n t es)
outcome-apart n None es apart = without-apart n es apart
outcome-apart n (Some t) es apart = with-apart n t es apart

module _ {I A : Type 0} (functions : Functions I A) where
  after-apart : (before : CoreState) (step : StepOf A) (came_to : Result (Outcome I) Refusal) → AreNumbersApart before.tenants → AreNumbersApart (shared_after before step came_to).tenants
  after-apart before step (Ok outcome) apart = outcome-apart (tenant_of step) outcome.0 before.tenants apart
  after-apart before step (Err refusal) apart = apart

  pub apart_answer : (before : CoreState) (step : StepOf A) (answer : Result (DidOf I) Refusal) → AreNumbersApart before.tenants →
      AreNumbersApart (after_answer functions before step answer).tenants
  apart_answer before step (Ok did) apart = after-apart before step (step_result functions before step) apart
  apart_answer before step (Err refusal) apart = apart

  pub apart_answers : (before : CoreState) (steps : List (StepOf A)) (answers : List (Result (DidOf I) Refusal)) → AreNumbersApart before.tenants →
      AreNumbersApart (after_answers functions before steps answers).tenants
  apart_answers before [] answers apart = apart
  apart_answers before (step ∷ steps) [] apart = apart
  apart_answers before (step ∷ steps) (answer ∷ answers) apart = apart_answers (after_answer functions before step answer) steps answers (apart_answer before step answer apart)
