-- What the hall's steps do to the seats of a site's desk.
use Rattle.site_desk.proofs.Common.{◌≡◌, ℕ, ◌+◌, ◌≤◌, ◌==◌, ◌||◌, ◌^◌, ◌⊎◌, inl, inr, nat_le, nat_lt, nat_tests, true, false, cases_Bool, Option, Some, None, Result, Ok, Err, refl, ap, sym, ◌∙◌, arith, false≢true, ReserveOf, Refusal, StepOf, Admit, AdmitMore, Leave, DidOf, Functions, Tenant, admitted_with, Outcome, is_lower, lone, lone_step, tenant_of, CoreState, tenant_in, reservations_in, is_full, is_beyond, with_outcome, shared_with, AreNumbersGiven, IsOneStep, IsTaken, shared-after-taken, step-taken, by-kinds, unless-passed, is_within_seat}
use Rattle.sched_rules.specs.declared.refusal.Refusal.TheVariants.{OldTenant, OutOfMemory}
use Rattle.hall.specs.Journals.{is_worker_step}
use Rattle.sched_rules.specs.declared.step.DidOf.TheVariants.{Admitted, AdmittedMore}

-- a worker's step is within its seat
pub worker-within : {A : Type 0} (step : StepOf A) → is_worker_step step ≡ true → is_within_seat step ≡ true
worker-within (Admit n q) worker = absurd cc
worker-within (AdmitMore n q) worker = absurd cc
worker-within (Leave n) worker = absurd cc
worker-within _ worker = refl

module _ {I A : Type 0} (functions : Functions I A) where
  -- a step that was taken
  pub went : (before after : CoreState) (step : StepOf A) (did : DidOf I) → AreNumbersGiven before → IsOneStep functions before step (Ok did) after → (t : IsTaken functions before step did) × (after ≡ shared_with before step t.outcome.0)
  went before after step did known one = (let t = step-taken functions before step did known one.answered in (t, one.left ∙ shared-after-taken functions before step did t))

  -- an admission leaves a fresh tenant
  pub admit-outcome : (own : Option Tenant) (n : ℕ) (q : ReserveOf) (outcome : Outcome I) → own ≡ None → lone functions own (Admit n q) ≡ Ok outcome → outcome.0 ≡ Some (admitted_with q)
  admit-outcome None n q outcome none is = grind arith
  admit-outcome (Some tenant) n q outcome none is = absurd cc

  -- a raise leaves the tenant with what was asked
  pub more-outcome : (tenant : Tenant) (n : ℕ) (q : ReserveOf) (outcome : Outcome I) → lone functions (Some tenant) (AdmitMore n q) ≡ Ok outcome → outcome.0 ≡ Some (record tenant { reserve = q })
  more-outcome tenant n q outcome is = grind (arith, unless-passed)

  -- a leave leaves none
  pub leave-outcome : (own : Option Tenant) (n : ℕ) (outcome : Outcome I) → lone functions own (Leave n) ≡ Ok outcome → outcome.0 ≡ None
  leave-outcome (Some tenant) n outcome is = grind arith
  leave-outcome None n outcome is = absurd cc

  -- a step within its seat leaves a tenant that reserves what it did
  abbrev Stays : StepOf A → Tenant → Option Tenant → Type 0
  Stays step tenant None = is_within_seat step ≡ false
  Stays step tenant (Some after) = after.reserve ≡ tenant.reserve

  step-stays : (tenant : Tenant) (step : StepOf A) (outcome : Outcome I) → is_within_seat step ≡ true → lone_step functions tenant step ≡ Ok outcome → Stays step tenant outcome.0
  step-stays tenant step outcome within is = by-kinds functions tenant step outcome (Stays step tenant) is (record {
    at_raise = λ number quota more. absurd (false≢true (sym (ap is_within_seat more) ∙ within));
    at_submit = λ serials root frames. refl;
    at_work = λ serials frames. refl;
    at_finish = λ root words. refl;
    at_spend = λ serial f found. refl;
    at_cancel = λ number root found. refl;
    at_leave = λ number leaves. ap is_within_seat leaves;
  })

  pub record HasStayed (own : Option Tenant) (after : Option Tenant) : Type 0 where
    pub before : Tenant
    pub tenant : Tenant
    pub was : own ≡ Some before
    pub now : after ≡ Some tenant
    pub reserve : tenant.reserve ≡ before.reserve

  stayed-as : (step : StepOf A) (tenant : Tenant) (after : Option Tenant) → is_within_seat step ≡ true → Stays step tenant after → HasStayed (Some tenant) after
  stayed-as step tenant None within stays = absurd (false≢true (sym stays ∙ within))
  stayed-as step tenant (Some next) within stays = record { before = tenant; tenant = next; was = refl; now = refl; reserve = stays }

  pub stayed : (own : Option Tenant) (step : StepOf A) (outcome : Outcome I) → is_within_seat step ≡ true → lone functions own step ≡ Ok outcome → HasStayed own outcome.0
  stayed (Some tenant) step outcome within is = stayed-as step tenant outcome.0 within (step-stays tenant step outcome within is)
  stayed None (Admit n q) outcome within is = absurd cc
  stayed None (AdmitMore n q) outcome within is = absurd cc
  stayed None _ outcome within is = absurd cc

  -- the seats after a taken step
  pub moved : (before after : CoreState) (step : StepOf A) (o : Option Tenant) → after ≡ shared_with before step o → (after.tenants ≡ with_outcome (tenant_of step) o before.tenants) × (after.totals ≡ before.totals)
  moved before after step o is = (ap (λ (s : CoreState). s.tenants) is, ap (λ (s : CoreState). s.totals) is)

  -- what an admission is refused for where there is room for it: all numbers were given, or memory ran out
  pub admit-refused : (before after : CoreState) (n : ℕ) (q : ReserveOf) (refusal : Refusal) → n ≡ before.newest + 1 → is_full (reservations_in before) q ≡ false → IsOneStep functions before (Admit n q) (Err refusal) after
      → ((refusal ≡ OldTenant) × (2 ^ 62 ≤ before.newest)) ⊎ (refusal ≡ OutOfMemory)
  admit-refused before after n q refusal next room one =
      let right = one.answered.0 refl in
      let old = (n == 0) || nat_le n before.newest || nat_lt (2 ^ 62) n in
      elim (cases_Bool old) [
        | inl aye ↦ (let said : ◌≡◌ {A = Result (DidOf I) Refusal} (Err refusal) (Err OldTenant) = right.refused OldTenant (rw aye refl) in inl (cc, grind (arith, nat_tests, next, aye)))
        | inr nay ↦ elim (right.else_taken (rw (nay, room) refl)) [
          | inl is ↦ (let taken : ◌≡◌ {A = Result (DidOf I) Refusal} (Err refusal) (Ok Admitted) = rw (nay, room) at is in absurd cc)
          | inr is ↦ inr cc
        ]
      ]

  -- and a raise
  pub raise-refused : (before after : CoreState) (n : ℕ) (q : ReserveOf) (tenant : Tenant) (refusal : Refusal) → tenant_in before.tenants n ≡ Some tenant → is_lower tenant.reserve q ≡ false → is_beyond (reservations_in before) tenant.reserve q ≡ false
      → IsOneStep functions before (AdmitMore n q) (Err refusal) after → refusal ≡ OutOfMemory
  raise-refused before after n q tenant refusal at more room one =
      let right = one.answered.0 refl in
      elim (right.else_taken (rw (at, more, room) refl)) [
        | inl is ↦ (let taken : ◌≡◌ {A = Result (DidOf I) Refusal} (Err refusal) (Ok AdmittedMore) = rw (at, more, room) at is in absurd cc)
        | inr is ↦ cc
      ]
