-- Of a desk's history: a tenant that was admitted and hasn't left is there.
use Rattle.desk.proofs.Common.{◌≡◌, ◌≢◌, ℕ, ◌==◌, List, [], ◌∷◌, ◌++◌, Bool, true, false, refl, sym, ap, ◌∙◌, subst, arith, if◌then◌else◌, Option, Some, None, Result, Ok, ◌⊎◌, inl, inr, nat_tests, not, Refusal, StepOf, Leave, DidOf, Left, Functions, Tenant, Outcome, lone, tenant_of, CoreState, tenant_in, with_outcome, IsAnswerTo, IsTaken, tenant_in-with_outcome, tenant_in-other-with_outcome, by-kinds, is_leave, is_seat_step, seat_steps, stays_by, HasNoLeave, IsThere}
use Rattle.std.specs.Prelude.{◌&&◌}
use Rattle.desk.proofs.Judged.{next}

-- What steps leave, of cores whose frames run this procedure.
module _ {I A : Type 0} (functions : Functions I A) where
  -- a step that was taken, and is no Leave, leaves its tenant there
  pub lone-keeps : (its : Option Tenant) (step : StepOf A) (outcome : Outcome I) → is_leave step ≡ false → lone functions its step ≡ Ok outcome → IsThere outcome.0
  lone-keeps None step outcome other is = grind arith
  lone-keeps (Some tenant) step outcome other is = by-kinds functions tenant step outcome IsThere is (record {
    at_raise = λ number quota raises. tt;
    at_submit = λ serials root frames. tt;
    at_work = λ serials frames. tt;
    at_finish = λ root words. tt;
    at_spend = λ serial frame found. tt;
    at_cancel = λ number root found. tt;
    at_leave = λ number leaves. absurd (cc (sym (ap is_leave leaves) ∙ other));
  })

  -- a Leave of a tenant that is there is taken
  pub leaves : (before : CoreState) (t : ℕ) (answer : Result (DidOf I) Refusal) → IsThere (tenant_in before.tenants t) → IsAnswerTo {A = A} functions before (Leave t) answer →
      answer ≡ Ok Left
  leaves before t answer there right = let a = right.1 refl in grind (arith, a.else_taken)

-- Whether a tenant stays, by the steps.
module _ {A : Type 0} (t : ℕ) where
  abbrev now_stays : Bool → StepOf A → Bool
  now_stays was step = if tenant_of step == t then not (is_leave step) else was

  -- one step more
  stays-more : (was : Bool) (steps : List (StepOf A)) (step : StepOf A) → stays_by was t (steps ++ step ∷ []) ≡ now_stays (stays_by was t steps) step
  stays-more was [] step = refl
  stays-more was (s ∷ steps) step = stays-more (now_stays was s) steps step

  worker-stays : (step : StepOf A) → is_seat_step step ≡ false → is_leave step ≡ false
  worker-stays step worker = grind arith

  -- who made no Leave stays, where it was there or has made a step
  abbrev Stays : Bool → List (StepOf A) → List (StepOf A) → Type 0
  Stays was mine steps = HasNoLeave mine → (was ≡ true) ⊎ (mine ≢ []) → stays_by was t steps ≡ true

  stays-unless : (was : Bool) (steps : List (StepOf A)) → Stays was (seat_steps t steps) steps
  stays-unless was [] no_leave (inl is) = is
  stays-unless was [] no_leave (inr is) = absurd (is refl)
  stays-unless was (step ∷ steps) no_leave begun = by-tests (is_seat_step step) (tenant_of step == t) refl (λ now. stays-unless now steps) no_leave begun
    where
      rest : List (StepOf A)
      rest = seat_steps t steps

      by-tests : (b c : Bool) → is_seat_step step ≡ b → ((now : Bool) → Stays now rest steps) → HasNoLeave (if b && c then step ∷ rest else rest) →
          (was ≡ true) ⊎ ((if b && c then step ∷ rest else rest) ≢ []) → stays_by (if c then not (is_leave step) else was) t steps ≡ true
      by-tests true true is again clear begun = again (not (is_leave step)) clear.1 (inl (ap not clear.0))
      by-tests false true is again clear begun = again (not (is_leave step)) clear (inl (ap not (worker-stays step is)))
      by-tests true false is again clear begun = again was clear begun
      by-tests false false is again clear begun = again was clear begun

  pub seat-stays : (steps mine later : List (StepOf A)) (first : StepOf A) → seat_steps t steps ≡ mine → mine ≡ first ∷ later → HasNoLeave mine →
      stays_by false t steps ≡ true
  seat-stays steps mine later first is begins no_leave =
      stays-unless false steps (subst HasNoLeave (sym is) no_leave) (inr (λ none. absurd (cc (sym (is ∙ begins) ∙ none))))

-- A step that was taken.
module _ {I A : Type 0} {functions : Functions I A} {shared : CoreState} {step : StepOf A} {did : DidOf I} (taken : IsTaken functions shared step did) where
  abbrev its : Option Tenant
  its = taken.outcome.0

  abbrev tenants : List (ℕ × Tenant)
  tenants = with_outcome (tenant_of step) its shared.tenants

  -- who was there and stays is there after it
  pub there-more : (was : Bool) (steps : List (StepOf A)) (t : ℕ) → (stays_by was t steps ≡ true → IsThere (tenant_in shared.tenants t)) → stays_by was t (steps ++ step ∷ []) ≡ true →
      IsThere (tenant_in (next functions shared step).tenants t)
  there-more was steps t before stays = rw taken.among (by-test (tenant_of step == t) refl (sym (stays-more t was steps step) ∙ stays))
    where
      by-test : (b : Bool) → (tenant_of step == t) ≡ b → (if b then not (is_leave step) else stays_by was t steps) ≡ true → IsThere (tenant_in tenants t)
      by-test true is h =
          let same : tenant_of step ≡ t = grind (arith, nat_tests, is) in
          let other : is_leave step ≡ false = grind arith in
          let there = lone-keeps functions (tenant_in shared.tenants (tenant_of step)) step taken.outcome other taken.own in
          rw (← same, tenant_in-with_outcome (tenant_of step) its shared.tenants) there
      by-test false is h =
          let other : tenant_of step ≢ t = λ e. absurd (grind (arith, nat_tests, is, e)) in
          rw (tenant_in-other-with_outcome t (tenant_of step) its shared.tenants other) (before h)
