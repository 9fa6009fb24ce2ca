-- For the promises: what a step that is no admission is refused for.
use Rattle.promises.proofs.Common.{◌≡◌, ◌≢◌, ℕ, ◌⊎◌, inl, inr, Bool, true, false, ◌==◌, List, [], ◌∷◌, ◌++◌, length, Option, Some, None, Result, Ok, Err, refl, sym, ap, ◌∙◌, subst, arith, not, ◌&&◌, ◌||◌, nat_tests, ReserveOf, Refusal, Busy, StepOf, Take, Steal, Inlet, Finish, Functions, Tenant, is_busy_in, Outcome, lone, lone_refusal, refusal_in, tenant_of, answer_of, CoreState, shared_by_nobody, tenant_in, with_tenant, without_tenant, with_outcome, is_busy_elsewhere, meets_busy, step_result, shared_after, IsAnswerTo, IsAnswerToStep, AreAnswersTo, after_answer, after_answers, IsHeadline, headline, tenant_in-other-with_tenant, tenant_in-other-without_tenant, stands, free_worker, IsForOwnState, IsForBusyWorker, AreRefusedForThese}
use Rattle.promises.proofs.Answered.{Answer}

abbrev Entries : Type 0
Entries = List (ℕ × Tenant)

-- ---- each tenant stands once

abbrev AreApart : Entries → Type 0
AreApart [] = Unit {0}
AreApart (entry ∷ entries) = (tenant_in entries entry.0 ≡ None) × AreApart entries

apart-with_tenant : (n : ℕ) (t : Tenant) (es : Entries) → AreApart es → AreApart (with_tenant n t es)
apart-with_tenant n t [] apart = (refl, tt)
apart-with_tenant n t (e ∷ es) apart = grind (arith, apart-with_tenant n t es apart.1, nat_tests, tenant_in-other-with_tenant)

apart-without_tenant : (n : ℕ) (es : Entries) → AreApart es → AreApart (without_tenant n es)
apart-without_tenant n [] apart = tt
apart-without_tenant n (e ∷ es) apart = grind (arith, apart-without_tenant n es apart.1, tenant_in-other-without_tenant, nat_tests)

apart-with_outcome : (n : ℕ) (t : Option Tenant) (es : Entries) → AreApart es → AreApart (with_outcome n t es)
apart-with_outcome n None es apart = apart-without_tenant n es apart
apart-with_outcome n (Some t) es apart = apart-with_tenant n t es apart

module _ {I A : Type 0} where
  apart-shared_after : (before : CoreState) (step : StepOf A) (result : Result (Outcome I) Refusal) → AreApart before.tenants → AreApart (shared_after before step result).tenants
  apart-shared_after before step (Err refusal) apart = apart
  apart-shared_after before step (Ok outcome) apart = apart-with_outcome (tenant_of step) outcome.0 before.tenants apart

  apart-after : (functions : Functions I A) (before : CoreState) (steps : List (StepOf A)) (answers : List (Answer I)) → AreApart before.tenants →
      AreApart (after_answers functions before steps answers).tenants
  apart-after functions before (step ∷ steps) (Err refusal ∷ answers) apart = apart-after functions before steps answers apart
  apart-after functions before (step ∷ steps) (Ok did ∷ answers) apart =
      apart-after functions (after_answer functions before step (Ok did)) steps answers (apart-shared_after before step (step_result functions before step) apart)
  apart-after functions before steps answers apart = apart

-- ---- who is busy elsewhere

record IsBusyThere (worker number : ℕ) (es : Entries) : Type 0 where
  another : ℕ
  other : another ≢ number
  tenant : Tenant
  there : tenant_in es another ≡ Some tenant
  busy : is_busy_in worker tenant.frames ≡ true

there-later : (e : ℕ × Tenant) (es : Entries) (another : ℕ) (tenant : Tenant) → tenant_in es e.0 ≡ None → tenant_in es another ≡ Some tenant →
    tenant_in (e ∷ es) another ≡ Some tenant
there-later e es another tenant apart there = grind (arith, nat_tests)

busy-there : (worker number : ℕ) (es : Entries) → AreApart es → is_busy_elsewhere worker number es ≡ true → IsBusyThere worker number es
busy-there worker number [] apart busy = absurd cc
busy-there worker number (e ∷ es) apart busy =
    let here = not (e.0 == number) && is_busy_in worker e.1.frames in
    elim here as (λ b. here ≡ b → (b || is_busy_elsewhere worker number es) ≡ true → IsBusyThere worker number (e ∷ es)) [
      | true ↦ λ is some. record {
        another = e.0;
        other = grind (arith, nat_tests);
        tenant = e.1;
        there = let own : (e.0 == e.0) ≡ true = grind (arith, nat_tests) in rw own refl;
        busy = grind (arith, nat_tests);
      }
      | false ↦ λ is some.
          let later = busy-there worker number es apart.1 some in
          let there = there-later e es later.another later.tenant apart.0 later.there in
          record { another = later.another; other = later.other; tenant = later.tenant; there = there; busy = later.busy }
    ] refl busy

record MeetsBusy {A : Type 0} (step : StepOf A) (es : Entries) : Type 0 where
  worker : ℕ
  free : free_worker step ≡ Some worker
  elsewhere : IsBusyThere worker (tenant_of step) es

meets-there : {A : Type 0} (step : StepOf A) (es : Entries) → AreApart es → meets_busy step es ≡ true → MeetsBusy step es
meets-there (Take worker name) es apart busy = record { worker = worker; free = refl; elsewhere = busy-there worker name.tenant es apart busy }
meets-there (Steal worker from name) es apart busy = record { worker = worker; free = refl; elsewhere = busy-there worker name.tenant es apart busy }
meets-there (Inlet worker name) es apart busy = record { worker = worker; free = refl; elsewhere = busy-there worker name.tenant es apart busy }
meets-there (Finish worker name) es apart busy = record { worker = worker; free = refl; elsewhere = busy-there worker name.tenant es apart busy }
meets-there _ es apart busy = absurd cc

-- ---- one step that was refused

-- by what it comes to alone, and whether its worker is busy
refused-for : {I : Type 0} (busy : Bool) (own : Result (Outcome I) Refusal) (refusal : Refusal) →
    ((other : Refusal) → refusal_in own ≡ Some other → ◌≡◌ {A = Answer I} (Err refusal) (Err other)) →
    (refusal_in own ≡ None → busy ≡ true → ◌≡◌ {A = Answer I} (Err refusal) (Err Busy)) →
    (refusal_in own ≡ None → busy ≡ false → ◌≡◌ {A = Answer I} (Err refusal) (answer_of own)) →
    (refusal_in own ≡ Some refusal) ⊎ ((refusal ≡ Busy) × (busy ≡ true))
refused-for {I = I} busy (Err other) refusal own_state busy_worker else_taken =
    inl (let same : ◌≡◌ {A = Answer I} (Err refusal) (Err other) = own_state other refl in cc)
refused-for {I = I} true (Ok outcome) refusal own_state busy_worker else_taken =
    inr (let same : ◌≡◌ {A = Answer I} (Err refusal) (Err Busy) = busy_worker refl refl in cc, refl)
refused-for {I = I} false (Ok outcome) refusal own_state busy_worker else_taken =
    let same : ◌≡◌ {A = Answer I} (Err refusal) (answer_of (Ok outcome)) = else_taken refl refl in absurd cc

-- ---- in a list

module _ {I A : Type 0} (f : Functions I A) where
  -- the answers before it are right, and its own is
  split-answers : (at : CoreState) (before later : List (StepOf A)) (said more : List (Answer I)) (step : StepOf A) (answer : Answer I) → length said ≡ length before →
      AreAnswersTo f at (before ++ step ∷ later) (said ++ answer ∷ more) → AreAnswersTo f at before said × IsAnswerTo f (after_answers f at before said) step answer
  split-answers at [] later [] more step answer len right = (tt, right.0)
  split-answers at (s ∷ before) later (a ∷ said) more step answer len right =
      let rest = split-answers (after_answer f at s a) before later said more step answer (omega arith) right.1 in ((right.0, rest.0), rest.1)
  split-answers at before later said more step answer len right = absurd (omega arith)

  -- a step that was refused after these, where each tenant is what its own steps give
  refused-there : (at : CoreState) (before : List (StepOf A)) (said : List (Answer I)) (step : StepOf A) (refusal : Refusal) →
      ((number : ℕ) → tenant_in at.tenants number ≡ stands f number before said) → AreApart at.tenants → IsAnswerToStep f at step (Err refusal) →
      IsForOwnState f before said step refusal ⊎ IsForBusyWorker f before said step refusal
  refused-there at before said step refusal own apart right =
      let alone = lone f (tenant_in at.tenants (tenant_of step)) step in
      elim (refused-for (meets_busy step at.tenants) alone refusal right.own_state right.busy_worker right.else_taken) [
        | inl is ↦ inl (ap (λ (t : Option Tenant). lone_refusal f t step) (sym (own (tenant_of step))) ∙ is)
        | inr is ↦ inr (
            let met = meets-there step at.tenants apart is.1 in
            let there = met.elsewhere in
            let stood = sym (own there.another) ∙ there.there in
            record {
              is = is.0;
              worker = met.worker;
              free = met.free;
              elsewhere = record { another = there.another; other = there.other; tenant = there.tenant; there = stood; busy = there.busy };
            })
      ]

  pub refused-for-these : (totals : ReserveOf) (steps : List (StepOf A)) (answers : List (Answer I)) (after : CoreState) → IsHeadline f (shared_by_nobody totals) steps answers after →
      AreRefusedForThese f steps answers
  refused-for-these totals steps answers after whole before later said more step refusal steps_are answers_are len no_admission =
      let new = shared_by_nobody totals in
      let P : List (StepOf A) → Type 0 = λ all. AreAnswersTo f new all answers in
      let Q : List (Answer I) → Type 0 = λ told. AreAnswersTo f new (before ++ step ∷ later) told in
      let split = split-answers new before later said more step (Err refusal) len (subst Q answers_are (subst P steps_are whole.refused)) in
      let head = headline f new before said tt split.0 in
      let apart = apart-after f new before said tt in
      refused-there (after_answers f new before said) before said step refusal (λ number. (head.undisturbed number).state) apart (split.1.1 no_admission)
