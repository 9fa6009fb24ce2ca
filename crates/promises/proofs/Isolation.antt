-- For the promise that no tenant disturbs another: two runs in which a tenant's own taken steps are the same, and a
-- list with all other tenants' steps removed.
use Rattle.promises.proofs.Common.{◌≡◌, ℕ, true, false, ◌==◌, List, [], ◌∷◌, Option, Some, None, Result, Ok, Err, refl, sym, ap, ◌∙◌, subst, arith, is_ok, nat_tests, ReserveOf, Refusal, StepOf, Take, Steal, Inlet, Finish, Functions, Tenant, Outcome, lone, refusal_in, tenant_of, only, alone_from, state_after, answer_of, answers_from, CoreState, shared_by_nobody, tenant_in, with_tenant, without_tenant, with_outcome, is_busy_elsewhere, meets_busy, IsHeadline, IsAnswerTo, AreAnswersTo, AreNumbersGiven, after_answer, is_admission, taken_steps, own_answers, step-taken, shared-after-taken, tenant_in-with_outcome, own_steps, AreAdmissionsTaken}
use Rattle.promises.proofs.Answered.{Answer}

abbrev Entries : Type 0
Entries = List (ℕ × Tenant)

-- ---- only this tenant is there

abbrev AreOnly : ℕ → Entries → Type 0
AreOnly number [] = Unit {0}
AreOnly number (entry ∷ entries) = (entry.0 ≡ number) × AreOnly number entries

only-with_tenant : (n : ℕ) (t : Tenant) (es : Entries) → AreOnly n es → AreOnly n (with_tenant n t es)
only-with_tenant n t [] only = (refl, tt)
only-with_tenant n t (e ∷ es) only = grind (arith, only-with_tenant n t es only.1)

only-without_tenant : (n : ℕ) (es : Entries) → AreOnly n es → AreOnly n (without_tenant n es)
only-without_tenant n [] only = tt
only-without_tenant n (e ∷ es) only = grind (arith, only-without_tenant n es only.1)

only-with_outcome : (n : ℕ) (t : Option Tenant) (es : Entries) → AreOnly n es → AreOnly n (with_outcome n t es)
only-with_outcome n None es only = only-without_tenant n es only
only-with_outcome n (Some t) es only = only-with_tenant n t es only

nobody-busy : (worker n : ℕ) (es : Entries) → AreOnly n es → is_busy_elsewhere worker n es ≡ false
nobody-busy worker n [] only = refl
nobody-busy worker n (e ∷ es) only =
    let own : (e.0 == n) ≡ true = (let is : e.0 ≡ n = only.0 in grind (arith, nat_tests)) in rw own (nobody-busy worker n es only.1)

meets-nobody : {A : Type 0} (step : StepOf A) (es : Entries) → AreOnly (tenant_of step) es → meets_busy step es ≡ false
meets-nobody (Take worker name) es only = nobody-busy worker name.tenant es only
meets-nobody (Steal worker from name) es only = nobody-busy worker name.tenant es only
meets-nobody (Inlet worker name) es only = nobody-busy worker name.tenant es only
meets-nobody (Finish worker name) es only = nobody-busy worker name.tenant es only
meets-nobody _ es only = refl

-- ---- lists of one tenant's steps that it alone would take

abbrev AreAllOk : {I : Type 0} → List (Answer I) → Type 0
AreAllOk [] = Unit {0}
AreAllOk (answer ∷ answers) = (is_ok answer ≡ true) × AreAllOk answers

own_answers-ok : {I A : Type 0} (number : ℕ) (steps : List (StepOf A)) (answers : List (Answer I)) → AreAllOk (own_answers number steps answers)
own_answers-ok number [] answers = tt
own_answers-ok number (step ∷ steps) [] = tt
own_answers-ok number (step ∷ steps) (Err refusal ∷ answers) = own_answers-ok number steps answers
own_answers-ok number (step ∷ steps) (Ok did ∷ answers) = grind (arith, own_answers-ok number steps answers)

abbrev AreAllOf : {A : Type 0} → ℕ → List (StepOf A) → Type 0
AreAllOf number [] = Unit {0}
AreAllOf number (step ∷ steps) = (tenant_of step ≡ number) × AreAllOf number steps

only-all-of : {A : Type 0} (number : ℕ) (steps : List (StepOf A)) → AreAllOf number (only number steps)
only-all-of number [] = tt
only-all-of number (step ∷ steps) = grind (arith, only-all-of number steps, nat_tests)

only-same : {A : Type 0} (number : ℕ) (steps : List (StepOf A)) → AreAllOf number steps → only number steps ≡ steps
only-same number [] all = refl
only-same number (step ∷ steps) all = grind (arith, only-same number steps all.1, nat_tests)

-- ---- one step

-- what its tenant alone would take, a step is answered Ok
ok-else : {I : Type 0} (own : Result (Outcome I) Refusal) (answer : Answer I) → is_ok (answer_of own) ≡ true → (refusal_in own ≡ None → answer ≡ answer_of own) →
    is_ok answer ≡ true
ok-else {I = I} (Ok outcome) answer ok is = ap (λ (a : Answer I). is_ok a) (is refl)
ok-else (Err refusal) answer ok is = absurd cc

module _ {I A : Type 0} (f : Functions I A) where
  answered-ok : (before : CoreState) (own : Option Tenant) (step : StepOf A) (answer : Answer I) → AreOnly (tenant_of step) before.tenants →
      tenant_in before.tenants (tenant_of step) ≡ own → is_ok (answer_of (lone f own step)) ≡ true → IsAnswerTo f before step answer →
      (is_admission step ≡ true → is_ok answer ≡ true) → is_ok answer ≡ true
  answered-ok before own step answer only is ok right admitted =
      elim (is_admission step) as (λ b. is_admission step ≡ b → is_ok answer ≡ true) [
        | true ↦ λ admission. admitted admission
        | false ↦ λ other.
            let r = right.1 other in
            let alone = lone f (tenant_in before.tenants (tenant_of step)) step in
            ok-else alone answer (rw is ok) (λ none. r.else_taken none (meets-nobody step before.tenants only))
      ] refl

  -- ---- the list

  all-taken : (number : ℕ) (before : CoreState) (own : Option Tenant) (steps : List (StepOf A)) (answers : List (Answer I)) →
      AreNumbersGiven before → AreOnly number before.tenants → tenant_in before.tenants number ≡ own → AreAllOf number steps → AreAllOk (answers_from f own steps) →
      AreAnswersTo f before steps answers → AreAdmissionsTaken steps answers → (taken_steps steps answers ≡ steps) × (own_answers number steps answers ≡ answers)
  all-taken number before own [] [] known sole is mine ok right admitted = (refl, refl)
  all-taken number before own (step ∷ steps) (Err refusal ∷ answers) known sole is mine ok right admitted =
      let refused : Answer I = Err refusal in
      let ought : is_ok refused ≡ true = answered-ok before own step (Err refusal) (rw mine.0 sole) (rw mine.0 is) ok.0 right.0 admitted.0 in absurd cc
  all-taken number before own (step ∷ steps) (Ok did ∷ answers) known sole is mine ok right admitted =
      let t = step-taken f before step did known right.0 in
      let left = shared-after-taken f before step did t in
      let next = after_answer f before step (Ok did) in
      let state = state_after own (lone f own step) in
      let lone_is : lone f own step ≡ Ok t.outcome = rw (mine.0, is) at t.own in
      let own_is : tenant_in next.tenants number ≡ state = rw (left, lone_is, ← mine.0) (tenant_in-with_outcome (tenant_of step) t.outcome.0 before.tenants) in
      let only_its : AreOnly number next.tenants = rw (left, mine.0) (only-with_outcome number t.outcome.0 before.tenants sole) in
      let rest = all-taken number next state steps answers (rw left t.known) only_its own_is mine.1 ok.1 right.1 admitted.1 in
      let whose : (tenant_of step == number) ≡ true = (let is_own : tenant_of step ≡ number = mine.0 in grind (arith, nat_tests)) in
      (ap (λ (l : List (StepOf A)). step ∷ l) rest.0, rw whose (ap (λ (l : List (Answer I)). Ok did ∷ l) rest.1))
  all-taken number before own steps answers known sole is mine ok right admitted = absurd right

module _ {I A : Type 0} (f : Functions I A) {totals other_totals : ReserveOf} {steps other_steps : List (StepOf A)} {answers other_answers : List (Answer I)}
    {after other_after : CoreState} (number : ℕ) (one : IsHeadline f (shared_by_nobody totals) steps answers after)
    (other : IsHeadline f (shared_by_nobody other_totals) other_steps other_answers other_after) where
  pub undisturbed : own_steps number steps answers ≡ own_steps number other_steps other_answers →
      (tenant_in after.tenants number ≡ tenant_in other_after.tenants number) × (own_answers number steps answers ≡ own_answers number other_steps other_answers)
  undisturbed e =
      let a = one.undisturbed number in
      let b = other.undisturbed number in
      (a.state ∙ ap (λ (own : List (StepOf A)). alone_from f None own) e ∙ sym b.state, a.replies ∙ ap (λ (own : List (StepOf A)). answers_from f None own) e ∙ sym b.replies)

  pub alone : other_steps ≡ own_steps number steps answers → AreAdmissionsTaken other_steps other_answers →
      (tenant_in after.tenants number ≡ tenant_in other_after.tenants number) × (own_answers number steps answers ≡ other_answers)
  alone are admitted =
      let mine : AreAllOf number other_steps = rw are (only-all-of number (taken_steps steps answers)) in
      let given = ap (λ (own : List (StepOf A)). answers_from f None own) (sym are) in
      let said : own_answers number steps answers ≡ answers_from f None other_steps = (one.undisturbed number).replies ∙ given in
      let ok : AreAllOk (answers_from f None other_steps) = subst (λ (l : List (Answer I)). AreAllOk l) said (own_answers-ok number steps answers) in
      let both = all-taken f number (shared_by_nobody other_totals) None other_steps other_answers tt tt refl mine ok other.refused admitted in
      let same : own_steps number other_steps other_answers ≡ other_steps = ap (λ (l : List (StepOf A)). only number l) both.0 ∙ only-same number other_steps mine in
      let und = undisturbed (sym are ∙ sym same) in
      (und.0, und.1 ∙ both.1)
