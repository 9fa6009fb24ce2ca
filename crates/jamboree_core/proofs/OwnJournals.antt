-- Of a core that began with no tenant: the own taken steps of a tenant that is there are its journal.
use Rattle.jamboree_core.proofs.Common.{◌≡◌, ℕ, inl, inr, List, [], ◌∷◌, ◌++◌, Option, Some, None, Result, Ok, Err, refl, ap, sym, subst, ◌∙◌, ◌<◌, ◌≤◌, arith, append_assoc, append-nil, cases_eq, eq-eqb, ne_eqb, Functions, ReserveOf, Refusal, NoTenant, StepOf, DidOf, Admit, Tenant, Outcome, lone, tenant_of, only, CoreState, shared_by_nobody, shared_with, tenant_in, AreNumbersGiven, AreAnswersTo, after_answers, taken_steps, step-taken, shared-after-taken, tenant_in-with_outcome, tenant_in-other-with_outcome, IsJournalOf}
use Rattle.sched_rules.specs.Cores.{newest_after, step_result}
use Rattle.sched_rules.specs.Headline.{after_answer}
use Rattle.sched_rules.proofs.Tenants.{known-number}
use Rattle.sched_laws.proofs.Common.{above}
use Rattle.sched_laws.proofs.Consequences.{by-taken}
use Rattle.sched_laws.proofs.FitAnswers.{only-append}
use Rattle.jamboree_core.proofs.JournalLemmas.{longer}

module _ {I A : Type 0} (functions : Functions I A) (number : ℕ) where
  -- what is known of a number's steps so far: they are the journal of its tenant, if that is there; and there are none where the number
  -- is above all
  pub record IsKnown (shared : CoreState) (past : List (StepOf A)) : Type 0 where
    pub own : (tenant : Tenant) → tenant_in shared.tenants number ≡ Some tenant → IsJournalOf functions past tenant
    pub new : shared.newest < number → past ≡ []

  -- a taken step of this tenant
  own-longer : (before : Option Tenant) (past : List (StepOf A)) (step : StepOf A) (outcome : Outcome I) (next : Tenant) →
      ((tenant : Tenant) → before ≡ Some tenant → IsJournalOf functions past tenant) → (before ≡ None → past ≡ []) → lone functions before step ≡ Ok outcome → outcome.0 ≡ Some next →
      IsJournalOf functions (past ++ step ∷ []) next
  own-longer (Some tenant) past step outcome next own new is left =
      let known = own tenant refl in
      let on = longer functions None past tenant next step outcome known.taken known.comes is left in record { taken = on.0; comes = on.1 }
  own-longer None past (Admit n quota) outcome next own new is left = rw (new refl) (record { taken = (tt, tt); comes = grind arith })
  own-longer None past _ outcome next own new is left = (let no : ◌≡◌ {A = Result (Outcome I) Refusal} (Err NoTenant) (Ok outcome) = is in absurd cc)

  -- numbers after a taken step: its own is given, none is taken back, and one that wasn't there is new
  abbrev Given : CoreState → StepOf A → Type 0
  Given before step =
      (tenant_of step ≤ newest_after before.newest step) × (before.newest ≤ newest_after before.newest step) × (tenant_in before.tenants (tenant_of step) ≡ None → before.newest < tenant_of step)

  given-after : (before : CoreState) (step : StepOf A) (outcome : Outcome I) → AreNumbersGiven before → step_result functions before step ≡ Ok outcome → Given before step
  given-after before step outcome known is = by-taken functions before step outcome (λ o. Given before step) is (record {
    at_admit = λ n quota admits passed. let low = above n before.newest passed.0 in (grind arith, grind arith, grind arith);
    at_step = λ tenant o at taken allowed. (grind (arith, known-number), grind (arith, known-number), λ none. absurd (let no : ◌≡◌ {A = Option Tenant} None (Some tenant) = sym none ∙ at in cc));
  })

  known-on : (before : CoreState) (past : List (StepOf A)) (step : StepOf A) (outcome : Outcome I) → Given before step → lone functions (tenant_in before.tenants (tenant_of step)) step ≡ Ok outcome →
      IsKnown before past → IsKnown (shared_with before step outcome.0) (past ++ only number (step ∷ []))
  known-on before past step outcome given is known = elim (cases_eq (tenant_of step) number) [
    | inl same ↦ rw (eq-eqb (tenant_of step) number same) (record {
      own = λ tenant at. (let left : outcome.0 ≡ Some tenant = sym (tenant_in-with_outcome (tenant_of step) outcome.0 before.tenants) ∙ ap (tenant_in _) same ∙ at in
          own-longer (tenant_in before.tenants (tenant_of step)) past step outcome tenant
          (λ one there. known.own one (sym (ap (tenant_in before.tenants) same) ∙ there)) (λ none. known.new (subst (λ (n : ℕ). before.newest < n) same (given.2 none))) is left);
      new = λ low. absurd (let least = given.0 in omega (arith, low, least, same));
    })
    | inr other ↦ rw (ne_eqb (tenant_of step) number other, append-nil past) (record {
      own = λ tenant at. known.own tenant (sym (tenant_in-other-with_outcome number (tenant_of step) outcome.0 before.tenants other) ∙ at);
      new = λ low. known.new (let more = given.1 in omega (arith, low, more));
    })
  ]

  run-known : (before : CoreState) (past steps : List (StepOf A)) (answers : List (Result (DidOf I) Refusal)) → AreNumbersGiven before → AreAnswersTo functions before steps answers → IsKnown before past →
      IsKnown (after_answers functions before steps answers) (past ++ only number (taken_steps steps answers))
  run-known before past [] answers given right known = rw (append-nil past) known
  run-known before past (step ∷ steps) [] given right known = absurd right
  run-known before past (step ∷ steps) (Err refusal ∷ answers) given right known = run-known before past steps answers given right.1 known
  run-known before past (step ∷ steps) (Ok did ∷ answers) given right known =
      let t = step-taken functions before step did given right.0 in
      let is = shared-after-taken functions before step did t in
      let next = known-on before past step t.outcome (given-after before step t.outcome given t.among) t.own known in
      let rest = run-known (after_answer functions before step (Ok did)) (past ++ only number (step ∷ [])) steps answers (rw is t.known) right.1 (rw is next) in
      subst (IsKnown (after_answers functions (after_answer functions before step (Ok did)) steps answers))
      (append_assoc past (only number (step ∷ [])) (only number (taken_steps steps answers)) ∙ ap (λ (more : List (StepOf A)). past ++ more) (sym (only-append number (step ∷ []) (taken_steps steps answers)))) rest

  pub own-journal : (totals : ReserveOf) (steps : List (StepOf A)) (answers : List (Result (DidOf I) Refusal)) (tenant : Tenant) → AreAnswersTo functions (shared_by_nobody totals) steps answers →
      tenant_in (after_answers functions (shared_by_nobody totals) steps answers).tenants number ≡ Some tenant → IsJournalOf functions (only number (taken_steps steps answers)) tenant
  own-journal totals steps answers tenant right at = (run-known (shared_by_nobody totals) [] steps answers tt right (record { own = λ one there. absurd cc; new = λ low. refl })).own tenant at
