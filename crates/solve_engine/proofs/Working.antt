-- What the search of a line of `solve` keeps: it begins by an admission and a Submit, and goes on by a worker's steps.
use Rattle.solve_engine.proofs.Common.{◌≡◌, ◌≢◌, ℕ, inl, inr, false, eqb, ltb, [], ◌∷◌, ◌++◌, Option, Some, None, Result, Ok, Err, refl, ap, sym, ◌∙◌, arith, cases_Bool, eqb-true, eqb-false, nat_tests, ReserveOf, IsWithinLimits, Refusal, StepOf, Admit, Submit, DidOf, Admitted, Tenant, admitted_with, left, Outcome, lone, lone_step, lone_refusal, refusal_in, submitted, tenant_of, answer_of, CoreState, CoreOf, shared_by_nobody, shared_with, tenant_in, IsOneStep, AreNumbersGiven, tenant_in-with_outcome, tenant_in-other-with_outcome, IsTaken, step-taken, shared-after-taken, IsRunning, runs-on, submits, Leaf, LeafAnswer, jamboree, root_words, IsSearch, Jamboree, HasRun, HasReserved, Task, WorksOn, IsWork, Keeps, IsNewCore}
use Rattle.solve_engine.proofs.Staying.{Stays, step-stays}
use Rattle.solve_engine.proofs.Asking.{StepSearches, step-asks, submit-asks, nothing-asked}

-- a worker's step submits nothing, and so is one that a search may take
work-search : {A : Type 0} (step : StepOf A) → IsWork step → (submits step ≡ []) × IsSearch step
work-search (Submit number words size) work = absurd work
work-search _ work = (refl, tt)

module _ (grain : ℕ) (totals : ReserveOf) where
  -- a run goes on
  run-begins : (shared : CoreState) → shared ≡ shared_by_nobody totals → HasRun grain totals shared
  run-begins shared is = record { steps = []; answers = []; right = tt; comes = is }

  run-on : (before : CoreState) (step : StepOf LeafAnswer) (answer : Result (DidOf Leaf) Refusal) (after : CoreState) → HasRun grain totals before →
      IsOneStep (jamboree grain) before step answer after → HasRun grain totals after
  run-on before step answer after run one =
      let alone = shared_by_nobody totals in
      let so : IsRunning (jamboree grain) alone run.steps [] run.answers before = record { answered = run.answers; appended = refl; right = run.right; left = run.comes } in
      let on = runs-on so one in
      record { steps = run.steps ++ step ∷ []; answers = on.answered; right = on.right; comes = on.left }

module _ (grain : ℕ) (before : CoreState) (step : StepOf LeafAnswer) where
  -- what a taken step leaves under number 1
  left-in : (did : DidOf Leaf) (after : CoreState) → IsOneStep (jamboree grain) before step (Ok did) after → (t : IsTaken (jamboree grain) before step did) →
      (tenant_of step ≡ 1 → tenant_in after.tenants 1 ≡ t.outcome.0) × (tenant_of step ≢ 1 → tenant_in after.tenants 1 ≡ tenant_in before.tenants 1)
  left-in did after one t =
      let shared = shared_with before step t.outcome.0 in
      let is : after ≡ shared = one.left ∙ shared-after-taken (jamboree grain) before step did t in
      let entries : tenant_in after.tenants 1 ≡ tenant_in shared.tenants 1 = ap (λ (s : CoreState). tenant_in s.tenants 1) is in (
        (λ own. entries ∙ ap (λ n. tenant_in shared.tenants n) (sym own) ∙ tenant_in-with_outcome (tenant_of step) t.outcome.0 before.tenants),
        (λ other. entries ∙ tenant_in-other-with_outcome 1 (tenant_of step) t.outcome.0 before.tenants other),
      )

  -- the tenant stays, whoever's the worker's step is
  reserved-on : (quota : ReserveOf) (answer : Result (DidOf Leaf) Refusal) (after : CoreState) → IsWork step → AreNumbersGiven before → HasReserved quota before →
      IsOneStep (jamboree grain) before step answer after → HasReserved quota after
  reserved-on quota (Err refusal) after work known has one =
      record { tenant = has.tenant; there = ap (λ (s : CoreState). tenant_in s.tenants 1) one.left ∙ has.there; reserve = has.reserve }
  reserved-on quota (Ok did) after work known has one =
      let t = step-taken (jamboree grain) before step did known one.answered in
      let left = left-in did after one t in
      elim (cases_Bool (eqb (tenant_of step) 1)) [
        | inl same ↦ (let own : tenant_of step ≡ 1 = eqb-true (tenant_of step) 1 same in
            let there = sym (ap (tenant_in before.tenants) own ∙ has.there) in
            let comes : lone_step (jamboree grain) has.tenant step ≡ Ok t.outcome = ap (λ (o : Option Tenant). lone (jamboree grain) o step) there ∙ t.own in
            by t.outcome.0 (left.0 own) (step-stays (jamboree grain) has.tenant step t.outcome work comes))
        | inr differs ↦ record { tenant = has.tenant; there = left.1 (eqb-false (tenant_of step) 1 differs) ∙ has.there; reserve = has.reserve }
      ]
    where
      by : (own : Option Tenant) → tenant_in after.tenants 1 ≡ own → Stays has.tenant own → HasReserved quota after
      by None at stays = absurd stays
      by (Some tenant) at stays = record { tenant = tenant; there = at; reserve = stays ∙ has.reserve }

module _ (before after : CoreOf Jamboree) (step : StepOf LeafAnswer) (answer : Result (DidOf Leaf) Refusal) where
  -- a worker's step keeps what is worked on
  pub step-keeps : IsWork step → AreNumbersGiven before.shared → after.procedure ≡ before.procedure →
      IsOneStep (jamboree before.procedure.grain) before.shared step answer after.shared → StepSearches before.shared step answer after.shared → Keeps before after
  step-keeps work known same one searching task works =
      let own : IsOneStep (jamboree task.grain) before.shared step answer after.shared = rw works.grain at one in
      let plain = work-search step work in
      record {
        grain = ap (λ (p : Jamboree). p.grain) same ∙ works.grain;
        run = run-on task.grain task.quota before.shared step answer after.shared works.run own;
        reserved = reserved-on task.grain before.shared step task.quota answer after.shared work known works.reserved own;
        asked = step-asks task.asked before.shared after.shared step answer plain.0 plain.1 searching works.asked;
      }

-- the tenant comes
module _ (quota : ReserveOf) (before after : CoreOf Jamboree) (did : DidOf Leaf) where
  abbrev admitting : StepOf LeafAnswer
  admitting = Admit 1 quota

  pub begins : before.shared ≡ shared_by_nobody quota → AreNumbersGiven before.shared → after.procedure ≡ before.procedure →
      IsOneStep (jamboree before.procedure.grain) before.shared admitting (Ok did) after.shared → StepSearches before.shared admitting (Ok did) after.shared →
      IsNewCore before.procedure.grain quota after
  begins is known same one searching =
      let grain = before.procedure.grain in
      let t = step-taken (jamboree grain) before.shared admitting did known one.answered in
      let left = (left-in grain before.shared admitting did after.shared one t).0 refl in
      let none = sym (ap (λ (s : CoreState). tenant_in s.tenants 1) is) in
      let fresh = left ∙ admitted-left t.outcome (ap (λ (o : Option Tenant). lone (jamboree grain) o admitting) none ∙ t.own) in
      record {
        works = record {
          grain = ap (λ (p : Jamboree). p.grain) same;
          run = run-on grain quota before.shared admitting (Ok did) after.shared (run-begins grain quota before.shared is) one;
          reserved = record { tenant = admitted_with quota; there = fresh; reserve = refl };
          asked = step-asks [] before.shared after.shared admitting (Ok did) refl tt searching (nothing-asked quota before.shared is);
        };
        fresh = fresh;
      }
    where
      admitted-left : (outcome : Outcome Leaf) → lone (jamboree before.procedure.grain) None admitting ≡ Ok outcome → outcome.0 ≡ Some (admitted_with quota)
      admitted-left outcome e =
          let both : ◌≡◌ {A = Result (Outcome Leaf) Refusal} (Ok (Some (admitted_with quota), Admitted)) (Ok outcome) = e in
          let own : ◌≡◌ {A = Outcome Leaf} outcome (Some (admitted_with quota), Admitted) = cc in ap (λ (o : Outcome Leaf). o.0) own

-- the job comes: a tenant that has just come has a place, a node and a segment for it
module _ (grain : ℕ) (quota : ReserveOf) (own opp depth : ℕ) (limits : IsWithinLimits quota) where
  some-nodes : eqb (left (admitted_with quota)).nodes 0 ≡ false
  some-nodes = let some = limits.some_nodes in grind (arith, nat_tests)

  some-segments : ltb (left (admitted_with quota)).segments 1 ≡ false
  some-segments = let some = limits.some_segments in grind (arith, nat_tests)

  abbrev submitting : StepOf LeafAnswer
  submitting = Submit 1 (root_words own opp depth) 12

  abbrev task : Task
  task = record { grain = grain; quota = quota; asked = root_words own opp depth ∷ [] }

  abbrev after_submit : Outcome Leaf
  after_submit = submitted (admitted_with quota) 1 (root_words own opp depth) 12

  submit-taken : lone_step (jamboree grain) (admitted_with quota) submitting ≡ Ok after_submit
  submit-taken = rw (some-nodes, some-segments) refl

  module _ (before after : CoreOf Jamboree) (known : AreNumbersGiven before.shared) (same : after.procedure ≡ before.procedure) (search : IsSearch submitting)
      (begun : IsNewCore grain quota before) where
    submit-works : (answer : Result (DidOf Leaf) Refusal) → IsOneStep (jamboree grain) before.shared submitting answer after.shared →
        StepSearches before.shared submitting answer after.shared → WorksOn task after
    submit-works (Err refusal) one searching =
        let comes : lone (jamboree grain) (tenant_in before.shared.tenants 1) submitting ≡ Ok after_submit =
        ap (λ (o : Option Tenant). lone (jamboree grain) o submitting) begun.fresh ∙ submit-taken in
        let none : lone_refusal (jamboree grain) (tenant_in before.shared.tenants 1) submitting ≡ None = ap refusal_in comes in
        let told = (one.answered.1 refl).else_taken none refl ∙ ap answer_of comes in
        absurd cc
    submit-works (Ok did) one searching =
        let t = step-taken (jamboree grain) before.shared submitting did known one.answered in
        let left = (left-in grain before.shared submitting did after.shared one t).0 refl in
        let fresh = ap (λ (o : Option Tenant). lone (jamboree grain) o submitting) (sym begun.fresh) in
        let comes : lone_step (jamboree grain) (admitted_with quota) submitting ≡ Ok t.outcome = fresh ∙ t.own in
        let both : ◌≡◌ {A = Result (Outcome Leaf) Refusal} (Ok after_submit) (Ok t.outcome) = sym submit-taken ∙ comes in
        let is : ◌≡◌ {A = Outcome Leaf} t.outcome after_submit = cc in
        record {
          grain = ap (λ (p : Jamboree). p.grain) same ∙ begun.works.grain;
          run = run-on grain quota before.shared submitting (Ok did) after.shared begun.works.run one;
          reserved = record { tenant = _; there = left ∙ ap (λ (o : Outcome Leaf). o.0) is; reserve = refl };
          asked = submit-asks (root_words own opp depth) 12 before.shared after.shared did search searching begun.works.asked;
        }

    pub submits-on : (answer : Result (DidOf Leaf) Refusal) → IsOneStep (jamboree before.procedure.grain) before.shared submitting answer after.shared →
        StepSearches before.shared submitting answer after.shared → WorksOn task after
    submits-on answer one searching = submit-works answer (rw begun.works.grain at one) searching
