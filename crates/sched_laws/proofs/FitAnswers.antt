-- Every right answer of a core leaves all frames fitting their procedure, and so does every list of them; lists of
-- steps in parts, and how many jobs there are.
use Rattle.sched_laws.proofs.Common.{◌≡◌, ℕ, ◌≤◌, true, List, [], ◌∷◌, ◌++◌, Option, Some, Result, Ok, Err, refl, arith, append_assoc, append-nil, ◌+◌, length, is_ok, ◌==◌, cases_Bool, cases_eq, ReserveOf, Refusal, StepOf, Submit, DidOf, Submitted, Functions, Tenant, Tree, Fitting, Rooting, Outcome, lone, lone_step, tenant_of, only, state_after, alone_from, answers_from, CoreState, shared_by_nobody, tenant_in, step_result, newest_after, shared_with, IsAnswerTo, AreAnswersTo, after_answer, after_answers, taken_steps, AreNumbersGiven, tenant_in-with_outcome, tenant_in-other-with_outcome, known-number, step-taken, above, shared-after-taken, found, IsShaped, AreShaped, TenantFits, CoreFits, submits, origins_of, RootFits, RootsFit, origins_after, StaysFitting, JobsFit, filter-append, Job, Continuation, ParentFits, NewChildFits, inl, inr, ap, sym, ◌∙◌, eq-eqb, ne_eqb}
use Rattle.sched_laws.proofs.Shaped.{unless-passed, came}
use Rattle.sched_laws.proofs.Consequences.{shaped-in, by-taken, shaped_answer}
use Rattle.sched_laws.proofs.Holds.{Lists}
use Rattle.sched_laws.proofs.Fits.{IsLawful, LeftFits}
use Rattle.sched_laws.proofs.FitSteps.{submit-fits, own-fits}

-- the origins after a list of steps, by its first
origins-on : {I A : Type 0} (origins : ℕ → Lists) (step : StepOf A) (did : DidOf I) (rest : List (StepOf A)) (number : ℕ) →
    origins_after origins step (Ok did) number ++ origins_of (only number rest) ≡ origins number ++ origins_of (only number (step ∷ rest))
origins-on origins step did rest number = grind (arith, cases_Bool, append_assoc)

-- the same origins by another name
same-core : (fits : Fitting) (rooted : Rooting) (a b : ℕ → Lists) (shared : CoreState) → ((number : ℕ) → a number ≡ b number) →
    CoreFits fits rooted a shared → CoreFits fits rooted b shared
same-core fits rooted a b shared same core = record {
  tenants = λ number tenant at. rw (← same number) (core.tenants number tenant at);
  unused = λ number low. sym (same number) ∙ core.unused number low;
}

-- from nobody
pub nobody-fits : (fits : Fitting) (rooted : Rooting) (totals : ReserveOf) → CoreFits fits rooted (λ number. []) (shared_by_nobody totals)
nobody-fits fits rooted totals = record { tenants = λ number tenant at. absurd cc; unused = λ number low. refl }

-- every procedure keeps that every frame fits, where that says nothing
abbrev AlwaysFits : Fitting
AlwaysFits own children mark = Unit {0}

abbrev AlwaysRooted : Rooting
AlwaysRooted origin own = Unit {0}

parent-always : (origin : List ℕ) (above older : Lists) (own : List ℕ) (younger : Lists) → ParentFits AlwaysFits AlwaysRooted origin above (older, younger) own
parent-always origin above older own younger = grind arith

child-always : (after : Continuation) → NewChildFits AlwaysFits after
child-always after = grind arith

roots-always : {A : Type 0} (steps : List (StepOf A)) → RootsFit AlwaysFits AlwaysRooted steps
roots-always [] = tt
roots-always (step ∷ steps) = grind (arith, roots-always steps)

-- as many jobs as origins
as-many : (fits : Fitting) (rooted : Rooting) (tree : Tree) (origins : Lists) (jobs : List Job) → JobsFit fits rooted tree origins jobs →
    length jobs ≡ length origins
as-many fits rooted tree (origin ∷ origins) (job ∷ jobs) all = grind (arith, as-many fits rooted tree origins jobs)
as-many fits rooted tree origins jobs all = grind arith

module _ {I A : Type 0} (functions : Functions I A) where
  -- no number is above the greatest, whatever a step is answered
  pub known-answer : (before : CoreState) (step : StepOf A) (answer : Result (DidOf I) Refusal) → AreNumbersGiven before → IsAnswerTo functions before step answer →
      AreNumbersGiven (after_answer functions before step answer)
  known-answer before step (Err refusal) known right = known
  known-answer before step (Ok did) known right =
      let t = step-taken functions before step did known right in rw (shared-after-taken functions before step did t) t.known

  module _ (fits : Fitting) (rooted : Rooting) where
    -- every step of a tenant
    pub step-fits : (origins : Lists) (tenant : Tenant) (step : StepOf A) (outcome : Outcome I) → IsLawful functions fits rooted → IsShaped tenant →
        TenantFits fits rooted origins tenant → RootFits fits rooted step → lone_step functions tenant step ≡ Ok outcome →
        LeftFits fits rooted (origins ++ submits step) outcome.0
    step-fits origins tenant (Submit number words size) outcome lawful shape fitting root is = grind (arith, unless-passed, came, submit-fits)
    step-fits origins tenant step outcome lawful shape fitting root is = rw (append-nil origins) (own-fits shape fitting lawful step outcome refl is)

    -- a core after a taken step: what its tenant comes to fits, the tenant's number is no greater than the greatest, and that is no less than before
    core-after : (origins : ℕ → Lists) (before : CoreState) (step : StepOf A) (outcome : Outcome I) (did : DidOf I) → IsLawful functions fits rooted →
        AreNumbersGiven before → AreShaped before.tenants → CoreFits fits rooted origins before → RootFits fits rooted step →
        step_result functions before step ≡ Ok outcome → CoreFits fits rooted (origins_after origins step (Ok did)) (shared_with before step outcome.0)
    core-after origins before step outcome did lawful known shaped core root is =
        let n = tenant_of step in
        let left = by-taken functions before step outcome (λ o. LeftFits fits rooted (origins n ++ submits step) o × (n ≤ newest_after before.newest step)
        × (before.newest ≤ newest_after before.newest step)) is (record {
          at_admit = λ number quota admits passed.
              let low = above number before.newest passed.0 in let none = core.unused number low in (grind arith, grind arith, grind arith);
          at_step = λ tenant o at taken allowed. (
            step-fits _ tenant step o lawful (shaped-in n before.tenants tenant shaped at) (core.tenants n tenant at) root taken,
            grind (arith, known-number),
            grind (arith, known-number),
          );
        }) in
        let low = left.1 in
        let more = left.2 in
        record {
          tenants = λ number tenant at. elim (cases_eq n number) [
            | inl same ↦ (let own : outcome.0 ≡ Some tenant = sym (tenant_in-with_outcome n outcome.0 before.tenants) ∙ ap (tenant_in _) same ∙ at in
                let fit = rw own at left.0 in rw (eq-eqb n number same, ← same) fit)
            | inr ne ↦ rw (ne_eqb n number ne) (core.tenants number tenant (sym (tenant_in-other-with_outcome number n outcome.0 before.tenants ne) ∙ at))
          ];
          unused = λ number above. rw (ne_eqb n number (λ e. omega arith)) (core.unused number (omega arith));
        }

    -- a core that fits does so after one answer (answer-keeps), at each of a list (stays-fitting) and after all (run-fits)
    pub answer-keeps : (origins : ℕ → Lists) (before : CoreState) (step : StepOf A) (answer : Result (DidOf I) Refusal) →
        IsLawful functions fits rooted → AreNumbersGiven before → AreShaped before.tenants → CoreFits fits rooted origins before →
        (is_ok answer ≡ true → RootFits fits rooted step) → IsAnswerTo functions before step answer →
        AreNumbersGiven (after_answer functions before step answer)
        × CoreFits fits rooted (origins_after origins step answer) (after_answer functions before step answer)
    answer-keeps origins before step (Err refusal) lawful known shaped core root right = (known, core)
    answer-keeps origins before step (Ok did) lawful known shaped core root right =
        let t = step-taken functions before step did known right in
        rw (shared-after-taken functions before step did t) (t.known, core-after origins before step t.outcome did lawful known shaped core (root refl) t.among)

    pub stays-fitting : IsLawful functions fits rooted → (origins : ℕ → Lists) (before : CoreState) (steps : List (StepOf A)) (answers : List (Result (DidOf I) Refusal)) →
        AreNumbersGiven before → AreShaped before.tenants → CoreFits fits rooted origins before →
        AreAnswersTo functions before steps answers → StaysFitting functions fits rooted (origins, before) steps answers
    stays-fitting lawful origins before (step ∷ steps) (answer ∷ answers) known shaped core right = (
      core,
      λ root. let next = answer-keeps origins before step answer lawful known shaped core root right.0 in
          stays-fitting lawful (origins_after origins step answer) _ steps answers next.0 (shaped_answer functions before step answer shaped) next.1 right.1,
    )
    stays-fitting lawful origins before steps answers known shaped core right = grind arith

    pub run-fits : (origins : ℕ → Lists) (before : CoreState) (steps : List (StepOf A)) (answers : List (Result (DidOf I) Refusal)) →
        IsLawful functions fits rooted → AreNumbersGiven before → AreShaped before.tenants → CoreFits fits rooted origins before →
        AreAnswersTo functions before steps answers → RootsFit fits rooted (taken_steps steps answers) →
        CoreFits fits rooted (λ number. origins number ++ origins_of (only number (taken_steps steps answers))) (after_answers functions before steps answers)
    run-fits origins before [] answers lawful known shaped core right roots = same-core fits rooted _ _ before (λ number. sym (append-nil (origins number))) core
    run-fits origins before (step ∷ steps) [] lawful known shaped core right roots = absurd right
    run-fits origins before (step ∷ steps) (Err refusal ∷ answers) lawful known shaped core right roots =
        run-fits origins before steps answers lawful known shaped core right.1 roots
    run-fits origins before (step ∷ steps) (Ok did ∷ answers) lawful known shaped core right roots =
        let next = answer-keeps origins before step (Ok did) lawful known shaped core (λ is. roots.0) right.0 in
        let after = shaped_answer functions before step (Ok did) shaped in
        same-core fits rooted _ _ _ (λ number. origins-on origins step did (taken_steps steps answers) number)
        (run-fits (origins_after origins step (Ok did)) _ steps answers lawful next.0 after next.1 right.1 roots.1)

  -- a list of steps in two parts
  pub alone_from-append : (before : Option Tenant) (steps more : List (StepOf A)) →
      alone_from functions before (steps ++ more) ≡ alone_from functions (alone_from functions before steps) more
  alone_from-append before [] more = refl
  alone_from-append before (step ∷ steps) more = alone_from-append (state_after before (lone functions before step)) steps more

  pub answers_from-append : (before : Option Tenant) (steps more : List (StepOf A)) →
      answers_from functions before (steps ++ more) ≡ answers_from functions before steps ++ answers_from functions (alone_from functions before steps) more
  answers_from-append before [] more = refl
  answers_from-append before (step ∷ steps) more = rw (answers_from-append (state_after before (lone functions before step)) steps more)

  always-lawful : IsLawful functions AlwaysFits AlwaysRooted
  always-lawful = grind (arith, parent-always, child-always)

  -- from nobody on, a tenant has as many jobs as it submitted
  module _ (number : ℕ) (tenant : Tenant) where
    pub jobs_counted : (totals : ReserveOf) (steps : List (StepOf A)) (answers : List (Result (DidOf I) Refusal)) →
        AreAnswersTo functions (shared_by_nobody totals) steps answers →
        tenant_in (after_answers functions (shared_by_nobody totals) steps answers).tenants number ≡ Some tenant →
        length tenant.jobs ≡ length (origins_of (only number (taken_steps steps answers)))
    jobs_counted totals steps answers right at =
        let core = run-fits AlwaysFits AlwaysRooted (λ n. []) (shared_by_nobody totals) steps answers always-lawful tt tt (nobody-fits AlwaysFits AlwaysRooted totals)
        right (roots-always (taken_steps steps answers)) in
        as-many AlwaysFits AlwaysRooted tenant.frames _ tenant.jobs (core.tenants number tenant at).jobs

    -- the number that a taken Submit is answered
    pub submit_numbered : (before : CoreState) (words : List ℕ) (size : ℕ) (did : DidOf I) → IsAnswerTo functions before (Submit number words size) (Ok did) →
        tenant_in before.tenants number ≡ Some tenant → did ≡ Submitted (length tenant.jobs + 1) (record { tenant = number; serial = tenant.serials + 1 })
    submit_numbered before words size did right at = grind (arith, found, unless-passed)

pub only-append : {A : Type 0} (number : ℕ) (steps more : List (StepOf A)) → only number (steps ++ more) ≡ only number steps ++ only number more
only-append {A} number steps more = filter-append (λ (step : StepOf A). tenant_of step == number) steps more

pub ruleset in_parts = (alone_from-append, answers_from-append, only-append)
