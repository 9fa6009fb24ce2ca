-- Tenants' journals (lists of taken steps): what a tenant of searches comes to by its own taken steps, and how a
-- journal grows.
use Rattle.jamboree_core.proofs.Common.{◌≡◌, ◌≢◌, ℕ, List, [], ◌∷◌, ◌++◌, Option, Some, None, Result, Ok, Err, refl, ap, sym, ◌∙◌, subst, append_assoc, append-nil, arith, ReserveOf, Refusal, NoTenant, StepOf, DidOf, Admit, Functions, Tenant, admitted_with, Outcome, lone, tenant_of, state_after, alone_from, CoreState, tenant_in, shared_with, AreNumbersGiven, IsOneStep, tenant_in-with_outcome, tenant_in-other-with_outcome, step-taken, shared-after-taken, submits, origins_of, LeftShaped, lone-shaped, LeftFits, step-fits, Leaf, LeafAnswer, AreFitting, IsRoot, jamboree, IsSearch, AreSearches, TenantSearches, StaysTaken, AreTakenFrom, IsJournalOf, Fitting, IsLawful, RootFits}
use Rattle.jamboree_core.proofs.Replying.{search-fits, lawful}
use Rattle.jamboree_core.proofs.Serving.{searches-asked}

-- a tenant: its shape, and that its frames fit
abbrev pub FitsOn : Fitting → List (List ℕ) → Option Tenant → Type 0
FitsOn fits origins tenant = LeftShaped tenant × LeftFits fits IsRoot origins tenant

-- so it is after one of its own steps; from nothing only an admission is taken, and it leaves a tenant without jobs
module _ (grain : ℕ) (fits : Fitting) (law : IsLawful (jamboree grain) fits IsRoot) (root : (step : StepOf LeafAnswer) → IsSearch step → RootFits fits IsRoot step) (outcome : Outcome Leaf) where
  begun-fits : (step : StepOf LeafAnswer) → lone (jamboree grain) None step ≡ Ok outcome → LeftFits fits IsRoot (submits step) outcome.0
  begun-fits (Admit number quota) is = grind arith
  begun-fits _ is = (let no : ◌≡◌ {A = Result (Outcome Leaf) Refusal} (Err NoTenant) (Ok outcome) = is in absurd cc)

  pub fits-on : (origins : List (List ℕ)) (before : Option Tenant) (step : StepOf LeafAnswer) → IsSearch step → lone (jamboree grain) before step ≡ Ok outcome →
      (before ≡ None → origins ≡ []) → FitsOn fits origins before → FitsOn fits (origins ++ submits step) outcome.0
  fits-on origins None step search is none has = (lone-shaped (jamboree grain) None step outcome is has.0, rw (none refl) (begun-fits step is))
  fits-on origins (Some tenant) step search is none has =
      (lone-shaped (jamboree grain) (Some tenant) step outcome is has.0, step-fits (jamboree grain) fits IsRoot origins tenant step outcome law has.0 has.1 (root step search) is)

-- What each step keeps lasts over a journal, each step of which meets a condition, which may speak of what was submitted before and of
-- the tenant then.
module _ (grain : ℕ) (Each : List (List ℕ) → Option Tenant → List (StepOf LeafAnswer) → Type 0) (Meets : List (List ℕ) → Option Tenant → StepOf LeafAnswer → Type 0)
    (parts : (origins : List (List ℕ)) (before : Option Tenant) (step : StepOf LeafAnswer) (steps : List (StepOf LeafAnswer)) → Each origins before (step ∷ steps) →
    Meets origins before step × Each (origins ++ submits step) (state_after before (lone (jamboree grain) before step)) steps)
    (P : List (List ℕ) → Option Tenant → Type 0)
    (keeps : (origins : List (List ℕ)) (before : Option Tenant) (step : StepOf LeafAnswer) (outcome : Outcome Leaf) → Meets origins before step → lone (jamboree grain) before step ≡ Ok outcome →
    (before ≡ None → origins ≡ []) → P origins before → P (origins ++ submits step) outcome.0) where
  abbrev Lasts : List (StepOf LeafAnswer) → Type 0
  Lasts steps =
      (origins : List (List ℕ)) (before : Option Tenant) → Each origins before steps → AreTakenFrom (jamboree grain) before steps → (before ≡ None → origins ≡ []) → P origins before →
      P (origins ++ origins_of steps) (alone_from (jamboree grain) before steps)

  lasts-on : (step : StepOf LeafAnswer) (steps : List (StepOf LeafAnswer)) → Lasts steps → Lasts (step ∷ steps)
  lasts-on step steps rest origins before each taken none has = by (lone (jamboree grain) before step) refl (parts origins before step steps each).1 taken
    where
      by : (came : Result (Outcome Leaf) Refusal) → lone (jamboree grain) before step ≡ came → Each (origins ++ submits step) (state_after before came) steps →
          StaysTaken came × AreTakenFrom (jamboree grain) (state_after before came) steps →
          P (origins ++ (submits step ++ origins_of steps)) (alone_from (jamboree grain) (state_after before came) steps)
      by (Err refusal) e later t = absurd t.0
      by (Ok (None, did)) e later t = absurd t.0
      by (Ok (Some tenant, did)) e later t =
          subst (λ (os : List (List ℕ)). P os (alone_from (jamboree grain) (Some tenant) steps)) (append_assoc origins (submits step) (origins_of steps))
          (rest (origins ++ submits step) (Some tenant) later t.1 (λ is. absurd cc) (keeps origins before step (Some tenant, did) (parts origins before step steps each).0 e none has))

  lasts : (steps : List (StepOf LeafAnswer)) → Lasts steps
  lasts [] = λ origins before each taken none has. subst (λ (os : List (List ℕ)). P os before) (sym (append-nil origins)) has
  lasts (step ∷ steps) = lasts-on step steps (lasts steps)

  pub all-lasts : P [] None → (journal : List (StepOf LeafAnswer)) (tenant : Tenant) → IsJournalOf (jamboree grain) journal tenant → Each [] None journal → P (origins_of journal) (Some tenant)
  all-lasts start journal tenant is each = subst (P (origins_of journal)) is.comes (lasts journal [] None each is.taken (λ none. refl) start)

-- where each Submit asks for a search
pub journal-lasts : (grain : ℕ) (P : List (List ℕ) → Option Tenant → Type 0) →
    ((origins : List (List ℕ)) (before : Option Tenant) (step : StepOf LeafAnswer) (outcome : Outcome Leaf) → IsSearch step → lone (jamboree grain) before step ≡ Ok outcome →
    (before ≡ None → origins ≡ []) → P origins before → P (origins ++ submits step) outcome.0) →
    P [] None → (journal : List (StepOf LeafAnswer)) (tenant : Tenant) → IsJournalOf (jamboree grain) journal tenant → AreSearches journal → P (origins_of journal) (Some tenant)
journal-lasts grain P keeps = all-lasts grain (λ origins before steps. AreSearches steps) (λ origins before step. IsSearch step) (λ origins before step steps each. each) P keeps

pub journal-searches : (grain : ℕ) (journal : List (StepOf LeafAnswer)) (tenant : Tenant) → IsJournalOf (jamboree grain) journal tenant → AreSearches journal → TenantSearches (origins_of journal) tenant
journal-searches grain journal tenant is searches =
    record { fits = (journal-lasts grain (FitsOn AreFitting) (λ origins before step outcome. fits-on grain AreFitting (lawful grain) search-fits outcome origins before step) (tt, tt) journal tenant is searches).1; asked = searches-asked journal searches }

-- a journal that goes on with a taken step, after which its tenant is still there
stays : {I : Type 0} (came : Result (Outcome I) Refusal) (outcome : Outcome I) (next : Tenant) → came ≡ Ok outcome → outcome.0 ≡ Some next → StaysTaken came
stays {I} came outcome next is left = grind arith

module _ {I A : Type 0} (functions : Functions I A) where
  pub longer : (before : Option Tenant) (steps : List (StepOf A)) (tenant next : Tenant) (step : StepOf A) (outcome : Outcome I) →
      AreTakenFrom functions before steps → alone_from functions before steps ≡ Some tenant → lone functions (Some tenant) step ≡ Ok outcome →
      outcome.0 ≡ Some next → AreTakenFrom functions before (steps ++ step ∷ []) × (alone_from functions before (steps ++ step ∷ []) ≡ Some next)
  longer before [] tenant next step outcome taken comes is left = grind (arith, stays)
  longer before (first ∷ steps) tenant next step outcome taken comes is left = grind (arith, longer (state_after before (lone functions before first)) steps tenant next step outcome)

  pub journal-goes-on : (before : CoreState) (step : StepOf A) (did : DidOf I) (after : CoreState) (journal : List (StepOf A)) (tenant next : Tenant) →
      AreNumbersGiven before → IsOneStep functions before step (Ok did) after → tenant_in before.tenants (tenant_of step) ≡ Some tenant →
      tenant_in after.tenants (tenant_of step) ≡ Some next → IsJournalOf functions journal tenant → IsJournalOf functions (journal ++ step ∷ []) next
  journal-goes-on before step did after journal tenant next known one at at_after is =
      let t = step-taken functions before step did known one.answered in
      let after_is : after ≡ shared_with before step t.outcome.0 = one.left ∙ shared-after-taken functions before step did t in
      let left : t.outcome.0 ≡ Some next = sym (tenant_in-with_outcome (tenant_of step) t.outcome.0 before.tenants) ∙ ap (λ (s : CoreState). tenant_in s.tenants (tenant_of step)) (sym after_is) ∙ at_after in
      let on = longer None journal tenant next step t.outcome is.taken is.comes (ap (λ (o : Option Tenant). lone functions o step) (sym at) ∙ t.own) left in
      record { taken = on.0; comes = on.1 }

  -- an admission begins a journal
  pub journal-begins : (before : CoreState) (number : ℕ) (quota : ReserveOf) (did : DidOf I) (after : CoreState) → AreNumbersGiven before →
      IsOneStep {A = A} functions before (Admit number quota) (Ok did) after →
      (tenant_in after.tenants number ≡ Some (admitted_with quota)) × IsJournalOf {A = A} functions (Admit number quota ∷ []) (admitted_with quota)
  journal-begins before number quota did after known one =
      let step : StepOf A = Admit number quota in
      let t = step-taken functions before step did known one.answered in
      let after_is : after ≡ shared_with before step t.outcome.0 = one.left ∙ shared-after-taken functions before step did t in
      let found = ap (λ (s : CoreState). tenant_in s.tenants number) after_is ∙ tenant_in-with_outcome number t.outcome.0 before.tenants in
      (found ∙ admitted-left functions (tenant_in before.tenants number) number quota t.outcome t.own, record { taken = (tt, tt); comes = refl })
    where
      admitted-left : (functions : Functions I A) (own : Option Tenant) (number : ℕ) (quota : ReserveOf) (outcome : Outcome I) → lone {A = A} functions own (Admit number quota) ≡ Ok outcome → outcome.0 ≡ Some (admitted_with quota)
      admitted-left functions own number quota outcome is = grind arith

  -- a step changes its own tenant alone
  pub others-stay : (before : CoreState) (step : StepOf A) (answer : Result (DidOf I) Refusal) (after : CoreState) (number : ℕ) → AreNumbersGiven before →
      IsOneStep functions before step answer after → tenant_of step ≢ number → tenant_in after.tenants number ≡ tenant_in before.tenants number
  others-stay before step (Err refusal) after number known one other = ap (λ (s : CoreState). tenant_in s.tenants number) one.left
  others-stay before step (Ok did) after number known one other = grind (arith, step-taken, shared-after-taken, tenant_in-other-with_outcome)
