-- What a tenant of searches does on a core can be done: none of its steps but a Submit is refused by BadAct.
use Rattle.jamboree_core.proofs.Common.{◌≡◌, ◌≢◌, ℕ, inl, inr, Bool, true, false, not, List, [], ◌∷◌, Option, Some, None, Result, Ok, Err, refl, ap, sym, ◌∙◌, arith, cases_Bool, false≢true, not-false, frame_at, parent_of, Job, Live, Refusal, NotSpent, BadAct, Busy, Lower, StepOf, Admit, AdmitMore, Submit, Take, Steal, Advance, Answer, Inlet, Finish, Spend, Cancel, Leave, DidOf, ReserveOf, tenant_of, answer_of, CoreState, tenant_in, shared_refusal, IsAnswerTo, IsAnswerToStep, IsAnswerToAdmit, Tree, Tenant, words_in, is_outside, has_child, job_at, Neither, Computes, HasReturned, mark_of_state, Outcome, unless, refusal_in, first_step, lone_step, is_lower, raised, at_frame, is_run_by, is_computed_by, is_returned, is_bad_act, act_by_sight, take_tests, steal_tests, advance_tests, answer_tests, inlet_tests, inlet_under, taken_in, finish_tests, is_spendable, cancelled, IsShaped, AreShaped, TenantFits, CoreFits, submits, shaped-in, run-free, Lists, F, kids, words-found, has-one, computes-marked, has-returned, Leaf, LeafAnswer, next_act, inlet_act, accepts, AreFitting, IsRoot, jamboree, next-possible, inlet-possible, accept-possible, NoFrame, found-own, fits-marked, meets_busy, lone}
use Rattle.jamboree_core.proofs.Weights.{above-of, fits-leaf, is-taken-in}

-- tests of which none refuses by r, where none before it applies
abbrev pub NoneBy : Refusal → List (Bool × Refusal) → Type 0
NoneBy r [] = Unit {0}
NoneBy r (test ∷ tests) = (test.1 ≡ r → test.0 ≡ false) × (test.0 ≡ false → NoneBy r tests)

not-by : {X : Type 0} (r : Refusal) (tests : List (Bool × Refusal)) (effect : X) → NoneBy r tests → refusal_in (unless tests effect) ≢ Some r
not-by r [] effect none = λ e. absurd cc
not-by r (test ∷ tests) effect none = λ e. elim (cases_Bool test.0) [
  | inl applies ↦ (let said : Some test.1 ≡ Some r = rw applies at e in let is : test.1 ≡ r = cc in let no = none.0 is in absurd (false≢true (sym no ∙ applies)))
  | inr passed ↦ not-by r tests effect (none.1 passed) (rw passed at e)
]

-- a step at a frame
module _ {X : Type 0} (r : Refusal) (other : r ≢ NoFrame) (frames : Tree) (s : ℕ) where
  at-none-by : (step : F → Result X Refusal) → ((f : F) → frame_at frames s ≡ Some f → refusal_in (step f) ≢ Some r) → refusal_in (at_frame (frame_at frames s) step) ≢ Some r
  at-none-by step each = by (frame_at frames s) refl
    where
      by : (o : Option F) → frame_at frames s ≡ o → refusal_in (at_frame o step) ≢ Some r
      by None at = λ e. other (let same : Some r ≡ Some NoFrame = sym e in cc)
      by (Some f) at = each f at

  pub frame-none-by : (tests : F → List (Bool × Refusal)) (effect : F → X) → ((f : F) → frame_at frames s ≡ Some f → NoneBy r (tests f)) →
      refusal_in (at_frame (frame_at frames s) (λ frame. unless (tests frame) (effect frame))) ≢ Some r
  frame-none-by tests effect none = at-none-by (λ frame. unless (tests frame) (effect frame)) (λ f at. not-by r (tests f) (effect f) (none f at))

module _ (grain : ℕ) (origins : Lists) (tenant : Tenant) (shape : IsShaped tenant) (fitting : TenantFits AreFitting IsRoot origins tenant) where
  -- the next act of a frame that runs
  pub act-good : (s : ℕ) (f : F) → frame_at tenant.frames s ≡ Some f → mark_of_state f.state ≡ Neither → is_bad_act f.value (has_child tenant.frames f.serial) (act_by_sight (jamboree grain) tenant f) ≡ false
  act-good s f at free =
      let at_own = found-own tenant.frames s f at in
      above-of shape fitting (is_bad_act f.value (has_child tenant.frames f.serial) (act_by_sight (jamboree grain) tenant f) ≡ false) f at_own (λ origin above older younger seen parent.
      ap (λ (ls : Lists). is_bad_act f.value (has_child tenant.frames f.serial) (next_act grain ls)) seen
      ∙ ap (λ (b : Bool). is_bad_act f.value b (next_act grain (f.value ∷ above))) (sym (has-one tenant.frames f.serial))
      ∙ next-possible grain origin f.value above older younger (kids tenant.frames f.serial) (fits-marked shape fitting f.serial f at_own free) parent)

  -- what is stored of an answer to a frame that computes
  answer-good : (s : ℕ) (f : F) (answer : LeafAnswer) → frame_at tenant.frames s ≡ Some f → mark_of_state f.state ≡ Computes → is_outside (accepts f.value answer) f.value ≡ false
  answer-good s f answer at marked = accept-possible f.value answer (fits-leaf shape fitting Computes (λ e. absurd cc) s f at marked)

  -- what the inlet of a returned frame stores
  pub inlet-good : (s parent : ℕ) (f : F) → frame_at tenant.frames s ≡ Some f → parent_of f.path ≡ Some parent → mark_of_state f.state ≡ HasReturned → is_outside (inlet_act (words_in tenant.frames parent) f.value).stores (words_in tenant.frames parent) ≡ false
  inlet-good s parent f at named marked =
      let k = is-taken-in shape fitting s parent f at named marked in
      ap (λ (w : List ℕ). is_outside (inlet_act w f.value).stores w) (words-found tenant.frames parent k.frame k.there) ∙ inlet-possible k.frame.value f.value k.older k.younger k.fit k.whole

  -- each step
  pub possible : (step : StepOf LeafAnswer) → submits step ≡ [] → refusal_in (lone_step (jamboree grain) tenant step) ≢ Some BadAct
  possible (Admit number quota) none = λ e. absurd cc
  possible (AdmitMore number quota) none = not-by {X = Outcome Leaf} BadAct ((is_lower tenant.reserve quota, Lower) ∷ []) (raised tenant quota) ((λ e. absurd cc), λ n. tt)
  possible (Submit number words size) none = absurd cc
  possible (Take worker name) none = frame-none-by BadAct (λ e. absurd cc) tenant.frames name.serial (take_tests tenant worker) _ (λ f at. ((λ e. absurd cc), λ n. ((λ e. absurd cc), λ n. ((λ e. absurd cc), λ n. ((λ e. absurd cc), λ n. tt)))))
  possible (Steal worker from name) none = frame-none-by BadAct (λ e. absurd cc) tenant.frames name.serial (steal_tests tenant worker from) _ (λ f at. ((λ e. absurd cc), λ n. ((λ e. absurd cc), λ n. ((λ e. absurd cc), λ n. ((λ e. absurd cc), λ n. tt)))))
  possible (Advance worker name) none = frame-none-by BadAct (λ e. absurd cc) tenant.frames name.serial (λ f. advance_tests tenant worker f (act_by_sight (jamboree grain) tenant f)) _ (λ f at.
      ((λ e. absurd cc), λ runs. ((λ e. absurd cc), λ n. ((λ e. act-good name.serial f at (run-free worker f.state (not-false (is_run_by worker f.state) runs))), λ n. ((λ e. absurd cc), λ n. ((λ e. absurd cc), λ n. tt))))))
  possible (Answer worker name answer) none = frame-none-by BadAct (λ e. absurd cc) tenant.frames name.serial (λ f. answer_tests (jamboree grain) tenant worker f answer) _ (λ f at.
      ((λ e. absurd cc), λ computes. ((λ e. absurd cc), λ n. ((λ e. absurd cc), λ n. ((λ e. answer-good name.serial f answer at (computes-marked worker f.state (not-false (is_computed_by worker f.state) computes))), λ n. tt)))))
  possible (Inlet worker name) none = at-none-by BadAct (λ e. absurd cc) tenant.frames name.serial (λ frame. inlet_under (jamboree grain) tenant worker name frame (parent_of frame.path)) (λ f at. by f at (parent_of f.path) refl)
    where
      by : (f : F) → frame_at tenant.frames name.serial ≡ Some f → (parent : Option ℕ) → parent_of f.path ≡ parent → refusal_in (inlet_under (jamboree grain) tenant worker name f parent) ≢ Some BadAct
      by f at None named = λ e. absurd cc
      by f at (Some parent) named =
          let act = inlet_act (words_in tenant.frames parent) f.value in
          not-by BadAct (inlet_tests tenant worker f parent act) (taken_in {I = Leaf} tenant worker name parent act)
          ((λ e. absurd cc), λ returned. ((λ e. absurd cc), λ n. ((λ e. inlet-good name.serial parent f at named (has-returned f.state (not-false (is_returned f.state) returned))), λ n. ((λ e. absurd cc), λ n. tt))))
  possible (Finish worker name) none = frame-none-by BadAct (λ e. absurd cc) tenant.frames name.serial (finish_tests tenant worker) _ (λ f at. ((λ e. absurd cc), λ n. ((λ e. absurd cc), λ n. ((λ e. absurd cc), λ n. tt))))
  possible (Spend name) none = frame-none-by BadAct (λ e. absurd cc) tenant.frames name.serial (λ f. (not (is_spendable (jamboree grain) tenant f), NotSpent) ∷ []) _ (λ f at. ((λ e. absurd cc), λ n. tt))
  possible (Cancel number job) none = by (job_at tenant.jobs job)
    where
      by : (found : Option Job) → refusal_in (cancelled {I = Leaf} tenant found) ≢ Some BadAct
      by (Some (Live root)) = λ e. absurd cc
      by _ = λ e. absurd cc
  possible (Leave number) none = λ e. absurd cc

-- a step from nothing
first-none-bad : (step : StepOf LeafAnswer) → refusal_in (first_step {I = Leaf} step) ≢ Some BadAct
first-none-bad (Admit number quota) = λ e. absurd cc
first-none-bad _ = λ e. absurd cc

-- a step of a core of searches that is no admission, by what its tenant alone would be answered
abbrev Told : Result (DidOf Leaf) Refusal → Bool → Result (Outcome Leaf) Refusal → Type 0
Told answer busy came =
    ((refusal : Refusal) → refusal_in came ≡ Some refusal → answer ≡ Err refusal) × (refusal_in came ≡ None → busy ≡ true → answer ≡ Err Busy) × (refusal_in came ≡ None → busy ≡ false → answer ≡ answer_of came)

own-none-bad : (answer : Result (DidOf Leaf) Refusal) (busy : Bool) (came : Result (Outcome Leaf) Refusal) → Told answer busy came → refusal_in came ≢ Some BadAct → answer ≢ Err BadAct
own-none-bad answer busy (Err refusal) told none = grind arith
own-none-bad answer busy (Ok outcome) told none = grind arith

-- the tenant of a step, where it is there, has its shape, and its jobs are searches, submitted with these words
abbrev pub IsOfSearches : Lists → CoreState → StepOf LeafAnswer → Type 0
IsOfSearches origins before step = (tenant : Tenant) → tenant_in before.tenants (tenant_of step) ≡ Some tenant → IsShaped tenant × TenantFits AreFitting IsRoot origins tenant

module _ (grain : ℕ) (before : CoreState) (step : StepOf LeafAnswer) (answer : Result (DidOf Leaf) Refusal) where
  step-none-bad : (origins : Lists) → IsOfSearches origins before step → submits step ≡ [] → IsAnswerToStep (jamboree grain) before step answer →
      answer ≢ Err BadAct
  step-none-bad origins own none right =
      own-none-bad answer (meets_busy step before.tenants) (lone (jamboree grain) (tenant_in before.tenants (tenant_of step)) step) (right.own_state, right.busy_worker, right.else_taken)
      (by (tenant_in before.tenants (tenant_of step)) refl)
    where
      by : (found : Option Tenant) → tenant_in before.tenants (tenant_of step) ≡ found → refusal_in (lone (jamboree grain) found step) ≢ Some BadAct
      by None at = first-none-bad step
      by (Some tenant) at = possible grain origins tenant (own tenant at).0 (own tenant at).1 step none

  -- an admission, of which BadAct isn't judged
  admission-none-bad : shared_refusal (jamboree grain) before step ≢ Some BadAct → IsAnswerToAdmit (jamboree grain) before step answer → answer ≢ Err BadAct
  admission-none-bad none right = grind arith

-- an admission is refused by OldTenant or Full
module _ (grain : ℕ) (before : CoreState) (number : ℕ) (quota : ReserveOf) where
  admit-none-bad : shared_refusal {A = LeafAnswer} (jamboree grain) before (Admit number quota) ≢ Some BadAct
  admit-none-bad = grind (arith, not-by)

  -- a further reservation by NoTenant, Lower or Full
  more-none-bad : shared_refusal {A = LeafAnswer} (jamboree grain) before (AdmitMore number quota) ≢ Some BadAct
  more-none-bad = grind (arith, not-by)

-- each step whose tenant's jobs are searches
pub tenant-none-bad : (grain : ℕ) (origins : Lists) (before : CoreState) (step : StepOf LeafAnswer) (answer : Result (DidOf Leaf) Refusal) → IsOfSearches origins before step → submits step ≡ [] →
    IsAnswerTo (jamboree grain) before step answer → answer ≢ Err BadAct
tenant-none-bad grain origins before (Admit number quota) answer own none right = admission-none-bad grain before (Admit number quota) answer (admit-none-bad grain before number quota) (right.0 refl)
tenant-none-bad grain origins before (AdmitMore number quota) answer own none right = admission-none-bad grain before (AdmitMore number quota) answer (more-none-bad grain before number quota) (right.0 refl)
tenant-none-bad grain origins before (Submit number words size) answer own none right = absurd cc
tenant-none-bad grain origins before step answer own none right = step-none-bad grain before step answer origins own none (right.1 refl)

-- each step of a core of searches
pub answer-none-bad : (grain : ℕ) (origins : ℕ → Lists) (before : CoreState) (step : StepOf LeafAnswer) (answer : Result (DidOf Leaf) Refusal) → AreShaped before.tenants → CoreFits AreFitting IsRoot origins before → submits step ≡ [] →
    IsAnswerTo (jamboree grain) before step answer → answer ≢ Err BadAct
answer-none-bad grain origins before step answer shaped core =
    tenant-none-bad grain (origins (tenant_of step)) before step answer (λ tenant at. (shaped-in (tenant_of step) before.tenants tenant shaped at, core.tenants (tenant_of step) tenant at))
