-- Where each answer of a core to a list of steps is right, no tenant is disturbed.
use Rattle.std.proofs.Common.{◌≡◌, ◌≢◌, ◌≢◌, ℕ, ◌<◌, ◌≤◌, ◌⊎◌, inl, inr, Bool, true, false, ◌==◌, List, [], ◌∷◌, Option, Some, None, Result, Ok, Err, refl, ◌∙◌, arith}
use Rattle.std.specs.Prelude.{◌||◌, nat_le, nat_lt, ◌^◌, IsTrue, ◌↔◌}
use Rattle.std.proofs.lemmas.Bool.Decides.{nat_tests}
use Rattle.sched_rules.specs.declared.refusal.Refusal.{Refusal}
use Rattle.sched_rules.specs.declared.refusal.Refusal.TheVariants.{Busy, Full, OldTenant, OutOfMemory}
use Rattle.sched_rules.specs.declared.step.StepOf.{StepOf}
use Rattle.sched_rules.specs.declared.step.StepOf.TheVariants.{Admit, AdmitMore, Spend}
use Rattle.sched_rules.specs.declared.step.DidOf.{DidOf}
use Rattle.sched_rules.specs.declared.step.DidOf.TheVariants.{Admitted}
use Rattle.sched_rules.specs.declared.refusal.Refusal.TheVariants.{NotSpent}
use Rattle.frame_table.specs.declared.names.FrameId.{FrameId}
use Rattle.frame_table.specs.Frames.{Frame, frame_at}
use Rattle.std.specs.Prelude.{not, ◌&&◌}
use Rattle.sched_rules.specs.Functions.{Functions}
use Rattle.sched_rules.specs.Trees.{Tenant, admitted_with}
use Rattle.sched_rules.specs.Lone.{Outcome, lone, lone_refusal, refusal_in, unless, is_lower, is_spendable, IsSpendable}
use Rattle.sched_rules.specs.Runs.{tenant_of, only, state_after, answer_of, alone_from, answers_from}
use Rattle.tenant_quota.specs.Reserves.{ReserveOf, IsNotAbove}
use Rattle.tenant_quota.specs.Reservations.{Reservations, IsFull, IsBeyond}
use Rattle.sched_rules.specs.Cores.{CoreState, tenant_in, meets_busy, unless_busy, step_result, step_among, newest_after, shared_with, is_full, is_beyond, unless_beyond, reserved_by, reservations_in}
use Rattle.sched_rules.specs.Headline.{IsAnswerTo, IsAnswerToAdmit, IsAnswerToStep, after_answer, after_answers, AreAnswersTo, taken_steps, own_answers, IsUndisturbed, IsHeadline, AreNumbersGiven, is_admission}
use Rattle.sched_rules.proofs.Tenants.{tenant_in-with_outcome, tenant_in-other-with_outcome, taken-with_outcome, taken-above, tenant_in-new, known-number}

-- a taken step: what it came to, among all and alone
pub record IsTaken {I A : Type 0} (functions : Functions I A) (before : CoreState) (step : StepOf A) (did : DidOf I) : Type 0 where
  pub outcome : Outcome I
  pub among : step_result functions before step ≡ Ok outcome
  pub own : lone functions (tenant_in before.tenants (tenant_of step)) step ≡ Ok outcome
  pub same : outcome.1 ≡ did
  pub known : AreNumbersGiven (shared_with before step outcome.0)

-- the value of an Ok
did-Ok : {I : Type 0} (did other : DidOf I) → ◌≡◌ {A = Result (DidOf I) Refusal} (Ok did) (Ok other) → other ≡ did
did-Ok did other e = cc

-- a step that is no admission, over what it comes to alone and whether its worker is busy
abbrev Found : {I : Type 0} → Bool → Result (Outcome I) Refusal → DidOf I → Type 0
Found {I = I} busy alone did = (outcome : Outcome I) × (unless_busy busy alone ≡ Ok outcome) × (alone ≡ Ok outcome) × (outcome.1 ≡ did)

pub found : {I : Type 0} (busy : Bool) (alone : Result (Outcome I) Refusal) (did : DidOf I) →
    ((refusal : Refusal) → refusal_in alone ≡ Some refusal → ◌≡◌ {A = Result (DidOf I) Refusal} (Ok did) (Err refusal)) →
    (refusal_in alone ≡ None → busy ≡ true → ◌≡◌ {A = Result (DidOf I) Refusal} (Ok did) (Err Busy)) →
    (refusal_in alone ≡ None → busy ≡ false → ◌≡◌ {A = Result (DidOf I) Refusal} (Ok did) (answer_of alone)) →
    Found busy alone did
found {I = I} busy (Err refusal) did own_state busy_worker else_taken =
    let e : ◌≡◌ {A = Result (DidOf I) Refusal} (Ok did) (Err refusal) = own_state refusal refl in absurd cc
found {I = I} true (Ok outcome) did own_state busy_worker else_taken =
    let e : ◌≡◌ {A = Result (DidOf I) Refusal} (Ok did) (Err Busy) = busy_worker refl refl in absurd cc
found false (Ok outcome) did own_state busy_worker else_taken = (outcome, refl, refl, did-Ok did outcome.1 (else_taken refl refl))

-- from nothing only an admission is taken
pub there : {I A : Type 0} (functions : Functions I A) (own : Option Tenant) (step : StepOf A) (outcome : Outcome I) → is_admission step ≡ false → lone functions own step ≡ Ok outcome → own ≢ None
there functions (Some tenant) step outcome no_admission taken = λ e. cc
there functions None (Admit number quota) outcome no_admission taken = absurd cc
there functions None _ outcome no_admission taken = absurd cc

-- a step that is no admission leaves the greatest number as it was
pub newest-stays : {A : Type 0} (newest : ℕ) (step : StepOf A) → is_admission step ≡ false → newest_after newest step ≡ newest
newest-stays newest (Admit number quota) no_admission = absurd cc
newest-stays newest (AdmitMore number quota) no_admission = absurd cc
newest-stays newest _ no_admission = refl

-- and is judged by its own tenant's state and the busy workers
pub step_result-step : {I A : Type 0} (functions : Functions I A) (before : CoreState) (step : StepOf A) → is_admission step ≡ false → step_result functions before step ≡ step_among functions before step
step_result-step functions before (Admit number quota) no_admission = absurd cc
step_result-step functions before (AdmitMore number quota) no_admission = absurd cc
step_result-step functions before _ no_admission = refl

-- after it no tenant is there under a number that wasn't taken
known-after : {I A : Type 0} (functions : Functions I A) (before : CoreState) (step : StepOf A) (outcome : Outcome I) → is_admission step ≡ false → AreNumbersGiven before →
    lone functions (tenant_in before.tenants (tenant_of step)) step ≡ Ok outcome → AreNumbersGiven (shared_with before step outcome.0)
known-after functions before step outcome no_admission known taken =
    rw (newest-stays before.newest step no_admission) (taken-with_outcome before.newest (tenant_of step) outcome.0 before.tenants
    (known-number before.newest (tenant_of step) before.tenants known (there functions _ step outcome no_admission taken)) known)

-- a step that is no admission, and was taken
step-found : {I A : Type 0} (functions : Functions I A) (before : CoreState) (step : StepOf A) (did : DidOf I) → is_admission step ≡ false → AreNumbersGiven before →
    IsAnswerToStep functions before step (Ok did) → IsTaken functions before step did
step-found functions before step did no_admission known right =
    let f = found (meets_busy step before.tenants) (lone functions (tenant_in before.tenants (tenant_of step)) step) did right.own_state right.busy_worker right.else_taken in
    record { outcome = f.0; among = step_result-step functions before step no_admission ∙ f.1; own = f.2; same = f.3; known = known-after functions before step f.0 no_admission known f.2 }

-- the tests of an admission that was taken
tests-passed : {I : Type 0} (old full : Bool) (effect : Outcome I) (did : DidOf I) →
    ((refusal : Refusal) → refusal_in (unless ((old, OldTenant) ∷ (full, Full) ∷ []) effect) ≡ Some refusal → ◌≡◌ {A = Result (DidOf I) Refusal} (Ok did) (Err refusal)) →
    (old ≡ false) × (full ≡ false)
tests-passed false false effect did refused = (refl, refl)
tests-passed {I = I} true full effect did refused = let e : ◌≡◌ {A = Result (DidOf I) Refusal} (Ok did) (Err OldTenant) = refused OldTenant refl in absurd cc
tests-passed {I = I} false true effect did refused = let e : ◌≡◌ {A = Result (DidOf I) Refusal} (Ok did) (Err Full) = refused Full refl in absurd cc

-- then it is taken
unless-passed : {X : Type 0} (old full : Bool) (effect : X) → old ≡ false → full ≡ false → unless ((old, OldTenant) ∷ (full, Full) ∷ []) effect ≡ Ok effect
unless-passed false false effect is_new has_room = refl
unless-passed true full effect is_new has_room = absurd cc
unless-passed false true effect is_new has_room = absurd cc

-- its number is above the greatest so far
pub above : (number newest : ℕ) → ((number == 0) || nat_le number newest || nat_lt (2 ^ 62) number) ≡ false → newest < number
above number newest is_new = grind (arith, nat_tests)

-- what it did
admitted-did : {I : Type 0} (did : DidOf I) (step_result : Result (Outcome I) Refusal) (outcome : Outcome I) → step_result ≡ Ok outcome →
    (◌≡◌ {A = Result (DidOf I) Refusal} (Ok did) (answer_of step_result)) ⊎ (◌≡◌ {A = Result (DidOf I) Refusal} (Ok did) (Err OutOfMemory)) → outcome.1 ≡ did
admitted-did did step_result outcome is (inl e) = did-Ok did outcome.1 (rw is at e)
admitted-did did step_result outcome is (inr e) = absurd cc

-- an admission of more that was answered Ok: the totals allow it, and its outcome is what it comes to alone
more-found : {I : Type 0} (beyond : Bool) (alone : Result (Outcome I) Refusal) (did : DidOf I) →
    ((refusal : Refusal) → refusal_in (unless_beyond beyond alone) ≡ Some refusal → ◌≡◌ {A = Result (DidOf I) Refusal} (Ok did) (Err refusal)) →
    (refusal_in (unless_beyond beyond alone) ≡ None → (◌≡◌ {A = Result (DidOf I) Refusal} (Ok did) (answer_of (unless_beyond beyond alone))) ⊎ (◌≡◌ {A = Result (DidOf I) Refusal} (Ok did) (Err OutOfMemory))) →
    (outcome : Outcome I) × (unless_beyond beyond alone ≡ Ok outcome) × (alone ≡ Ok outcome) × (outcome.1 ≡ did)
more-found {I = I} beyond (Err refusal) did refused else_taken = let e : ◌≡◌ {A = Result (DidOf I) Refusal} (Ok did) (Err refusal) = refused refusal refl in absurd cc
more-found {I = I} true (Ok outcome) did refused else_taken = let e : ◌≡◌ {A = Result (DidOf I) Refusal} (Ok did) (Err Full) = refused Full refl in absurd cc
more-found false (Ok outcome) did refused else_taken = (outcome, refl, refl, admitted-did did (Ok outcome) outcome refl (else_taken refl))

-- it is of a tenant that is there
pub more-there : {I A : Type 0} (functions : Functions I A) (own : Option Tenant) (number : ℕ) (quota : ReserveOf) (outcome : Outcome I) → lone {A = A} functions own (AdmitMore number quota) ≡ Ok outcome → own ≢ None
more-there functions None number quota outcome taken = absurd cc
more-there functions (Some tenant) number quota outcome taken = λ e. cc

admitted-more : {I A : Type 0} (functions : Functions I A) (before : CoreState) (number : ℕ) (quota : ReserveOf) (did : DidOf I) → AreNumbersGiven before →
    IsAnswerToAdmit functions before (AdmitMore number quota) (Ok did) → IsTaken functions before (AdmitMore number quota) did
admitted-more {A = A} functions before number quota did known right =
    let own = tenant_in before.tenants number in
    let f = more-found (is_beyond (reservations_in before) (reserved_by own) quota) (lone {A = A} functions own (AdmitMore number quota)) did right.refused right.else_taken in
    record {
      outcome = f.0;
      among = f.1;
      own = f.2;
      same = f.3;
      known = taken-with_outcome before.newest number f.0.0 before.tenants (known-number before.newest number before.tenants known (more-there {A = A} functions own number quota f.0 f.2)) known;
    }

-- an admission that was taken
admitted : {I A : Type 0} (functions : Functions I A) (before : CoreState) (number : ℕ) (quota : ReserveOf) (did : DidOf I) → AreNumbersGiven before →
    IsAnswerToAdmit functions before (Admit number quota) (Ok did) → IsTaken functions before (Admit number quota) did
admitted {I = I} functions before number quota did known right =
    let old = (number == 0) || nat_le number before.newest || nat_lt (2 ^ 62) number in
    let full = is_full (reservations_in before) quota in
    let effect : Outcome I = (Some (admitted_with quota), Admitted) in
    let passed = tests-passed old full effect did right.refused in
    let taken = unless-passed old full effect passed.0 passed.1 in
    let is_above = above number before.newest passed.0 in
    let nothing : tenant_in before.tenants number ≡ None = tenant_in-new before.newest number before.tenants is_above known in
    record {
      outcome = effect;
      among = taken;
      own = rw nothing refl;
      same = admitted-did did (step_result functions before (Admit number quota)) effect taken (right.else_taken (rw taken refl));
      known = taken-with_outcome number number (Some (admitted_with quota)) before.tenants (omega arith) (taken-above before.newest number before.tenants (omega arith) known);
    }

-- a taken step, whichever it is
pub step-taken : {I A : Type 0} (functions : Functions I A) (before : CoreState) (step : StepOf A) (did : DidOf I) → AreNumbersGiven before →
    IsAnswerTo functions before step (Ok did) → IsTaken functions before step did
step-taken functions before (Admit number quota) did known right = admitted functions before number quota did known (right.0 refl)
step-taken functions before (AdmitMore number quota) did known right = admitted-more functions before number quota did known (right.0 refl)
step-taken functions before step did known right = step-found functions before step did refl known (right.1 refl)

-- the core after a taken step
pub shared-after-taken : {I A : Type 0} (functions : Functions I A) (before : CoreState) (step : StepOf A) (did : DidOf I) (t : IsTaken functions before step did) →
    after_answer functions before step (Ok did) ≡ shared_with before step t.outcome.0
shared-after-taken functions before step did t = rw t.among refl

-- the run of a tenant goes on by one step, which is its own or another's
run-on : {I A : Type 0} (functions : Functions I A) (number : ℕ) (step : StepOf A) (steps : List (StepOf A)) (own after : Option Tenant) →
    (tenant_of step ≡ number → after ≡ state_after own (lone functions own step)) → (tenant_of step ≢ number → after ≡ own) →
    alone_from functions after (only number steps) ≡ alone_from functions own (only number (step ∷ steps))
run-on functions number step steps own after mine others = grind (arith, nat_tests)

replies-on : {I A : Type 0} (functions : Functions I A) (number : ℕ) (step : StepOf A) (steps : List (StepOf A)) (answers : List (Result (DidOf I) Refusal)) (did : DidOf I) (own after : Option Tenant) →
    (tenant_of step ≡ number → after ≡ state_after own (lone functions own step)) → (tenant_of step ≢ number → after ≡ own) →
    (tenant_of step ≡ number → answer_of (lone functions own step) ≡ Ok did) →
    own_answers number steps answers ≡ answers_from functions after (only number (taken_steps steps answers)) →
    own_answers number (step ∷ steps) (Ok did ∷ answers) ≡ answers_from functions own (only number (taken_steps (step ∷ steps) (Ok did ∷ answers)))
replies-on functions number step steps answers did own after mine others same rest = grind (arith, nat_tests)

-- the tenant whose step it was
mine-after : {I A : Type 0} (functions : Functions I A) (before : CoreState) (step : StepOf A) (did : DidOf I) (t : IsTaken functions before step did) (number : ℕ) → tenant_of step ≡ number →
    tenant_in (shared_with before step t.outcome.0).tenants number ≡ state_after (tenant_in before.tenants number) (lone functions (tenant_in before.tenants number) step)
mine-after functions before step did t number mine =
    rw (← mine, t.own) (tenant_in-with_outcome (tenant_of step) t.outcome.0 before.tenants)

mine-answers : {I A : Type 0} (functions : Functions I A) (before : CoreState) (step : StepOf A) (did : DidOf I) (t : IsTaken functions before step did) (number : ℕ) → tenant_of step ≡ number →
    answer_of (lone functions (tenant_in before.tenants number) step) ≡ Ok did
mine-answers functions before step did t number mine = rw (← mine, t.own, t.same) refl

-- no tenant is disturbed by a list of steps
undisturbed : {I A : Type 0} (functions : Functions I A) (before : CoreState) (steps : List (StepOf A)) (answers : List (Result (DidOf I) Refusal)) (number : ℕ) →
    AreNumbersGiven before → AreAnswersTo functions before steps answers → IsUndisturbed functions before steps answers (after_answers functions before steps answers) number
undisturbed functions before [] [] number known right = record { state = refl; replies = refl }
undisturbed functions before [] (answer ∷ answers) number known right = absurd right
undisturbed functions before (step ∷ steps) [] number known right = absurd right
undisturbed functions before (step ∷ steps) (Err refusal ∷ answers) number known right =
    let rest = undisturbed functions before steps answers number known right.1 in record { state = rest.state; replies = rest.replies }
undisturbed functions before (step ∷ steps) (Ok did ∷ answers) number known right =
    let t = step-taken functions before step did known right.0 in
    let is = shared-after-taken functions before step did t in
    let rest = undisturbed functions (after_answer functions before step (Ok did)) steps answers number (rw is t.known) right.1 in
    let own = tenant_in before.tenants number in
    let after = tenant_in (after_answer functions before step (Ok did)).tenants number in
    let mine : tenant_of step ≡ number → after ≡ state_after own (lone functions own step) = λ e. rw is (mine-after functions before step did t number e) in
    let others : tenant_of step ≢ number → after ≡ own = λ ne. rw is (tenant_in-other-with_outcome number (tenant_of step) t.outcome.0 before.tenants ne) in
    record {
      state = rest.state ∙ run-on functions number step (taken_steps steps answers) own after mine others;
      replies = replies-on functions number step steps answers did own after mine others (λ e. mine-answers functions before step did t number e) rest.replies;
    }

-- the headline
pub headline : {I A : Type 0} (functions : Functions I A) (before : CoreState) (steps : List (StepOf A)) (answers : List (Result (DidOf I) Refusal)) →
    AreNumbersGiven before → AreAnswersTo functions before steps answers → IsHeadline functions before steps answers (after_answers functions before steps answers)
headline functions before steps answers known right =
    record { undisturbed = λ number. undisturbed functions before steps answers number known right; refused = right; left = refl }

-- the answer to a step that is no admission, over what it comes to alone and whether its worker is busy
answer-own : {I : Type 0} (busy : Bool) (alone : Result (Outcome I) Refusal) (refusal : Refusal) → refusal_in alone ≡ Some refusal → answer_of (unless_busy busy alone) ≡ Err refusal
answer-own busy (Ok outcome) refusal e = absurd cc
answer-own busy (Err other) refusal e = cc

answer-busy : {I : Type 0} (busy : Bool) (alone : Result (Outcome I) Refusal) → refusal_in alone ≡ None → busy ≡ true → answer_of (unless_busy busy alone) ≡ Err Busy
answer-busy true (Ok outcome) none is = refl
answer-busy false (Ok outcome) none is = absurd cc
answer-busy busy (Err other) none is = absurd cc

answer-else : {I : Type 0} (busy : Bool) (alone : Result (Outcome I) Refusal) → refusal_in alone ≡ None → busy ≡ false → answer_of (unless_busy busy alone) ≡ answer_of alone
answer-else false (Ok outcome) none is = refl
answer-else true (Ok outcome) none is = absurd cc
answer-else busy (Err other) none is = absurd cc

answer-step : {I A : Type 0} (functions : Functions I A) (before : CoreState) (step : StepOf A) → is_admission step ≡ false →
    IsAnswerToStep functions before step (answer_of (step_result functions before step))
answer-step functions before step no_admission =
    let busy = meets_busy step before.tenants in
    let alone = lone functions (tenant_in before.tenants (tenant_of step)) step in
    let is : step_result functions before step ≡ unless_busy busy alone = step_result-step functions before step no_admission in
    record {
      own_state = λ refusal e. rw is (answer-own busy alone refusal e);
      busy_worker = λ none b. rw is (answer-busy busy alone none b);
      else_taken = λ none b. rw is (answer-else busy alone none b);
    }

-- the answer to an admission, over its tests
admission-refused : {I : Type 0} (step_result : Result (Outcome I) Refusal) (refusal : Refusal) → refusal_in step_result ≡ Some refusal → answer_of step_result ≡ Err refusal
admission-refused (Ok outcome) refusal e = absurd cc
admission-refused (Err other) refusal e = cc

-- what is judged is a right answer
pub right-answer : {I A : Type 0} (functions : Functions I A) (before : CoreState) (step : StepOf A) → IsAnswerTo functions before step (answer_of (step_result functions before step))
right-answer functions before (Admit number quota) =
    (λ is. record { refused = λ refusal e. admission-refused _ refusal e; else_taken = λ none. inl refl }, λ is_not. absurd cc)
right-answer functions before (AdmitMore number quota) =
    (λ is. record { refused = λ refusal e. admission-refused _ refusal e; else_taken = λ none. inl refl }, λ is_not. absurd cc)
right-answer functions before step = (λ is. absurd cc, λ is_not. answer-step functions before step refl)

-- a test that says whether a book is full says so
full-forth : (tenants segments wanted nodes asked : ℕ) → IsTrue (nat_le 64 tenants || nat_lt segments wanted || nat_lt nodes asked) →
    (64 ≤ tenants) ⊎ ((segments < wanted) ⊎ (nodes < asked))
full-forth tenants segments wanted nodes asked is = grind (arith, nat_tests)

full-back : (tenants segments wanted nodes asked : ℕ) → (64 ≤ tenants) ⊎ ((segments < wanted) ⊎ (nodes < asked)) →
    IsTrue (nat_le 64 tenants || nat_lt segments wanted || nat_lt nodes asked)
full-back tenants segments wanted nodes asked is = grind (arith, nat_tests)

pub is-full : (book : Reservations) (quota : ReserveOf) → IsTrue (is_full book quota) ↔ IsFull book quota
is-full book quota = (full-forth _ _ _ _ _, full-back _ _ _ _ _)

-- the tests of an admission of more are the book's
lower-forth : (segments nodes now_segments now_nodes : ℕ) → IsTrue (nat_lt segments now_segments || nat_lt nodes now_nodes || ((segments == now_segments) && (nodes == now_nodes))) →
    (segments < now_segments) ⊎ ((nodes < now_nodes) ⊎ ((segments ≡ now_segments) × (nodes ≡ now_nodes)))
lower-forth segments nodes now_segments now_nodes is = grind (arith, nat_tests)

lower-back : (segments nodes now_segments now_nodes : ℕ) → (segments < now_segments) ⊎ ((nodes < now_nodes) ⊎ ((segments ≡ now_segments) × (nodes ≡ now_nodes))) →
    IsTrue (nat_lt segments now_segments || nat_lt nodes now_nodes || ((segments == now_segments) && (nodes == now_nodes)))
lower-back segments nodes now_segments now_nodes is = grind (arith, nat_tests)

pub is-lower : (now quota : ReserveOf) → IsTrue (is_lower now quota) ↔ IsNotAbove now quota
is-lower now quota = (lower-forth _ _ _ _, lower-back _ _ _ _)

beyond-forth : (segments wanted nodes asked : ℕ) → IsTrue (nat_lt segments wanted || nat_lt nodes asked) → (segments < wanted) ⊎ (nodes < asked)
beyond-forth segments wanted nodes asked is = grind (arith, nat_tests)

beyond-back : (segments wanted nodes asked : ℕ) → (segments < wanted) ⊎ (nodes < asked) → IsTrue (nat_lt segments wanted || nat_lt nodes asked)
beyond-back segments wanted nodes asked is = grind (arith, nat_tests)

pub is-beyond : (book : Reservations) (now quota : ReserveOf) → IsTrue (is_beyond book now quota) ↔ IsBeyond book now quota
is-beyond book now quota = (beyond-forth _ _ _ _, beyond-back _ _ _ _)

-- the one test of a Spend
spent-where : {X : Type 0} (spendable : Bool) (effect : X) → (refusal_in (unless ((not spendable, NotSpent) ∷ []) effect) ≡ None) ↔ IsTrue spendable
spent-where true effect = (λ none. refl, λ is. refl)
spent-where false effect = (λ none. absurd cc, λ is. let e : false ≡ true = is in absurd cc)

pub spendable-where : {I A : Type 0} (functions : Functions I A) (tenant : Tenant) (name : FrameId) (frame : Frame (List ℕ)) → frame_at tenant.frames name.serial ≡ Some frame →
    ((lone_refusal {A = A} functions (Some tenant) (Spend name) ≡ None) ↔ IsSpendable functions tenant frame)
spendable-where functions tenant name frame is = rw is (spent-where (is_spendable functions tenant frame) _)
