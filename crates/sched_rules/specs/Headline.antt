-- Meaning: what holds of any list of steps on a core, by any workers for any tenants: each tenant is what its own
-- steps give, and a step is refused only for its own tenant's state or a busy worker.
use Rattle.std.specs.Prelude.{◌≡◌, ℕ, ◌≤◌, ◌⊎◌, Bool, true, false, ◌==◌, List, [], ◌∷◌, Some, None, Result, Ok, Err, if◌then◌else◌, is_ok}
use Rattle.sched_rules.specs.declared.refusal.Refusal.{Refusal}
use Rattle.sched_rules.specs.declared.refusal.Refusal.TheVariants.{Busy, OutOfMemory}
use Rattle.sched_rules.specs.declared.step.StepOf.{StepOf}
use Rattle.sched_rules.specs.declared.step.StepOf.TheVariants.{Admit, AdmitMore, Submit, Take, Steal, Advance, Answer, Inlet, Finish, Spend, Cancel, Leave}
use Rattle.sched_rules.specs.declared.step.DidOf.{DidOf}
use Rattle.sched_rules.specs.Functions.{Functions}
use Rattle.sched_rules.specs.Trees.{Tenant}
use Rattle.sched_rules.specs.Lone.{lone, lone_refusal}
use Rattle.sched_rules.specs.Runs.{tenant_of, only, answer_of, alone_from, answers_from}
use Rattle.sched_rules.specs.Cores.{CoreState, tenant_in, meets_busy, step_result, shared_after, shared_refusal}

-- a step that would be refused if its tenant had the core to itself is refused here by the same refusal
abbrev pub IsRefusedForOwnState : {I A : Type 0} → Functions I A → CoreState → StepOf A → Result (DidOf I) Refusal → Type 0
IsRefusedForOwnState functions before step answer =
    (refusal : Refusal) → lone_refusal functions (tenant_in before.tenants (tenant_of step)) step ≡ Some refusal → answer ≡ Err refusal

-- a Take, Steal, Inlet or Finish that its tenant alone would be granted gets Busy if its worker is busy elsewhere
abbrev pub IsRefusedForBusyWorker : {I A : Type 0} → Functions I A → CoreState → StepOf A → Result (DidOf I) Refusal → Type 0
IsRefusedForBusyWorker functions before step answer =
    lone_refusal functions (tenant_in before.tenants (tenant_of step)) step ≡ None → meets_busy step before.tenants ≡ true → answer ≡ Err Busy

-- a step that its tenant alone would be granted, and no busy worker hinders, is taken, with the same answer
abbrev pub IsElseTaken : {I A : Type 0} → Functions I A → CoreState → StepOf A → Result (DidOf I) Refusal → Type 0
IsElseTaken functions before step answer =
    lone_refusal functions (tenant_in before.tenants (tenant_of step)) step ≡ None → meets_busy step before.tenants ≡ false →
    answer ≡ answer_of (lone functions (tenant_in before.tenants (tenant_of step)) step)

-- the answer to a step that is no admission is right: it is refused for its own state or a busy worker, else taken
pub record IsAnswerToStep {I A : Type 0} (functions : Functions I A) (before : CoreState) (step : StepOf A) (answer : Result (DidOf I) Refusal) : Type 0 where
  pub own_state : IsRefusedForOwnState functions before step answer
  pub busy_worker : IsRefusedForBusyWorker functions before step answer
  pub else_taken : IsElseTaken functions before step answer

-- the answer to an admission is right: it is refused by OldTenant or Full where these apply (an AdmitMore by NoTenant,
-- Lower or Full), and else it is taken, or memory ran out
pub record IsAnswerToAdmit {I A : Type 0} (functions : Functions I A) (before : CoreState) (step : StepOf A) (answer : Result (DidOf I) Refusal) : Type 0 where
  pub refused : (refusal : Refusal) → shared_refusal functions before step ≡ Some refusal → answer ≡ Err refusal
  pub else_taken : shared_refusal functions before step ≡ None → (answer ≡ answer_of (step_result functions before step)) ⊎ (answer ≡ Err OutOfMemory)

-- whether a step is an admission: of a new tenant (Admit), or of more for one that is there (AdmitMore)
abbrev pub is_admission : {A : Type 0} → StepOf A → Bool
is_admission (Admit number quota) = true
is_admission (AdmitMore number quota) = true
is_admission _ = false

-- the answer to a step among several tenants is right
abbrev pub IsAnswerTo : {I A : Type 0} → Functions I A → CoreState → StepOf A → Result (DidOf I) Refusal → Type 0
IsAnswerTo functions before step answer =
    (is_admission step ≡ true → IsAnswerToAdmit functions before step answer)
    × (is_admission step ≡ false → IsAnswerToStep functions before step answer)

-- the core after a step with this answer: a refused step changes nothing, a taken one only its own tenant
abbrev pub after_answer : {I A : Type 0} → Functions I A → CoreState → StepOf A → Result (DidOf I) Refusal → CoreState
after_answer functions before step (Ok did) = shared_after before step (step_result functions before step)
after_answer functions before step (Err refusal) = before

-- one call of the core's step: the answer is right, and the core after it is what the answer says
pub record IsOneStep {I A : Type 0} (functions : Functions I A) (before : CoreState) (step : StepOf A) (answer : Result (DidOf I) Refusal) (after : CoreState) : Type 0 where
  pub answered : IsAnswerTo functions before step answer
  pub left : after ≡ after_answer functions before step answer

-- the core after a list of steps with these answers
abbrev pub after_answers : {I A : Type 0} → Functions I A → CoreState → List (StepOf A) → List (Result (DidOf I) Refusal) → CoreState
after_answers functions before [] answers = before
after_answers functions before (step ∷ steps) [] = before
after_answers functions before (step ∷ steps) (answer ∷ answers) = after_answers functions (after_answer functions before step answer) steps answers

-- there is an answer to each step of a list, and it is right for the core as the steps before left it
abbrev pub AreAnswersTo : {I A : Type 0} → Functions I A → CoreState → List (StepOf A) → List (Result (DidOf I) Refusal) → Type 0
AreAnswersTo functions before [] [] = Unit {0}
AreAnswersTo functions before [] (answer ∷ answers) = ⊥
AreAnswersTo functions before (step ∷ steps) [] = ⊥
AreAnswersTo functions before (step ∷ steps) (answer ∷ answers) =
    IsAnswerTo functions before step answer × AreAnswersTo functions (after_answer functions before step answer) steps answers

-- those of a list of steps that were taken, by the answers to them
abbrev pub taken_steps : {I A : Type 0} → List (StepOf A) → List (Result (DidOf I) Refusal) → List (StepOf A)
taken_steps [] answers = []
taken_steps (step ∷ steps) [] = []
taken_steps (step ∷ steps) (answer ∷ answers) = if is_ok answer then step ∷ taken_steps steps answers else taken_steps steps answers

-- the answers to those steps of a list that are this tenant's and were taken
abbrev pub own_answers : {I A : Type 0} → ℕ → List (StepOf A) → List (Result (DidOf I) Refusal) → List (Result (DidOf I) Refusal)
own_answers number [] answers = []
own_answers number (step ∷ steps) [] = []
own_answers number (step ∷ steps) (answer ∷ answers) =
    if is_ok answer then (if tenant_of step == number then answer ∷ own_answers number steps answers else own_answers number steps answers) else own_answers number steps answers

-- a tenant isn't disturbed: after the list it is what its own taken steps give, as if no other tenant were there, and so is each answer to one of them
pub record IsUndisturbed {I A : Type 0} (functions : Functions I A) (before : CoreState) (steps : List (StepOf A)) (answers : List (Result (DidOf I) Refusal)) (after : CoreState) (number : ℕ) : Type 0 where
  pub state : tenant_in after.tenants number ≡ alone_from functions (tenant_in before.tenants number) (only number (taken_steps steps answers))
  pub replies : own_answers number steps answers ≡ answers_from functions (tenant_in before.tenants number) (only number (taken_steps steps answers))

-- the headline for a list of steps: no tenant is disturbed, and a step is refused only for its own tenant's state or a busy worker
pub record IsHeadline {I A : Type 0} (functions : Functions I A) (before : CoreState) (steps : List (StepOf A)) (answers : List (Result (DidOf I) Refusal)) (after : CoreState) : Type 0 where
  pub undisturbed : (number : ℕ) → IsUndisturbed functions before steps answers after number
  pub refused : AreAnswersTo functions before steps answers
  pub left : after ≡ after_answers functions before steps answers

-- each tenant's number is at most newest, the greatest number so far
abbrev pub AreNumbersTaken : ℕ → List (ℕ × Tenant) → Type 0
AreNumbersTaken newest [] = Unit {0}
AreNumbersTaken newest (entry ∷ entries) = (entry.0 ≤ newest) × AreNumbersTaken newest entries

-- no tenant has a number above the greatest number so far
abbrev pub AreNumbersGiven : CoreState → Type 0
AreNumbersGiven shared = AreNumbersTaken shared.newest shared.tenants
