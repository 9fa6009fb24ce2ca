-- Meaning: what no other tenant of a core changes, and what alone a step is refused for, whatever procedure the core
-- runs.
use Rattle.std.specs.Prelude.{◌≡◌, ◌≢◌, ◌⊎◌, ℕ, true, false, List, [], ◌∷◌, ◌++◌, length, Option, Some, None, Result, Err, is_ok}
use Rattle.sched_rules.specs.declared.refusal.Refusal.{Refusal}
use Rattle.sched_rules.specs.declared.refusal.Refusal.TheVariants.{Busy}
use Rattle.sched_rules.specs.declared.step.StepOf.{StepOf}
use Rattle.sched_rules.specs.declared.step.StepOf.TheVariants.{Take, Steal, Inlet, Finish}
use Rattle.sched_rules.specs.declared.step.DidOf.{DidOf}
use Rattle.sched_rules.specs.Functions.{Functions}
use Rattle.sched_rules.specs.Trees.{Tenant, is_busy_in}
use Rattle.sched_rules.specs.Lone.{lone_refusal}
use Rattle.sched_rules.specs.Runs.{tenant_of, only, alone}
use Rattle.sched_rules.specs.Headline.{is_admission, taken_steps}

-- the steps of a list that are this tenant's and were taken, in order
abbrev pub own_steps : {I A : Type 0} → ℕ → List (StepOf A) → List (Result (DidOf I) Refusal) → List (StepOf A)
own_steps number steps answers = only number (taken_steps steps answers)

-- each admission in a list was taken: there was room, and memory didn't run out
abbrev pub AreAdmissionsTaken : {I A : Type 0} → List (StepOf A) → List (Result (DidOf I) Refusal) → Type 0
AreAdmissionsTaken [] answers = Unit {0}
AreAdmissionsTaken (step ∷ steps) [] = Unit {0}
AreAdmissionsTaken (step ∷ steps) (answer ∷ answers) = (is_admission step ≡ true → is_ok answer ≡ true) × AreAdmissionsTaken steps answers

-- the tenant as it stands after the first steps of a list: what its own taken steps give it when they are run
-- alone
abbrev pub stands : {I A : Type 0} → Functions I A → ℕ → List (StepOf A) → List (Result (DidOf I) Refusal) → Option Tenant
stands functions number steps answers = alone functions (own_steps number steps answers)

-- the worker that has to be free for a step; None where none has to be
abbrev pub free_worker : {A : Type 0} → StepOf A → Option ℕ
free_worker (Take worker name) = Some worker
free_worker (Steal worker from name) = Some worker
free_worker (Inlet worker name) = Some worker
free_worker (Finish worker name) = Some worker
free_worker _ = None

-- a worker runs or computes a frame of a tenant other than this one
pub record IsBusyWithAnother {I A : Type 0} (functions : Functions I A) (worker number : ℕ) (steps : List (StepOf A)) (answers : List (Result (DidOf I) Refusal)) : Type 0 where
  pub another : ℕ
  pub other : another ≢ number
  pub tenant : Tenant
  pub there : stands functions another steps answers ≡ Some tenant
  pub busy : is_busy_in worker tenant.frames ≡ true

-- after these steps, which were answered so, a step is refused for its own tenant's state: the tenant alone would
-- refuse it in the same way
abbrev pub IsForOwnState : {I A : Type 0} → Functions I A → List (StepOf A) → List (Result (DidOf I) Refusal) → StepOf A → Refusal → Type 0
IsForOwnState functions steps answers step refusal = lone_refusal functions (stands functions (tenant_of step) steps answers) step ≡ Some refusal

-- after these steps, which were answered so, a step is refused with Busy, since the worker that has to be free
-- for it is busy with another tenant
pub record IsForBusyWorker {I A : Type 0} (functions : Functions I A) (steps : List (StepOf A)) (answers : List (Result (DidOf I) Refusal)) (step : StepOf A) (refusal : Refusal) : Type 0 where
  pub is : refusal ≡ Busy
  pub worker : ℕ
  pub free : free_worker step ≡ Some worker
  pub elsewhere : IsBusyWithAnother functions worker (tenant_of step) steps answers

-- each step of a list that is no Admit or AdmitMore and was refused was refused for its own tenant's state or for
-- a busy worker
abbrev pub AreRefusedForThese : {I A : Type 0} → Functions I A → List (StepOf A) → List (Result (DidOf I) Refusal) → Type 0
AreRefusedForThese {I = I} {A = A} functions steps answers =
    (before later : List (StepOf A)) (said more : List (Result (DidOf I) Refusal)) (step : StepOf A) (refusal : Refusal) →
    steps ≡ before ++ step ∷ later → answers ≡ said ++ Err refusal ∷ more → length said ≡ length before → is_admission step ≡ false →
    IsForOwnState functions before said step refusal ⊎ IsForBusyWorker functions before said step refusal
