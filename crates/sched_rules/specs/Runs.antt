-- Meaning: lists of a core's steps: those of one tenant, and what they come to for a tenant that has the core to
-- itself.
use Rattle.std.specs.Prelude.{ℕ, ◌==◌, List, [], ◌∷◌, Option, None, Result, Ok, Err, filter}
use Rattle.sched_rules.specs.declared.refusal.Refusal.{Refusal}
use Rattle.sched_rules.specs.declared.step.StepOf.{StepOf}
use Rattle.sched_rules.specs.declared.step.StepOf.TheVariants.{Admit, AdmitMore, Submit, Take, Steal, Advance, Answer, Inlet, Finish, Spend, Cancel, Leave}
use Rattle.sched_rules.specs.declared.step.DidOf.{DidOf}
use Rattle.sched_rules.specs.Functions.{Functions}
use Rattle.sched_rules.specs.Trees.{Tenant}
use Rattle.sched_rules.specs.Lone.{Outcome, lone}

-- the number of the tenant whose step this is
abbrev pub tenant_of : {A : Type 0} → StepOf A → ℕ
tenant_of (Admit number quota) = number
tenant_of (AdmitMore number quota) = number
tenant_of (Submit number words size) = number
tenant_of (Take worker name) = name.tenant
tenant_of (Steal worker from name) = name.tenant
tenant_of (Advance worker name) = name.tenant
tenant_of (Answer worker name answer) = name.tenant
tenant_of (Inlet worker name) = name.tenant
tenant_of (Finish worker name) = name.tenant
tenant_of (Spend name) = name.tenant
tenant_of (Cancel number job) = number
tenant_of (Leave number) = number

-- the steps of a list that are this tenant's, in order
abbrev pub only : {A : Type 0} → ℕ → List (StepOf A) → List (StepOf A)
only number steps = filter (λ step. tenant_of step == number) steps

-- the tenant after a step with this result; a refused step changes nothing
abbrev pub state_after : {I : Type 0} → Option Tenant → Result (Outcome I) Refusal → Option Tenant
state_after before (Ok outcome) = outcome.0
state_after before (Err refusal) = before

-- the answer to a step, from its result: what it did, or the refusal
abbrev pub answer_of : {I : Type 0} → Result (Outcome I) Refusal → Result (DidOf I) Refusal
answer_of (Ok outcome) = Ok outcome.1
answer_of (Err refusal) = Err refusal

-- what a tenant is after a list of steps, if it has the core to itself
abbrev pub alone_from : {I A : Type 0} → Functions I A → Option Tenant → List (StepOf A) → Option Tenant
alone_from functions before [] = before
alone_from functions before (step ∷ steps) = alone_from functions (state_after before (lone functions before step)) steps

-- the answers to a list of steps of a tenant that has the core to itself
abbrev pub answers_from : {I A : Type 0} → Functions I A → Option Tenant → List (StepOf A) → List (Result (DidOf I) Refusal)
answers_from functions before [] = []
answers_from functions before (step ∷ steps) =
    answer_of (lone functions before step) ∷ answers_from functions (state_after before (lone functions before step)) steps

-- what a tenant that wasn't there is after a list of steps, if it has the core to itself
abbrev pub alone : {I A : Type 0} → Functions I A → List (StepOf A) → Option Tenant
alone functions steps = alone_from functions None steps
