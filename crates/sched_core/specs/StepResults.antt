-- Representation: what a step of the core is to answer and to leave.
use Rattle.std.specs.Prelude.{◌≡◌, ℕ, Bool, ◌⊎◌, None, Result, Err}
use Rattle.sched_rules.specs.declared.refusal.Refusal.{Refusal}
use Rattle.sched_rules.specs.declared.refusal.Refusal.TheVariants.{OutOfMemory}
use Rattle.sched_rules.specs.declared.step.StepOf.{StepOf}
use Rattle.sched_rules.specs.declared.step.DidOf.{DidOf}
use Rattle.sched_rules.specs.Functions.{Functions}
use Rattle.sched_rules.specs.Cores.{CoreState, with_outcome, step_result, shared_after, shared_refusal}
use Rattle.sched_rules.specs.Trees.{Tenant}
use Rattle.sched_rules.specs.Lone.{Outcome, staying}
use Rattle.sched_rules.specs.Runs.{answer_of}

-- what a step of the core is to answer and to leave: its answer is that of its result (`step_result`), and the core
-- after it is the one that this result leaves
pub record FollowsResult {I A : Type 0} (functions : Functions I A) (before : CoreState) (step : StepOf A) (answer : Result (DidOf I) Refusal) (after : CoreState) : Type 0 where
  pub told : answer ≡ answer_of (step_result functions before step)
  pub left : after ≡ shared_after before step (step_result functions before step)

-- what an admission comes to: it is taken or refused as `step_result` says; or it would be taken, but memory
-- ran out (OutOfMemory), and nothing changes
abbrev pub IsAdmitted : {I A : Type 0} → Functions I A → CoreState → StepOf A → Result (DidOf I) Refusal → CoreState → Type 0
IsAdmitted functions before step answer after =
    FollowsResult functions before step answer after
    ⊎ ((shared_refusal functions before step ≡ None) × (answer ≡ Err OutOfMemory) × (after ≡ before))

-- a step of this tenant had this outcome: `did` is what it did, and of all tenants only this one changed, to the state
-- of the outcome
pub record IsCome {I : Type 0} (number : ℕ) (outcome : Outcome I) (before : CoreState) (did : DidOf I) (after : CoreState) : Type 0 where
  pub told : did ≡ outcome.1
  pub left : after ≡ record before { tenants = with_outcome number outcome.0 before.tenants }

-- the tenant with the frames that stay after an inlet of child into parent
abbrev pub staying_with : ℕ → ℕ → Bool → Tenant → Tenant
staying_with child parent abort tenant = record tenant { frames = staying tenant.frames child parent abort }
