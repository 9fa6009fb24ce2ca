-- Meaning: the journal of a tenant: the steps of it that were taken, in order, since it was admitted.
use Rattle.std.specs.Prelude.{◌≡◌, List, [], ◌∷◌, Option, Some, None, Result, Ok, Err}
use Rattle.sched_rules.specs.declared.refusal.Refusal.{Refusal}
use Rattle.sched_rules.specs.declared.step.StepOf.{StepOf}
use Rattle.sched_rules.specs.Functions.{Functions}
use Rattle.sched_rules.specs.Trees.{Tenant}
use Rattle.sched_rules.specs.Lone.{Outcome, lone}
use Rattle.sched_rules.specs.Runs.{state_after, alone_from}

-- the result of a step: it was taken, and its tenant is still there after it
abbrev pub StaysTaken : {I : Type 0} → Result (Outcome I) Refusal → Type 0
StaysTaken (Ok (None, did)) = ⊥
StaysTaken (Ok (Some tenant, did)) = Unit {0}
StaysTaken (Err refusal) = ⊥

-- each step of a list was taken, one after the other, where the tenant was in this state before the first; and
-- none was a Leave
abbrev pub AreTakenFrom : {I A : Type 0} → Functions I A → Option Tenant → List (StepOf A) → Type 0
AreTakenFrom functions before [] = Unit {0}
AreTakenFrom functions before (step ∷ steps) =
    StaysTaken (lone functions before step) × AreTakenFrom functions (state_after before (lone functions before step)) steps

-- a list of steps is the journal of a tenant: each was taken, beginning without the tenant, and run alone they
-- come to this tenant
pub record IsJournalOf {I A : Type 0} (functions : Functions I A) (journal : List (StepOf A)) (tenant : Tenant) : Type 0 where
  pub taken : AreTakenFrom functions None journal
  pub comes : alone_from functions None journal ≡ Some tenant
