-- Representation: when a tenant's job may be given up, in terms of what its frame's steps would be refused.
use Rattle.std.specs.Prelude.{◌≡◌, ℕ, ◌⊎◌, Some}
use Rattle.frame_table.specs.declared.names.FrameId.{FrameId}
use Rattle.sched_rules.specs.declared.refusal.Refusal.{Refusal}
use Rattle.sched_rules.specs.declared.refusal.Refusal.TheVariants.{BadAct, NoNodes, NoSegments}
use Rattle.sched_rules.specs.declared.step.StepOf.TheVariants.{Advance, Inlet}
use Rattle.sched_rules.specs.Functions.{Functions}
use Rattle.sched_rules.specs.Trees.{Tenant, left}
use Rattle.sched_rules.specs.Lone.{lone_refusal}

-- a refusal of an act itself: it can't be done (BadAct), or there is no node or too few segments for it
abbrev pub IsActRefusal : Refusal → Type 0
IsActRefusal refusal = (refusal ≡ BadAct) ⊎ ((refusal ≡ NoNodes) ⊎ (refusal ≡ NoSegments))

-- some worker's Advance of the frame would be refused by BadAct, NoNodes or NoSegments
abbrev pub IsStuck : {I A : Type 0} → Functions I A → Tenant → FrameId → Type 0
IsStuck {A = A} functions tenant name = (worker : ℕ) × (refusal : Refusal) × IsActRefusal refusal × (lone_refusal {A = A} functions (Some tenant) (Advance worker name) ≡ Some refusal)

-- every worker's Inlet of the frame would be refused by BadAct: it would store beyond the parent's words
abbrev pub IsBadInlet : {I A : Type 0} → Functions I A → Tenant → FrameId → Type 0
IsBadInlet {A = A} functions tenant name = (worker : ℕ) → lone_refusal {A = A} functions (Some tenant) (Inlet worker name) ≡ Some BadAct

-- no step is left, or an Advance of the frame would be refused by the act itself, or its Inlet by BadAct
abbrev pub MayBeSpent : {I A : Type 0} → Functions I A → Tenant → FrameId → Type 0
MayBeSpent functions tenant name = ((left tenant).steps ≡ 0) ⊎ (IsStuck functions tenant name ⊎ IsBadInlet functions tenant name)
