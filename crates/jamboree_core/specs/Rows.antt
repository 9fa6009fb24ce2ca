-- Representation: words, a tenant and its journals on which the definitions are tried: the opening, Black to move, is searched to depth 1.
use Rattle.std.specs.Prelude.{ℕ, List, [], ◌∷◌}
use Rattle.cactus_stack.specs.Nodes.{padded}
use Rattle.tenant_quota.specs.Reserves.{ReserveOf}
use Rattle.frame_table.specs.declared.names.State.TheVariants.{Ready}
use Rattle.sched_rules.specs.declared.job.Job.TheVariants.{Live}
use Rattle.sched_rules.specs.declared.step.StepOf.{StepOf}
use Rattle.sched_rules.specs.declared.step.StepOf.TheVariants.{Admit, Submit}
use Rattle.sched_rules.specs.Trees.{Tenant}
use Rattle.jamboree_rules.specs.declared.leaf.LeafAnswer.{LeafAnswer}
use Rattle.jamboree_rules.specs.Rows.{entry}

-- the words that are submitted: the opening to depth 1
abbrev pub asked : List ℕ
asked = 34628173824 ∷ 68853694464 ∷ 1 ∷ 800000 ∷ 1200000 ∷ 0 ∷ 0 ∷ 0 ∷ []

-- what a job keeps of its root that has returned, with this depth, this word of the value, this code of the
-- choice and this entry of d3; c4, f5 and e6 are settled and worth at most -3
abbrev pub kept_with : ℕ → ℕ → ℕ → ℕ → List ℕ
kept_with d3 depth value choice = 34628173824 ∷ 68853694464 ∷ depth ∷ 800000 ∷ 1200000 ∷ 0 ∷ 0 ∷ 4 ∷ value ∷ choice ∷ 4 ∷ 4 ∷ d3 ∷ entry 2 1 999997 ∷ entry 2 1 999997 ∷ entry 2 1 999997 ∷ []

-- the words that a job keeps of the root of the opening, where d3 is worth exactly -3, with this depth, this word of
-- the value and this code of the choice
abbrev pub kept : ℕ → ℕ → ℕ → List ℕ
kept depth value choice = kept_with (entry 2 3 999997) depth value choice

-- a reservation of 4 segments and 8 nodes
abbrev pub few : ReserveOf
few = record { segments = 4; nodes = 8 }

-- tenant 1's Admit with the reservation `few`, and then these steps
abbrev pub admitted_then : List (StepOf LeafAnswer) → List (StepOf LeafAnswer)
admitted_then steps = Admit 1 few ∷ steps

-- the Submit of a job whose root has this size
abbrev pub submit_of : ℕ → StepOf LeafAnswer
submit_of size = Submit 1 asked size

-- tenant 1 after its first Submit: one live job, whose root is frame 1
abbrev pub asked_once : Tenant
asked_once = record { reserve = few; serials = 1; steps = 0; jobs = Live 1 ∷ []; frames = (record { serial = 1; path = 1 ∷ []; state = Ready 0; value = padded asked 12 }) ∷ [] }

-- tenant 1 after its first Submit, with so many segments and nodes reserved
abbrev pub asked_with : ℕ → ℕ → Tenant
asked_with segments nodes = record asked_once { reserve = record { segments = segments; nodes = nodes } }
