-- Meaning: what a search's frames may still open: a weight of each, which its steps use up, so that what is reserved
-- is seen to suffice.
use Rattle.std.specs.Prelude.{ℕ, ◌+◌, ◌*◌, ◌≤◌, List, Option, Some, None, sum_by}
use Rattle.tenant_quota.specs.Reserves.{ReserveOf}
use Rattle.sched_rules.specs.cactus_stack.Nodes.{padded}
use Rattle.frame_table.specs.Frames.{Frame, parent_of}
use Rattle.sched_rules.specs.declared.step.StepOf.{StepOf}
use Rattle.sched_rules.specs.declared.step.StepOf.TheVariants.{Submit}
use Rattle.sched_rules.specs.Trees.{Tree, Tenant, words_in}

-- a weight of frames of the search: a number for each frame, given its words and its parent's words (None for a root)
abbrev pub Weight : Type 0
Weight = List ℕ → Option (List ℕ) → ℕ

-- the words of a frame's parent, if it has one
abbrev pub parent_words : Tree → Option ℕ → Option (List ℕ)
parent_words tree None = None
parent_words tree (Some parent) = Some (words_in tree parent)

-- the weight of a frame of a tree, by its words and its parent's in the tree
abbrev pub weight_among : Weight → Tree → Frame (List ℕ) → ℕ
weight_among weight tree frame = weight frame.value (parent_words tree (parent_of frame.path))

-- the weights of all frames of a tree together
abbrev pub weight_in : Weight → Tree → ℕ
weight_in weight tree = sum_by (weight_among weight tree) tree

-- the nodes that a tenant has opened, at this price, and what its frames weigh
abbrev pub taken_with : ℕ → Weight → Tenant → ℕ
taken_with price weight tenant = price * tenant.serials + weight_in weight tenant.frames

-- the nodes that a tenant has opened, at this price, and what its frames weigh are within a bound that its reservation
-- sets
abbrev pub IsPaid : ℕ → Weight → (ReserveOf → ℕ) → Tenant → Type 0
IsPaid price weight bound tenant = taken_with price weight tenant ≤ bound tenant.reserve

-- if the tenant is still there: its opened nodes, at this price, and what its frames weigh are within a bound that its
-- reservation sets
abbrev pub IsStillPaid : ℕ → Weight → (ReserveOf → ℕ) → Option Tenant → Type 0
IsStillPaid price weight bound None = Unit {0}
IsStillPaid price weight bound (Some tenant) = IsPaid price weight bound tenant

-- where a step submits a job: with the root's node, and what the root weighs, it is within the bound too
abbrev pub IsPaidToo : {A : Type 0} → ℕ → Weight → (ReserveOf → ℕ) → Tenant → StepOf A → Type 0
IsPaidToo price weight bound tenant (Submit number words size) =
    taken_with price weight tenant + (price + weight (padded words size) None) ≤ bound tenant.reserve
IsPaidToo price weight bound tenant _ = Unit {0}
