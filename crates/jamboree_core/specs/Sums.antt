-- Meaning: what suffices for several searches of a tenant at once: sums of what suffices for each.
use Rattle.std.specs.Prelude.{ℕ, ◌+◌, ◌≤◌, List, [], ◌∷◌, ◌++◌, Option, Some, None, slice_index, sum_by}
use Rattle.othello_board.specs.Words.{cells_of}
use Rattle.sched_rules.specs.declared.job.Job.{Job}
use Rattle.sched_rules.specs.declared.job.Job.TheVariants.{Live, Done, Spent as SpentJob, Cancelled as CancelledJob}
use Rattle.sched_rules.specs.declared.step.StepOf.{StepOf}
use Rattle.sched_rules.specs.declared.step.StepOf.TheVariants.{Submit}
use Rattle.sched_rules.specs.Trees.{Tenant}
use Rattle.sched_rules.specs.Lone.{lone}
use Rattle.sched_rules.specs.Runs.{state_after}
use Rattle.sched_laws.specs.Fitted.{submits}
use Rattle.jamboree_rules.specs.declared.leaf.LeafAnswer.{LeafAnswer}
use Rattle.jamboree_rules.specs.Procedure.{jamboree}
use Rattle.jamboree_core.specs.Needs.{Cost, HasNodesToo}
use Rattle.jamboree_core.specs.Sizes.{Size, HasSegmentsToo}
use Rattle.jamboree_core.specs.Enough.{board_nodes, board_segments}

-- the nodes that suffice for the search that was asked for with these words, at this grain
abbrev pub asked_nodes : ℕ → List ℕ → ℕ
asked_nodes grain origin = board_nodes (slice_index origin 2) grain (cells_of (slice_index origin 0) (slice_index origin 1))

-- the segments that suffice for the search that was asked for with these words, at this grain
abbrev pub asked_segments : ℕ → List ℕ → ℕ
asked_segments grain origin = board_segments (slice_index origin 2) grain (cells_of (slice_index origin 0) (slice_index origin 1))

-- the nodes that suffice for all searches that were asked for with these words, together
abbrev pub nodes_of_all : ℕ → List (List ℕ) → ℕ
nodes_of_all grain origins = sum_by (asked_nodes grain) origins

-- the sum over the jobs that live of what this function gives for the words that they were asked for with, in order
abbrev pub sum_of_live : (List ℕ → ℕ) → List (List ℕ) → List Job → ℕ
sum_of_live amount [] jobs = 0
sum_of_live amount (origin ∷ origins) [] = 0
sum_of_live amount (origin ∷ origins) (Live root ∷ jobs) = amount origin + sum_of_live amount origins jobs
sum_of_live amount (origin ∷ origins) (Done words ∷ jobs) = sum_of_live amount origins jobs
sum_of_live amount (origin ∷ origins) (SpentJob ∷ jobs) = sum_of_live amount origins jobs
sum_of_live amount (origin ∷ origins) (CancelledJob ∷ jobs) = sum_of_live amount origins jobs

-- the segments that suffice for those of the jobs that live, together, where they were asked for with these words, in order
abbrev pub segments_of_live : ℕ → List (List ℕ) → List Job → ℕ
segments_of_live grain origins jobs = sum_of_live (asked_segments grain) origins jobs

-- a tenant that asked for searches with these words has reserved as many nodes as suffice for all of them together, and as many
-- segments as suffice for those that live
pub record HasSums (grain : ℕ) (origins : List (List ℕ)) (tenant : Tenant) : Type 0 where
  pub nodes : nodes_of_all grain origins ≤ tenant.reserve.nodes
  pub segments : segments_of_live grain origins tenant.jobs ≤ tenant.reserve.segments

-- where a step submits a search, its tenant, which asked for searches with these words before, has so much with that one too
abbrev pub FindsSums : ℕ → List (List ℕ) → Option Tenant → StepOf LeafAnswer → Type 0
FindsSums grain origins (Some tenant) (Submit number words size) =
    (nodes_of_all grain origins + asked_nodes grain words ≤ tenant.reserve.nodes)
    × (segments_of_live grain origins tenant.jobs + asked_segments grain words ≤ tenant.reserve.segments)
FindsSums grain origins _ _ = Unit {0}

-- at each step of a list that submits a search its tenant has so much, where the tenant was in this state before the first, and had
-- asked for searches with these words
abbrev pub EachFindsSums : ℕ → List (List ℕ) → Option Tenant → List (StepOf LeafAnswer) → Type 0
EachFindsSums grain origins before [] = Unit {0}
EachFindsSums grain origins before (step ∷ steps) =
    FindsSums grain origins before step × EachFindsSums grain (origins ++ submits step) (state_after before (lone (jamboree grain) before step)) steps

-- where a step submits a search, its tenant has the nodes and the segments for it too, by this cost and this size
abbrev pub FindsRoom : Cost → Size → Option Tenant → StepOf LeafAnswer → Type 0
FindsRoom cost size (Some tenant) step = HasNodesToo cost tenant step × HasSegmentsToo size tenant step
FindsRoom cost size None step = Unit {0}

-- at each step of a list that submits a search its tenant has the nodes and the segments for it too, where the tenant was in this
-- state before the first
abbrev pub EachFindsRoom : ℕ → Cost → Size → Option Tenant → List (StepOf LeafAnswer) → Type 0
EachFindsRoom grain cost size before [] = Unit {0}
EachFindsRoom grain cost size before (step ∷ steps) = FindsRoom cost size before step × EachFindsRoom grain cost size (state_after before (lone (jamboree grain) before step)) steps
