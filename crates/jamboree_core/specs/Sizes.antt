-- Meaning: how many segments a search takes at the same time at most, whatever the order of its steps.
use Rattle.std.specs.Prelude.{ℕ, ◌+◌, ◌-◌, ◌<◌, ◌≤◌, ◌==◌, List, Option, Some, None, length, sum_by, if◌then◌else◌}
use Rattle.sched_rules.specs.cactus_stack.Nodes.{charge}
use Rattle.othello_board.specs.declared.cells.Cell.{Cell}
use Rattle.othello_moves.specs.declared.choices.Choice.{Choice}
use Rattle.othello_moves.specs.Choices.{choices, after, plies}
use Rattle.sched_rules.specs.Trees.{Tenant}
use Rattle.sched_rules.specs.declared.step.StepOf.{StepOf}
use Rattle.jamboree_core.specs.Weights.{IsPaid, IsStillPaid, IsPaidToo}
use Rattle.jamboree_rules.specs.Frames.{board, choice_at}
use Rattle.jamboree_rules.specs.Places.{frame_of}

-- a size: a bound of the segments that a frame of the search and all frames under it take at the same time, by the
-- frame's depth and its board
abbrev pub Size : Type 0
Size = ℕ → List Cell → ℕ

-- the sizes of the frames of these choices of a board at this depth: at any time each choice has at most one
abbrev pub sizes_over : Size → ℕ → List Cell → List Choice → ℕ
sizes_over size depth b choices = sum_by (λ choice. size (depth - plies choice) (after b choice)) choices

-- the size of a frame that searches every choice of its board: 12 words and one for each choice, by 16, and the sizes of its choices
abbrev pub choice_sizes : Size → ℕ → List Cell → ℕ
choice_sizes size depth b = charge (12 + length (choices b)) + sizes_over size depth b (choices b)

-- a size suffices for the searches of this grain: of a frame above the grain at least what it and its choices take, of any frame one
pub record IsRoomy (grain : ℕ) (size : Size) : Type 0 where
  pub choices : (depth : ℕ) (b : List Cell) → grain < depth → choice_sizes size depth b ≤ size depth b
  pub some : (depth : ℕ) (b : List Cell) → 1 ≤ size depth b

-- the segments that a search of a board to a depth takes at the same time at most. A root searches its choices whatever the grain, at
-- depth 0 none
abbrev pub enough_segments : Size → ℕ → List Cell → ℕ
enough_segments size depth b = if depth == 0 then 1 else choice_sizes size depth b

-- the size of a frame, by its words and its parent's (None for a root)
abbrev pub frame_size_of : Size → List ℕ → Option (List ℕ) → ℕ
frame_size_of size own None = enough_segments size (frame_of own).depth (board (frame_of own))
frame_size_of size own (Some parent) = size (frame_of own).depth (after (board (frame_of parent)) (choice_at (frame_of parent) (frame_of own).number))

-- the size of a root by its words; 0 for a frame with a parent
abbrev pub root_weight : Size → List ℕ → Option (List ℕ) → ℕ
root_weight size own None = frame_size_of size own None
root_weight size own (Some parent) = 0

-- the sizes of all searches of a tenant that live are within the segments of its reservation
abbrev pub HasSegments : Size → Tenant → Type 0
HasSegments size tenant = IsPaid 0 (root_weight size) (λ quota. quota.segments) tenant

-- if the tenant is still there: the sizes of all its searches that live are within the segments of its reservation
abbrev pub StillHasSegments : Size → Option Tenant → Type 0
StillHasSegments size tenant = IsStillPaid 0 (root_weight size) (λ quota. quota.segments) tenant

-- where a step submits a job, its size is within them too
abbrev pub HasSegmentsToo : {A : Type 0} → Size → Tenant → StepOf A → Type 0
HasSegmentsToo size tenant step = IsPaidToo 0 (root_weight size) (λ quota. quota.segments) tenant step
