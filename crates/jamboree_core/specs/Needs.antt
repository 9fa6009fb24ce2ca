-- Meaning: how many frames a search may open, and may still open, whatever the order of its steps.
-- (Kuszmaul 1994: the first choice is searched once; each other choice is tested, and searched again where its test fails.)
use Rattle.std.specs.Prelude.{ℕ, suc, ◌+◌, ◌-◌, ◌<◌, ◌≤◌, ◌==◌, Bool, true, false, pos, ◌+ℤ◌, List, [], ◌∷◌, Option, Some, None, length, replicate, slice_index_or, if◌then◌else◌}
use Rattle.std.specs.Ordering.{int_eq}
use Rattle.othello_board.specs.declared.cells.Cell.{Cell}
use Rattle.othello_moves.specs.declared.choices.Choice.{Choice}
use Rattle.othello_moves.specs.declared.choices.Choice.TheVariants.{Pass}
use Rattle.othello_moves.specs.Choices.{choices, after, plies}
use Rattle.sched_rules.specs.declared.step.StepOf.{StepOf}
use Rattle.sched_rules.specs.Trees.{Tenant}
use Rattle.jamboree_core.specs.Weights.{IsPaid, IsStillPaid, IsPaidToo}
use Rattle.jamboree_rules.specs.Frames.{Frame, phase_new, phase_first, phase_tests, status_not_spawned, status_runs, status_failed, board, choice_at}
use Rattle.jamboree_rules.specs.Places.{frame_of}

-- a cost: a bound of the frames that a frame of the search opens under it, by its depth, whether its window has width
-- one, and its board
abbrev pub Cost : Type 0
Cost = ℕ → Bool → List Cell → ℕ

-- the choice of a board with this number, from 0; a pass where there is none
abbrev pub choice_of : List Cell → ℕ → Choice
choice_of b i = slice_index_or (choices b) i Pass

-- the frames of one search of choice i of a board at this depth, in a window of width one or not: the child itself, and those under it
abbrev pub search_cost : Cost → ℕ → List Cell → ℕ → Bool → ℕ
search_cost cost depth b i narrow = suc (cost (depth - plies (choice_of b i)) narrow (after b (choice_of b i)))

-- the frames of a search again of choice i, after its test has failed; in a window of width one no test fails
abbrev pub again_cost : Cost → ℕ → Bool → List Cell → ℕ → ℕ
again_cost cost depth narrow b i = if narrow then 0 else search_cost cost depth b i false

-- the frames that are still opened for a later choice, by its status: a test, whose window has width one, and a search again
abbrev pub later_cost : Cost → ℕ → Bool → List Cell → ℕ → ℕ → ℕ
later_cost cost depth narrow b i status =
    if status == status_not_spawned then search_cost cost depth b i true + again_cost cost depth narrow b i
    else if status == status_runs then again_cost cost depth narrow b i
    else if status == status_failed then search_cost cost depth b i false
    else 0

-- the frames that are still opened for the choices from number i on, by their statuses
abbrev pub later_costs : (ℕ → ℕ → ℕ) → ℕ → List ℕ → ℕ
later_costs cost i [] = 0
later_costs cost i (status ∷ statuses) = cost i status + later_costs cost (suc i) statuses

-- the frames that are still opened for all choices, while the first is searched: for that one a search in the whole window, if it
-- isn't spawned yet
abbrev pub first_costs : Cost → ℕ → Bool → List Cell → List ℕ → ℕ
first_costs cost depth narrow b [] = 0
first_costs cost depth narrow b (status ∷ statuses) =
    (if status == status_not_spawned then search_cost cost depth b 0 narrow else 0) + later_costs (later_cost cost depth narrow b) 1 statuses

-- the frames that a frame opens under it which searches every choice of its board
abbrev pub choice_costs : Cost → ℕ → Bool → List Cell → ℕ
choice_costs cost depth narrow b = first_costs cost depth narrow b (replicate (length (choices b)) 0)

-- a cost suffices for the searches of this grain: a frame above the grain costs at least what its choices do, and one with a window
-- of width one at most what another does
pub record IsEnough (grain : ℕ) (cost : Cost) : Type 0 where
  pub choices : (depth : ℕ) (narrow : Bool) (b : List Cell) → grain < depth → choice_costs cost depth narrow b ≤ cost depth narrow b
  pub narrow : (depth : ℕ) (b : List Cell) → cost depth true b ≤ cost depth false b

-- the frames that a root opens under it. It searches its choices whatever the grain, at depth 0 none
abbrev pub root_cost : Cost → ℕ → Bool → List Cell → ℕ
root_cost cost depth narrow b = if depth == 0 then 0 else choice_costs cost depth narrow b

-- the nodes that a search of a board to a depth takes at most: one for the root, and those of the frames under it
abbrev pub enough_nodes : Cost → ℕ → List Cell → ℕ
enough_nodes cost depth b = suc (root_cost cost depth false b)

-- whether a frame's window (alpha, beta) has width one, as a test's has
abbrev pub is_narrow : Frame → Bool
is_narrow f = int_eq f.beta (f.alpha +ℤ pos 1)

-- the frames that a new frame opens under it, by the frame of its parent, which its board is read from
abbrev pub new_cost : Cost → Frame → Option (List ℕ) → ℕ
new_cost cost f None = root_cost cost f.depth (is_narrow f) (board f)
new_cost cost f (Some parent) = cost f.depth (is_narrow f) (after (board (frame_of parent)) (choice_at (frame_of parent) f.number))

-- how many frames a frame of a search still opens under it at most, by this cost; what those that are open under it
-- still open isn't counted
abbrev pub frame_cost : Cost → Frame → Option (List ℕ) → ℕ
frame_cost cost f parent =
    if f.phase == phase_new then new_cost cost f parent
    else if f.phase == phase_first then first_costs cost f.depth (is_narrow f) (board f) f.statuses
    else if f.phase == phase_tests then later_costs (later_cost cost f.depth (is_narrow f) (board f)) 0 f.statuses
    else 0

-- how many frames a frame of a search may still open (`frame_cost`), by its words and its parent's (None for a root)
abbrev pub still_opens : Cost → List ℕ → Option (List ℕ) → ℕ
still_opens cost own parent = frame_cost cost (frame_of own) parent

-- the nodes that a tenant has opened, and those that its frames may still open, are within its reservation
abbrev pub HasNodes : Cost → Tenant → Type 0
HasNodes cost tenant = IsPaid 1 (still_opens cost) (λ quota. quota.nodes) tenant

-- if the tenant is still there: the nodes that it has opened, and those that its frames may still open, are within its
-- reservation
abbrev pub StillHasNodes : Cost → Option Tenant → Type 0
StillHasNodes cost tenant = IsStillPaid 1 (still_opens cost) (λ quota. quota.nodes) tenant

-- where a step submits a job, there is a node for its root too, and for those that this may open
abbrev pub HasNodesToo : {A : Type 0} → Cost → Tenant → StepOf A → Type 0
HasNodesToo cost tenant step = IsPaidToo 1 (still_opens cost) (λ quota. quota.nodes) tenant step
