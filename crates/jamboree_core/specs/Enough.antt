-- Meaning: what suffices for a search (segments and nodes), by the empty squares and the opposing discs of its
-- position.
use Rattle.std.specs.Prelude.{◌≡◌, ℕ, zero, suc, ◌+◌, ◌*◌, ◌-◌, ◌≤◌, min, max, List, [], ◌∷◌, Option, Some, slice_index}
use Rattle.sched_rules.specs.cactus_stack.Nodes.{charge}
use Rattle.othello_board.specs.declared.cells.Cell.{Cell}
use Rattle.othello_board.specs.Words.{cells_of}
use Rattle.othello_moves.specs.Choices.{empty_squares, opposing_discs}
use Rattle.sched_rules.specs.declared.step.StepOf.{StepOf}
use Rattle.sched_rules.specs.declared.step.StepOf.TheVariants.{Submit}
use Rattle.sched_rules.specs.Trees.{Tenant, left}
use Rattle.sched_rules.specs.Lone.{lone}
use Rattle.sched_rules.specs.Runs.{state_after}
use Rattle.jamboree_rules.specs.declared.leaf.LeafAnswer.{LeafAnswer}
use Rattle.jamboree_rules.specs.Procedure.{jamboree}

-- a bound of the choices of a board with so many empty squares: each choice is one of these squares, and no board has
-- more than 56
abbrev pub most_choices : ℕ → ℕ
most_choices empty = min empty 56

-- the most choices of a board by its empty squares and its opposing discs: at most 8 for each opposing disc, or for
-- each of the mover's, where it passes
abbrev pub choices_within : ℕ → ℕ → ℕ
choices_within empty opposing = min (most_choices empty) (8 * max opposing (64 - empty - opposing))

-- the plies of a search that open frames: those above the grain, and the first always
abbrev pub spawning_plies : ℕ → ℕ → ℕ
spawning_plies depth grain = max 1 (depth - grain)

-- the nodes of a search with so many choices at first, empty squares and such plies: its frame, one more where it passes, and one search of
-- the first choice and two of each other (a test, and a search again)
abbrev pub search_nodes : ℕ → ℕ → ℕ → ℕ
search_nodes choices empty zero = 1
search_nodes choices empty (suc plies) = 2 + (2 * choices - 1) * search_nodes (most_choices (empty - 1)) (empty - 1) plies

-- the segments that a search takes at the same time, where it has so many choices at first, empty squares and plies that
-- open frames: those of its frame (12 words and one for each choice, 16 words to a segment), one segment more where it
-- passes, and those of one search of each choice
abbrev pub search_segments : ℕ → ℕ → ℕ → ℕ
search_segments choices empty zero = 1
search_segments choices empty (suc plies) = 1 + (charge (12 + choices) + choices * search_segments (most_choices (empty - 1)) (empty - 1) plies)

-- the nodes that suffice for a position with so many empty squares and opposing discs, to this depth at this grain
abbrev pub sufficing_nodes : ℕ → ℕ → ℕ → ℕ → ℕ
sufficing_nodes depth grain empty opposing = search_nodes (choices_within empty opposing) empty (spawning_plies depth grain)

-- the segments that suffice for a search, by depth, grain, empty squares and opposing discs
abbrev pub sufficing_segments : ℕ → ℕ → ℕ → ℕ → ℕ
sufficing_segments depth grain empty opposing = search_segments (choices_within empty opposing) empty (spawning_plies depth grain)

-- the nodes that suffice for a search of this board, by depth and grain
abbrev pub board_nodes : ℕ → ℕ → List Cell → ℕ
board_nodes depth grain b = sufficing_nodes depth grain (empty_squares b) (opposing_discs b)

-- the segments that suffice for a search of this board, by depth and grain
abbrev pub board_segments : ℕ → ℕ → List Cell → ℕ
board_segments depth grain b = sufficing_segments depth grain (empty_squares b) (opposing_discs b)

-- a tenant has no other search, and as many segments and nodes left as suffice for this board to this depth
pub record HasEnough (grain : ℕ) (tenant : Tenant) (depth : ℕ) (b : List Cell) : Type 0 where
  pub idle : tenant.frames ≡ []
  pub segments : board_segments depth grain b ≤ (left tenant).segments
  pub nodes : board_nodes depth grain b ≤ (left tenant).nodes

-- where a step submits a search, its tenant has enough for it
abbrev pub FindsEnough : ℕ → Option Tenant → StepOf LeafAnswer → Type 0
FindsEnough grain (Some tenant) (Submit number words size) = HasEnough grain tenant (slice_index words 2) (cells_of (slice_index words 0) (slice_index words 1))
FindsEnough grain _ _ = Unit {0}

-- at each step of a list that submits a search its tenant has enough for it, where the tenant was in this state before
-- the first
abbrev pub EachFindsEnough : ℕ → Option Tenant → List (StepOf LeafAnswer) → Type 0
EachFindsEnough grain before [] = Unit {0}
EachFindsEnough grain before (step ∷ steps) = FindsEnough grain before step × EachFindsEnough grain (state_after before (lone (jamboree grain) before step)) steps
