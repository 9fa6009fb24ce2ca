-- Meaning: what lists of searches come to: each job that is done holds the minimax value, the best choice and a table of what was asked.
use Rattle.std.specs.Prelude.{◌≡◌, ℕ, ◌≤◌, bit_and, List, [], ◌∷◌, map, slice_index}
use Rattle.frame_table.specs.Frames.{Frame, children_of, values_of}
use Rattle.othello_board.specs.Words.{cells_of}
use Rattle.othello_moves.specs.Depths.{greatest_depth}
use Rattle.jamboree_rules.specs.othello_eval.Minimax.{minimax, best_choice}
use Rattle.jamboree_rules.specs.othello_eval.Tables.{IsTable}
use Rattle.sched_rules.specs.declared.job.Job.{Job}
use Rattle.sched_rules.specs.declared.job.Job.TheVariants.{Live, Done, Spent as SpentJob, Cancelled as CancelledJob}
use Rattle.sched_rules.specs.declared.step.StepOf.{StepOf}
use Rattle.sched_rules.specs.declared.step.StepOf.TheVariants.{Submit}
use Rattle.sched_rules.specs.Trees.{Tree}
use Rattle.jamboree_rules.specs.Frames.{coded}
use Rattle.jamboree_rules.specs.Places.{root_words, frame_size, frame_of, score_of}
use Rattle.jamboree_rules.specs.Entries.{bounds_of}
use Rattle.jamboree_rules.specs.Sound.{IsSound}

-- these are the words of a search's root: a board (two words without a shared bit), a depth of at most 12, and
-- the full window
pub record AreRootWords (words : List ℕ) : Type 0 where
  pub own : ℕ
  pub opp : ℕ
  pub depth : ℕ
  pub are : words ≡ root_words own opp depth
  pub apart : bit_and own opp ≡ 0
  pub shallow : depth ≤ greatest_depth

-- a step, if it submits a job, asks for a search
abbrev pub IsSearch : {A : Type 0} → StepOf A → Type 0
IsSearch (Submit number words size) = AreRootWords words × (size ≡ frame_size)
IsSearch _ = Unit {0}

-- each step of a list, if it submits a job, asks for a search
abbrev pub AreSearches : {A : Type 0} → List (StepOf A) → Type 0
AreSearches [] = Unit {0}
AreSearches (step ∷ steps) = IsSearch step × AreSearches steps

-- words that a job kept are the reply to those that it was submitted with (origin): the same board and depth, the
-- minimax value, the code of the best choice, and a table: one entry for each choice, each true, and the best
-- choice's exact
pub record IsReplyTo (origin words : List ℕ) : Type 0 where
  pub own : slice_index words 0 ≡ slice_index origin 0
  pub opp : slice_index words 1 ≡ slice_index origin 1
  pub depth : slice_index words 2 ≡ slice_index origin 2
  pub value : score_of (slice_index words 8) ≡ minimax (slice_index origin 2) (cells_of (slice_index origin 0) (slice_index origin 1))
  pub choice : slice_index words 9 ≡ coded (best_choice (slice_index origin 2) (cells_of (slice_index origin 0) (slice_index origin 1)))
  pub table : IsTable (slice_index origin 2) (cells_of (slice_index origin 0) (slice_index origin 1)) (bounds_of (frame_of words))

-- a job, if it is done, holds the reply to the words that it was submitted with
abbrev pub HoldsReply : List ℕ → Job → Type 0
HoldsReply origin (Live root) = Unit {0}
HoldsReply origin (Done words) = IsReplyTo origin words
HoldsReply origin SpentJob = Unit {0}
HoldsReply origin CancelledJob = Unit {0}

-- there is one job for each of these submitted words, in order, and each that is done holds the reply to its own
abbrev pub AreReplies : List (List ℕ) → List Job → Type 0
AreReplies [] [] = Unit {0}
AreReplies [] (job ∷ jobs) = ⊥
AreReplies (origin ∷ origins) [] = ⊥
AreReplies (origin ∷ origins) (job ∷ jobs) = HoldsReply origin job × AreReplies origins jobs

-- each of these frames of a tree is sound, with its children in the tree
abbrev pub AreAllSound : Tree → List (Frame (List ℕ)) → Type 0
AreAllSound tree [] = Unit {0}
AreAllSound tree (frame ∷ frames) = IsSound (frame_of frame.value) (map frame_of (values_of (children_of tree frame.serial))) × AreAllSound tree frames
