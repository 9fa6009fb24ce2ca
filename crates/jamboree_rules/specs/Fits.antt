-- Meaning: when a frame of the search is right (fits): by its own numbers, by its children's, and by its parent's.
-- This is kept true of each frame.
use Rattle.std.specs.Prelude.{◌≡◌, ◌≢◌, ℕ, ◌-◌, ◌<◌, ◌≤◌, ◌⊎◌, ◌==◌, true, ℤ, pos, neg_ℤ, ◌<ℤ◌, ◌≤ℤ◌, ◌+ℤ◌, List, [], ◌∷◌, map, length, slice_index, count_by}
use Rattle.othello_moves.specs.Choices.{choices, after, plies}
use Rattle.leaf_search.specs.othello_eval.declared.bound.BoundKind.TheVariants.{Exact}
use Rattle.leaf_search.specs.othello_eval.Minimax.{best_choice}
use Rattle.leaf_search.specs.othello_eval.Tables.{entered}
use Rattle.leaf_search.specs.Bounds.{IsBound}
use Rattle.sched_rules.specs.Trees.{kept_words}
use Rattle.sched_rules.specs.Laws.{Mark, Neither, Computes, HasReturned}
use Rattle.jamboree_rules.specs.Frames.{Frame, phase_computing, phase_done, phase_first, phase_new, phase_tests, role_again, role_first_child, role_root, role_test, status_runs, status_runs_again, status_settled, status_not_spawned, board, choice_at, code_at, coded, value_at, value, floor, least, greatest}
use Rattle.jamboree_rules.specs.Places.{frame_of, is_formed, kind_in}
use Rattle.jamboree_rules.specs.Entries.{IsOfKind, IsTrueRest}

-- c is the first child of f: it is searched with the whole window
pub record IsFirst (f c : Frame) : Type 0 where
  pub role : c.role ≡ role_first_child
  pub phase : f.phase ≡ phase_first
  pub number : c.number ≡ 0
  pub status : slice_index f.statuses c.number ≡ status_runs
  pub low : c.alpha ≡ neg_ℤ f.beta
  pub high : c.beta ≡ neg_ℤ f.alpha

-- c is a test of a choice of f. To f its window is (t, t + 1), where t is at least alpha of f and at most its
-- floor: t was the floor when the test was opened
pub record IsTest (f c : Frame) : Type 0 where
  pub role : c.role ≡ role_test
  pub phase : f.phase ≡ phase_tests
  pub status : slice_index f.statuses c.number ≡ status_runs
  pub low : c.alpha ≡ neg_ℤ (neg_ℤ c.beta +ℤ pos 1)
  pub least : f.alpha ≤ℤ neg_ℤ c.beta
  pub most : neg_ℤ c.beta ≤ℤ floor f

-- c searches a choice of f again, above the floor of f; all earlier choices are settled
pub record IsAgain (f c : Frame) : Type 0 where
  pub role : c.role ≡ role_again
  pub phase : f.phase ≡ phase_tests
  pub status : slice_index f.statuses c.number ≡ status_runs_again
  pub low : c.alpha ≡ neg_ℤ f.beta
  pub high : c.beta ≡ neg_ℤ (floor f)
  pub earlier : (k : ℕ) → k < c.number → slice_index f.statuses k ≡ status_settled

-- c is a child of f in one of the three roles
pub data IsInRole (f c : Frame) : Type 0 where
  First : IsFirst f c → IsInRole f c
  Test : IsTest f c → IsInRole f c
  Again : IsAgain f c → IsInRole f c

-- c is a child of f: shallower by the plies of its choice, and once it knows its board, that is the board after its choice
pub record IsChildOf (f c : Frame) : Type 0 where
  pub inside : c.number < length f.statuses
  pub shallower : c.depth ≡ f.depth - plies (choice_at f c.number)
  pub known : c.phase ≢ phase_new → board c ≡ after (board f) (choice_at f c.number)
  pub in_role : IsInRole f c

-- each of these frames is a child of the frame f
abbrev pub AreChildren : Frame → List Frame → Type 0
AreChildren f [] = Unit {0}
AreChildren f (c ∷ cs) = IsChildOf f c × AreChildren f cs

-- how many of these children are for the choice i
abbrev pub how_many : ℕ → List Frame → ℕ
how_many i children = count_by (λ c. c.number == i) children

-- the table of a frame, where v k is the value of choice k: there is one rest for each status, each rest is true
-- of its choice's value, and the rest of a settled choice has a kind
pub record IsTabled (v : ℕ → ℤ) (statuses rests : List ℕ) : Type 0 where
  pub places : length rests ≡ length statuses
  pub holds : (k : ℕ) → IsTrueRest (slice_index rests k) (v k)
  pub said : (k : ℕ) → slice_index statuses k ≡ status_settled → kind_in (slice_index rests k) ≢ 0

-- the stored choice is the first that is worth the best score, where v k and code k are the value and the code of
-- choice k. It is settled, and its entry is exact
pub record IsFound (v : ℕ → ℤ) (code : ℕ → ℕ) (statuses rests : List ℕ) (best : ℤ) (choice : ℕ) : Type 0 where
  pub place : ℕ
  pub inside : place < length statuses
  pub settled : slice_index statuses place ≡ status_settled
  pub exact : IsOfKind (slice_index rests place) Exact
  pub named : choice ≡ code place
  pub worth : v place ≡ best
  pub earlier : (k : ℕ) → k < place → v k <ℤ best

-- of a frame that searches its choices: it has a depth of at least 1, at least one choice, and a status for each
-- choice of its board; the choices from number `spawned` on have the status of those that aren't spawned. The best
-- score is below beta, no settled choice is worth more than it, and where it is above alpha, the stored choice is
-- the first that is worth it
pub record IsSearchingFrame (f : Frame) : Type 0 where
  pub places : length f.statuses ≡ length (choices (board f))
  pub some : 0 < length f.statuses
  pub deep : 0 < f.depth
  pub spawned_in : f.spawned ≤ length f.statuses
  pub unspawned : (k : ℕ) → f.spawned ≤ k → k < length f.statuses → slice_index f.statuses k ≡ status_not_spawned
  pub below : f.best <ℤ f.beta
  pub settled : (k : ℕ) → k < length f.statuses → slice_index f.statuses k ≡ status_settled → value_at f k ≤ℤ f.best
  pub found : f.alpha <ℤ f.best → IsFound (value_at f) (code_at f) f.statuses f.rests f.best f.choice

-- of a frame that is done: its best score is a bound of the minimax value. Where that is below beta, each choice
-- with a place is settled; where it is inside the window, the stored choice is the best choice, and if the
-- choices have places, its entry is exact
pub record IsDoneFrame (f : Frame) : Type 0 where
  pub bound : IsBound f.alpha f.beta f.best (value f)
  pub named : f.alpha <ℤ f.best → f.best <ℤ f.beta → f.choice ≡ coded (best_choice f.depth (board f))
  pub all : f.best <ℤ f.beta → (k : ℕ) → k < length f.statuses → slice_index f.statuses k ≡ status_settled
  pub found : f.alpha <ℤ f.best → f.best <ℤ f.beta → 0 < length f.statuses → IsFound (value_at f) (code_at f) f.statuses f.rests f.best f.choice

-- the frame's phase agrees with its state in the scheduler (the mark): it computes, has returned, or neither
abbrev pub IsMarked : ℕ → Mark → Type 0
IsMarked phase Neither = phase ≢ phase_computing
IsMarked phase Computes = phase ≡ phase_computing
IsMarked phase HasReturned = phase ≡ phase_done

-- the invariant of a frame, with its children and its mark
pub record Fits (f : Frame) (children : List Frame) (mark : Mark) : Type 0 where
  pub window : f.alpha <ℤ f.beta
  pub marked : IsMarked f.phase mark
  pub idle : f.phase ≢ phase_first → f.phase ≢ phase_tests → children ≡ []
  pub searching : (f.phase ≡ phase_first) ⊎ (f.phase ≡ phase_tests) → IsSearchingFrame f
  pub done : f.phase ≡ phase_done → IsDoneFrame f
  -- the table holds in every phase; a root that has begun has a place for each choice, and none at depth 0
  pub table : IsTabled (value_at f) f.statuses f.rests
  pub whole : f.role ≡ role_root → f.phase ≢ phase_new → length f.statuses ≡ length (entered f.depth (board f))
  pub kin : AreChildren f children
  pub once : (i : ℕ) → how_many i children ≤ 1

-- the invariant of a frame's words, with its children's words and its mark: they have the form of a frame, and
-- the frames in them satisfy `Fits`
pub record AreFitting (words : List ℕ) (children : List (List ℕ)) (mark : Mark) : Type 0 where
  pub formed : is_formed words ≡ true
  pub frame : Fits (frame_of words) (map frame_of children) mark

-- a root's words have the board and the depth of the words that were submitted (origin), the role of a root, and
-- the full window
pub record IsRoot (origin own : List ℕ) : Type 0 where
  pub own_is : (frame_of own).own ≡ (frame_of origin).own
  pub opp_is : (frame_of own).opp ≡ (frame_of origin).opp
  pub depth_is : (frame_of own).depth ≡ (frame_of origin).depth
  pub role_is : (frame_of own).role ≡ role_root
  pub alpha_is : (frame_of own).alpha ≡ least
  pub beta_is : (frame_of own).beta ≡ greatest

-- these words are what a job keeps of its root once that has returned: the first 76 of the root's words, of which
-- `AreFitting` held
pub record IsKeptRoot (words : List ℕ) : Type 0 where
  pub origin : List ℕ
  pub whole : List ℕ
  pub kept : kept_words whole ≡ words
  pub fits : AreFitting whole [] HasReturned
  pub rooted : IsRoot origin whole
