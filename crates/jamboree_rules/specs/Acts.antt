-- Meaning: what a frame of a Jamboree search does next, and what it does about a child that has returned.
-- (Kuszmaul 1994: the first child is searched, then the others are tested; a test that fails is searched again.)
use Rattle.std.specs.Prelude.{ℕ, suc, ◌+◌, ◌-◌, ◌==◌, ◌&&◌, ◌||◌, nat_le, nat_lt, Bool, true, false, ℤ, pos, ◌+ℤ◌, neg_ℤ, int_le, int_lt, List, [], ◌∷◌, Option, Some, None, length, slice_index, if◌then◌else◌}
use Rattle.std.specs.Int.{int_max}
use Rattle.othello_board.specs.declared.cells.Cell.{Cell}
use Rattle.othello_board.specs.Words.{cells_of}
use Rattle.othello_moves.specs.Choices.{choices, after, plies}
use Rattle.leaf_search.specs.othello_eval.declared.bound.BoundKind.{BoundKind}
use Rattle.leaf_search.specs.othello_eval.declared.bound.BoundKind.TheVariants.{Low, High, Exact}
use Rattle.sched_rules.specs.declared.act.Act.{Act}
use Rattle.sched_rules.specs.declared.act.InletAct.{InletAct}
use Rattle.sched_rules.specs.declared.act.Continuation.{Continuation}
use Rattle.sched_rules.specs.declared.act.Continuation.TheVariants.{Grow, Spawn, Wait, Compute, Return}
use Rattle.jamboree_rules.specs.Frames.{Frame, phase_computing, phase_done, phase_first, phase_new, phase_tests, role_again, role_first_child, role_test, status_failed, status_runs, status_runs_again, status_settled, board, choice_at, code_at, rest_at, floor, least, own_word, opp_word, may_be_child}
use Rattle.jamboree_rules.specs.Places.{frame_of, is_formed, is_placed, Change, OwnBits, OppBits, Phase, Best, Chosen, Count, Spawned, Status, rest_with, pairs_of, given_words, frame_size}

-- the act that returns and stores nothing; it is also the act of words that don't have the form of a frame
abbrev pub returns : Act
returns = record { stores = []; after = Return }

-- what an act does after its stores, where it opens a child that searches choice i, in this role and with this
-- window. Its depth is less by one for a square, and the same for a pass
abbrev pub spawns : Frame → ℕ → ℕ → ℤ → ℤ → Continuation
spawns f role i alpha beta = Spawn (given_words (f.depth - plies (choice_at f i)) alpha beta role i) frame_size

-- the first act of a new frame: it stores its board. At true one worker then computes it by itself, outside the
-- scheduler's lock; at false it grows by an entry for each of its n choices, which its children search
abbrev pub opening : Bool → ℕ → ℕ → ℕ → Act
opening true own opp n = record { stores = pairs_of (OwnBits own ∷ OppBits opp ∷ Phase phase_computing ∷ []); after = Compute }
opening false own opp n = record {
  stores = pairs_of (OwnBits own ∷ OppBits opp ∷ Phase phase_first ∷ Best least ∷ Chosen 65 ∷ Count n ∷ Spawned 0 ∷ []);
  after = Grow n;
}

-- whether one worker computes a frame with this board by itself: the depth left is at most the grain, or the game
-- is over (there is no choice)
abbrev pub is_computed : ℕ → Frame → List Cell → Bool
is_computed grain f b = nat_le f.depth grain || (length (choices b) == 0)

-- the first act of a new frame whose board has these two words
abbrev pub opening_on : ℕ → Frame → ℕ → ℕ → Act
opening_on grain f own opp = opening (is_computed grain f (cells_of own opp)) own opp (length (choices (cells_of own opp)))

-- the first act of a new frame. With no parent it is a root, which holds its board already; for a root the grain
-- counts as 0, so that each of its choices gets an entry, unless the depth is 0 or the game is over. Else its
-- board is the parent's board after the choice that it searches
abbrev pub opening_under : ℕ → Frame → Option Frame → Act
opening_under grain f None = opening_on 0 f f.own f.opp
opening_under grain f (Some parent) = let b : List Cell = after (board parent) (choice_at parent f.number) in opening_on grain f (own_word b) (opp_word b)

-- the act while the first choice is searched: where no child is spawned yet (true) its child is opened with the
-- frame's whole window, else (false) the frame waits for it. The choice's entry gets a new status, and keeps what
-- is known of the choice (`rest_at`)
abbrev pub first_search : Bool → Frame → Act
first_search true f = record { stores = pairs_of (Spawned 1 ∷ Status 0 status_runs (rest_at f 0) ∷ []); after = spawns f role_first_child 0 (neg_ℤ f.beta) (neg_ℤ f.alpha) }
first_search false f = record { stores = []; after = Wait }

-- the number, from 0, of the first choice that isn't settled; where all are, the number of choices
abbrev pub first_open : List ℕ → ℕ
first_open [] = 0
first_open (status ∷ statuses) = if status == status_settled then suc (first_open statuses) else 0

-- the act while the later choices are tested, where j is the first choice that isn't settled, and the floor the
-- greater of alpha and the best score. Where the test of j has failed (`failed`), it is searched again with the
-- window from the floor to beta. Else, where a choice isn't spawned yet (`more`), that is tested with the window
-- of width one just above the floor. Else, where all are settled (`all`), the frame is done; or it waits for a
-- child
abbrev pub tests : (failed more all : Bool) → Frame → ℕ → Act
tests true more all f j = record { stores = pairs_of (Status j status_runs_again (rest_at f j) ∷ []); after = spawns f role_again j (neg_ℤ f.beta) (neg_ℤ (floor f)) }
tests false true all f j = record {
  stores = pairs_of (Spawned (f.spawned + 1) ∷ Status f.spawned status_runs (rest_at f f.spawned) ∷ []);
  after = spawns f role_test f.spawned (neg_ℤ (floor f +ℤ pos 1)) (neg_ℤ (floor f));
}
tests false false true f j = record { stores = pairs_of (Phase phase_done ∷ []); after = Return }
tests false false false f j = record { stores = []; after = Wait }

-- `tests`, with its three flags read from the frame; j is the first choice that isn't settled
abbrev pub tests_from : Frame → ℕ → Act
tests_from f j = tests (nat_lt j (length f.statuses) && (slice_index f.statuses j == status_failed)) (nat_lt f.spawned (length f.statuses)) (nat_le (length f.statuses) j) f j

-- the next act of a frame, by its phase, where `under` is the grain and its parent: the flags say whether it is new,
-- computing, at its first choice or at its tests; in any other phase it returns
abbrev pub act_by : (opens computes first searches : Bool) → (under : ℕ × Option Frame) → Frame → Act
act_by true computes first searches under f = opening_under under.0 f under.1
act_by false true first searches under f = record { stores = []; after = Compute }
act_by false false true searches under f = first_search (f.spawned == 0) f
act_by false false false true under f = tests_from f (first_open f.statuses)
act_by false false false false under f = returns

-- the next act of a frame under this parent, or of a root (None)
abbrev pub act_of : ℕ → Frame → Option Frame → Act
act_of grain f parent = act_by (f.phase == phase_new) (f.phase == phase_computing) (f.phase == phase_first) (f.phase == phase_tests) (grain, parent) f

-- the frame of the parent, which is the first of the levels above; None for a root
abbrev pub parent_in : List (List ℕ) → Option Frame
parent_in [] = None
parent_in (parent ∷ above) = Some (frame_of parent)

-- the next act of a frame that sees these words: its own, then its parent's, and so on up to the root's. It
-- returns where its own words or its parent's don't have the form of a frame, or where it can't be that parent's
-- child
abbrev pub next_act : ℕ → List (List ℕ) → Act
next_act grain [] = returns
next_act grain (own ∷ above) = if is_formed own && is_placed own above then act_of grain (frame_of own) (parent_in above) else returns

-- a child's score, seen from its parent: negated
abbrev pub seen : Frame → ℤ
seen c = neg_ℤ c.best

-- the kind of bound that a score is, by two flags: whether it is at most the lower end of its window (Low), and
-- else whether it is at least the upper end (High) or not (Exact)
abbrev pub kind_by : (low high : Bool) → BoundKind
kind_by true high = Low
kind_by false true = High
kind_by false false = Exact

-- what a score says of a value that was searched for in the window from `lower` to `upper`. A score of at most
-- `lower` is an upper bound (Low: the value is at most the score), one of at least `upper` is a lower bound
-- (High), and any other is the value (Exact)
abbrev pub kind_of : (lower upper score : ℤ) → BoundKind
kind_of lower upper score = kind_by (int_le score lower) (int_le upper score)

-- the bound that a child's score gives for its choice, packed in one number (`rest_with`): the score as the parent sees it, and
-- whether it is an upper bound, a lower bound or exact. The child's window (alpha, beta) is (-beta, -alpha) to the parent
abbrev pub found_rest : Frame → ℕ
found_rest c = rest_with (kind_of (neg_ℤ c.beta) (neg_ℤ c.alpha) (seen c)) (seen c)

-- what the inlet of frame f stores for its returned child c, in five cases. The score is at least beta (`cuts`):
-- f is done. A test's score isn't above its window (`low`): the choice is settled. A test's score is above it:
-- the test has failed. A full search's score is above the floor (`higher`): its choice is settled, and the best
-- so far. Or it isn't: the choice is settled. Each case also stores in the choice's entry the bound that the
-- score gives
abbrev pub changes_by : (cuts test low higher : Bool) → Frame → Frame → List Change
changes_by true test low higher f c = Best (seen c) ∷ Chosen (code_at f c.number) ∷ Status c.number status_settled (found_rest c) ∷ Phase phase_done ∷ []
changes_by false true true higher f c = Best (int_max f.best (seen c)) ∷ Status c.number status_settled (found_rest c) ∷ []
changes_by false true false higher f c = Status c.number status_failed (found_rest c) ∷ []
changes_by false false low true f c = Best (int_max f.best (seen c)) ∷ Chosen (code_at f c.number) ∷ Status c.number status_settled (found_rest c) ∷ Phase phase_tests ∷ []
changes_by false false low false f c = Best (int_max f.best (seen c)) ∷ Status c.number status_settled (found_rest c) ∷ Phase phase_tests ∷ []

-- `changes_by`, with its flags read from the two frames. To the parent the lower end of the child's window is
-- -beta of the child
abbrev pub changes_of : Frame → Frame → List Change
changes_of f c = changes_by (int_le f.beta (seen c)) (c.role == role_test) (int_le (seen c) (neg_ℤ c.beta)) (int_lt (floor f) (seen c)) f c

-- the inlet that wakes the parent and stores nothing; it is also the inlet of words that don't have the form of a
-- frame
abbrev pub wakes : InletAct
wakes = record { stores = []; abort = false; wake = true }

-- the inlet of frame f for its returned child c: it stores what the score says and wakes f. Where the score is at
-- least beta of f, it also aborts all else below f
abbrev pub inlet_of : Frame → Frame → InletAct
inlet_of f c = record { stores = pairs_of (changes_of f c); abort = int_le f.beta (seen c); wake = true }

-- the inlet of a parent's words for a child's words. Where one of the two doesn't have the form of a frame, or
-- this can't be a child of that parent, the parent is only woken
abbrev pub inlet_act : List ℕ → List ℕ → InletAct
inlet_act own child = if is_formed own && (is_formed child && may_be_child (frame_of own) (frame_of child)) then inlet_of (frame_of own) (frame_of child) else wakes
