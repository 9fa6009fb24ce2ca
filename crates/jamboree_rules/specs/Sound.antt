-- Meaning: that a frame of the search is sound: what its numbers say of the minimax value of its board, and what its
-- children search.
use Rattle.std.specs.Prelude.{◌≡◌, ◌≢◌, ℕ, ◌-◌, ◌<◌, ◌⊎◌, ℤ, pos, neg_ℤ, ◌<ℤ◌, ◌≤ℤ◌, ◌+ℤ◌, List, [], ◌∷◌, length, slice_index}
use Rattle.othello_moves.specs.Choices.{after, choices, plies}
use Rattle.leaf_search.specs.othello_eval.declared.bound.BoundKind.{BoundKind}
use Rattle.leaf_search.specs.othello_eval.Minimax.{best_choice}
use Rattle.leaf_search.specs.othello_eval.Tables.{Says}
use Rattle.leaf_search.specs.Bounds.{IsBound}
use Rattle.jamboree_rules.specs.Frames.{Frame, phase_done, phase_first, phase_new, phase_tests, role_again, role_first_child, role_test, status_settled, board, choice_at, code_at, coded, value_at, value, floor}
use Rattle.jamboree_rules.specs.Entries.{HasKind, score_at}

-- the frame's choice number i is settled: its value needs no more search
abbrev pub IsSettled : Frame → ℕ → Type 0
IsSettled f i = slice_index f.statuses i ≡ status_settled

-- the stored choice is that of this place, which is settled and worth the best score; each earlier choice is worth less
pub record IsFirstBest (f : Frame) : Type 0 where
  pub place : ℕ
  pub stored : f.choice ≡ code_at f place
  pub settled : IsSettled f place
  pub worth : value_at f place ≡ f.best
  pub earlier : (i : ℕ) → i < place → value_at f i <ℤ f.best

-- child c of f has the window of its role, as f sees it. The first child has the whole window of f; a test has
-- (t, t + 1), where t is at least alpha and at most the floor; a search again goes from the floor to beta, and
-- every earlier choice is settled then
pub data HasWindow (f c : Frame) : Type 0 where
  First : c.role ≡ role_first_child → c.alpha ≡ neg_ℤ f.beta → c.beta ≡ neg_ℤ f.alpha → HasWindow f c
  Test : c.role ≡ role_test → (t : ℤ) → c.alpha ≡ neg_ℤ (t +ℤ pos 1) → c.beta ≡ neg_ℤ t → f.alpha ≤ℤ t → t ≤ℤ floor f → HasWindow f c
  Again : c.role ≡ role_again → c.alpha ≡ neg_ℤ f.beta → c.beta ≡ neg_ℤ (floor f) → ((i : ℕ) → i < c.number → IsSettled f i) → HasWindow f c

-- what child c of frame f searches: the board after its choice (which it knows once it isn't new), to a depth
-- that is less by the plies of that choice, with the window of its role. Frame f is in a phase that searches
-- choices
pub record HasGoal (f c : Frame) : Type 0 where
  pub searches : (f.phase ≡ phase_first) ⊎ (f.phase ≡ phase_tests)
  pub inside : c.number < length (choices (board f))
  pub board : c.phase ≢ phase_new → board c ≡ after (board f) (choice_at f c.number)
  pub depth : c.depth ≡ f.depth - plies (choice_at f c.number)
  pub window : HasWindow f c

-- each of these children of f searches the board after its choice, to the depth that this leaves and in the window of
-- its role (`HasGoal`)
abbrev pub HaveGoals : Frame → List Frame → Type 0
HaveGoals f [] = Unit {0}
HaveGoals f (c ∷ cs) = HasGoal f c × HaveGoals f cs

-- a frame with these children is sound. While it searches, its best score is below beta, no settled choice is
-- worth more, and where the score is above alpha, the stored choice is the first that is worth it. Once it is
-- done, the score is a bound of the minimax value, and inside the window the stored choice is the best. In every
-- phase each entry that has a kind is true
pub record IsSound (f : Frame) (cs : List Frame) : Type 0 where
  pub below : (f.phase ≡ phase_first) ⊎ (f.phase ≡ phase_tests) → f.best <ℤ f.beta
  pub settled : (f.phase ≡ phase_first) ⊎ (f.phase ≡ phase_tests) → (i : ℕ) → IsSettled f i → value_at f i ≤ℤ f.best
  pub chosen : (f.phase ≡ phase_first) ⊎ (f.phase ≡ phase_tests) → f.alpha <ℤ f.best → IsFirstBest f
  pub bound : f.phase ≡ phase_done → IsBound f.alpha f.beta f.best (value f)
  pub named : f.phase ≡ phase_done → f.alpha <ℤ f.best → f.best <ℤ f.beta → f.choice ≡ coded (best_choice f.depth (board f))
  pub entries : (i : ℕ) (kind : BoundKind) → HasKind f i kind → Says kind (score_at f i) (value_at f i)
  pub children : HaveGoals f cs
