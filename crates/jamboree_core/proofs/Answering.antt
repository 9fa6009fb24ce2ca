-- A frame of a search gets at most one Answer from a worker: each answers a frame that was opened, and makes it one
-- that is never computed again.
use Rattle.jamboree_core.proofs.Common.{ReserveOf, ◌≡◌, ℕ, ◌+◌, ◌≤◌, inl, inr, Bool, List, [], ◌∷◌, ◌++◌, Option, Some, None, Result, Ok, Err, refl, ap, ◌∙◌, arith, nat_le, if◌then◌else◌, not-false, nat_tests, Running, FrameId, frame_at, found-serial, padded, Refusal, StepOf, Admit, Answer, Tree, Tenant, admitted_with, with_frame_words, stored, Outcome, unless, lone_step, answer_tests, answered, is_computed_by, state_after, alone_from, IsShaped, TenantFits, submits, frame-found, unless-passed, came, step-shaped, admitted-shaped, step-fits, Leaf, AreFitting, IsRoot, jamboree, LeafAnswer, phase_computing, frame_of, accepts, AreSearches, StaysTaken, AreTakenFrom, IsJournalOf, computes-marked, Computes, frame_at-with_frame_words, tree-with_frame_words, frame_by, Weight, Frame}
use Rattle.jamboree_core.proofs.Replying.{search-fits, lawful}
use Rattle.jamboree_core.proofs.Moves.{by-moves, by-inlet, by-answer}
use Rattle.jamboree_core.proofs.Weights.{UsesUp, Pays, IsAccount, Leaves, step-left, tolls_in, free, words-toll, state-toll, fits-leaf}

-- 1 for a phase in which a frame may be given an Answer, or may come to one; else 0
abbrev open_in : ℕ → ℕ
open_in phase = if nat_le phase phase_computing then 1 else 0

open-one : (phase : ℕ) → open_in phase ≤ 1
open-one phase = grind (arith, nat_tests)

-- so much a frame weighs: no step opens it again
abbrev open_by : Weight
open_by words above = open_in (frame_of words).phase

abbrev unanswered : Tree → ℕ
unanswered frames = tolls_in free open_by frames

inlet-closes : (cuts test low higher : Bool) (f c : Frame) → open_in (frame_by cuts test low higher f c).phase ≤ open_in f.phase
inlet-closes cuts test low higher f c = grind arith

closes : (grain : ℕ) → UsesUp (jamboree grain) AreFitting IsRoot 0 1 0 open_by
closes grain = record {
  next = λ origin own above older younger children fits parent. (
    by-moves grain origin own above older younger children fits parent (λ g after. Pays 0 1 0 (open_in (frame_of own).phase) (open_in g.phase) (λ words. open_in (frame_of words).phase) children after) (record {
      at_computed = λ o p phase. rw phase (omega arith);
      at_opened = λ o p phase board deep deeper. omega arith;
      at_first = λ phase none. omega arith;
      at_again = λ j phase inside failed. omega arith;
      at_test = λ phase inside. omega arith;
      at_settled = λ phase. omega arith;
      at_first_wait = λ phase some. (omega arith, inl refl);
      at_tests_wait = λ j phase inside not2 not3 far. (omega arith, inl refl);
      at_done = λ phase. omega arith;
    }),
    inr (λ child. omega arith),
  );
  inlet = λ own child before behind above fits returned.
      (by-inlet own child before behind fits returned (λ g cuts. open_in g.phase ≤ open_in (frame_of own).phase) (inlet-closes _ _ _ _ (frame_of own) (frame_of child)), λ words. omega arith);
  accept = λ own answer above fits. by-answer own answer fits (λ g. open_in g.phase ≤ open_in (frame_of own).phase) (omega arith);
}

-- after a taken step so many frames fewer may be answered yet, but for those that it opened
abbrev Closes : ℕ → Tenant → (steps serials : ℕ) → ReserveOf → ℕ → Type 0
Closes k before steps serials quota sum = sum + before.serials + k ≤ unanswered before.frames + serials

abbrev ClosesBy : ℕ → Tenant → Option Tenant → Type 0
ClosesBy k before o = Leaves free open_by (Closes k before) o

closing-account : (before : Tenant) → IsAccount 0 1 0 free (Closes 0 before)
closing-account before = grind arith

module _ (grain : ℕ) (origins : List (List ℕ)) (tenant : Tenant) (outcome : Outcome Leaf) (shape : IsShaped tenant) (fitting : TenantFits AreFitting IsRoot origins tenant) where
  step-closes : (step : StepOf LeafAnswer) → lone_step (jamboree grain) tenant step ≡ Ok outcome → ClosesBy 0 tenant outcome.0
  step-closes step is =
      step-left (closes grain) (closing-account tenant) shape fitting (omega arith) step outcome
      (λ number words size submit. let one = open-one (frame_of (padded words size)).phase in omega (arith, one)) is

  -- an Answer closes one frame
  answer-closes-one : (worker : ℕ) (name : FrameId) (answer : LeafAnswer) → lone_step (jamboree grain) tenant (Answer worker name answer) ≡ Ok outcome → ClosesBy 1 tenant outcome.0
  answer-closes-one worker name answer is =
      let tree = tenant.frames in
      let found = frame-found tree name.serial (λ frame. unless (answer_tests (jamboree grain) tenant worker frame answer) (answered (jamboree grain) tenant worker frame answer)) outcome is in
      let f = found.0 in
      let at = ap (frame_at tree) (found-serial tree name.serial f found.1) ∙ found.1 in
      let passed = unless-passed (answer_tests (jamboree grain) tenant worker f answer) (answered {I = Leaf} (jamboree grain) tenant worker f answer) outcome found.2 in
      let fit = fits-leaf shape fitting Computes (λ e. absurd cc) f.serial f at (computes-marked worker f.state (not-false (is_computed_by worker f.state) passed.0.0)) in
      let words = stored (accepts f.value answer) f.value in
      let closed : open_by words None ≡ 0 = by-answer f.value answer fit (λ g. open_in g.phase ≡ 0) refl in
      let was : open_by f.value None ≡ 1 = rw fit.frame.marked refl in
      let less = words-toll free open_by tree shape.tree f.serial f words at (inr (λ child. omega arith)) in
      let same = state-toll free open_by (with_frame_words f.serial words tree) (tree-with_frame_words f.serial words tree shape.tree) f.serial (record f { value = words }) (Running worker)
      (frame_at-with_frame_words f.serial words tree f at) in
      came (ClosesBy 1 tenant) (answered {I = Leaf} (jamboree grain) tenant worker f answer) outcome passed.1 (omega (arith, less, same, closed, was))

-- 1 for an Answer, 0 for any other step
abbrev pub one_if_answer : {A : Type 0} → StepOf A → ℕ
one_if_answer (Answer worker name answer) = 1
one_if_answer _ = 0

-- how many Answers are among these steps
abbrev pub answer_count : {A : Type 0} → List (StepOf A) → ℕ
answer_count [] = 0
answer_count (step ∷ steps) = one_if_answer step + answer_count steps

each-closes : (grain : ℕ) (origins : List (List ℕ)) (tenant : Tenant) (step : StepOf LeafAnswer) (outcome : Outcome Leaf) → lone_step (jamboree grain) tenant step ≡ Ok outcome → IsShaped tenant → TenantFits AreFitting IsRoot origins tenant →
    ClosesBy (one_if_answer step) tenant outcome.0
each-closes grain origins tenant (Answer worker name answer) outcome is shape fitting = answer-closes-one grain origins tenant outcome shape fitting worker name answer is
each-closes grain origins tenant step outcome is shape fitting = step-closes grain origins tenant outcome shape fitting step is

-- over the steps of a journal
answers-from : (grain : ℕ) (origins : List (List ℕ)) (before tenant : Tenant) (steps : List (StepOf LeafAnswer)) → AreSearches steps → AreTakenFrom (jamboree grain) (Some before) steps → alone_from (jamboree grain) (Some before) steps ≡ Some tenant →
    IsShaped before → TenantFits AreFitting IsRoot origins before → unanswered tenant.frames + before.serials + answer_count steps ≤ unanswered before.frames + tenant.serials
answers-from grain origins before tenant [] searches taken comes shape fitting = grind arith
answers-from grain origins before tenant (step ∷ steps) searches taken comes shape fitting =
    by (λ next on to well fits. answers-from grain (origins ++ submits step) next tenant steps searches.1 on to well fits) (lone_step (jamboree grain) before step) refl taken.0 taken.1 comes
  where
    by : ((next : Tenant) → AreTakenFrom (jamboree grain) (Some next) steps → alone_from (jamboree grain) (Some next) steps ≡ Some tenant → IsShaped next → TenantFits AreFitting IsRoot (origins ++ submits step) next →
        unanswered tenant.frames + next.serials + answer_count steps ≤ unanswered next.frames + tenant.serials) →
        (result : Result (Outcome Leaf) Refusal) → lone_step (jamboree grain) before step ≡ result → StaysTaken result → AreTakenFrom (jamboree grain) (state_after (Some before) result) steps →
        alone_from (jamboree grain) (state_after (Some before) result) steps ≡ Some tenant → unanswered tenant.frames + before.serials + answer_count (step ∷ steps) ≤ unanswered before.frames + tenant.serials
    by later (Ok (None, did)) is stays on to = absurd stays
    by later (Err refusal) is stays on to = absurd stays
    by later (Ok (Some next, did)) is stays on to =
        let fits = step-fits (jamboree grain) AreFitting IsRoot origins before step (Some next, did) (lawful grain) shape fitting (search-fits step searches.0) is in
        let rest = later next on to (step-shaped (jamboree grain) before step (Some next, did) is shape) fits in
        omega (arith, each-closes grain origins before step (Some next, did) is shape fitting, rest)

-- a journal of searches has at most one Answer for each serial that was given
pub journal-answers : (grain : ℕ) (journal : List (StepOf LeafAnswer)) (tenant : Tenant) → IsJournalOf (jamboree grain) journal tenant → AreSearches journal → answer_count journal ≤ tenant.serials
journal-answers grain [] tenant is searches = grind arith
journal-answers grain (Admit number quota ∷ later) tenant is searches =
    let all = answers-from grain [] (admitted_with quota) tenant later searches.1 is.taken.1 is.comes (admitted-shaped quota) (record { frames = tt; jobs = tt }) in omega (arith, all)
journal-answers grain (_ ∷ later) tenant is searches = absurd is.taken.0
