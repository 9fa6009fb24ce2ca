-- The frames of searches have places for the choices of their boards, and each choice that is searched has a child,
-- whatever the order of steps.
use Rattle.jamboree_core.proofs.Common.{◌≡◌, ◌≢◌, ◌⊎◌, inl, inr, ℕ, Bool, true, false, List, [], ◌∷◌, ◌++◌, length, refl, sym, ◌∙◌, ◌+◌, ◌<◌, ◌≤◌, ◌==◌, arith, int_le, int_lt, slice_index, slice_set, padded, stored, grown, Continuation, Spawn, Neither, ParentFits, Lists, next_act, seen, AreFitting, IsRoot, jamboree, frame_of, floor, next-keeps, inlet-keeps, accept-keeps, IsLawful, Mark, Tenant, TenantFits, board, neg_ℤ, common_steps, AllFit, NextKeeps, InletKeeps, AcceptKeeps, NewChildFits, children_after, children_left, choices, role_root, phase_first, phase_tests, status_settled, status_failed, IsChildOf, how_many, formed-told, IsInSearch, set-there, set-beside, frames, in-search, with_place, StandsUnder, frame_by, frame_after, kin-of, inlet-stores, test-told, next-goes, answer-good, answered_frame, cases_eq, Frame}
use Rattle.jamboree_core.proofs.Moves.{by-moves, by-inlet, by-answer}

-- a frame with places for choices has one for each choice of its board; its depth is above the grain, a root's above 0
abbrev pub IsCounted : ℕ → Frame → Type 0
IsCounted grain f = f.count ≢ 0 → (f.count ≡ length (choices (board f))) × (0 < f.depth) × (f.role ≢ role_root → grain < f.depth)

-- the children of these words that search choice k
abbrev pub children_for : ℕ → Lists → ℕ
children_for k children = how_many k (frames children)

-- each choice that is searched has a child: the first, once it is spawned; at the tests each that is spawned, and neither settled nor failed
pub record Runs (f : Frame) (children : Lists) : Type 0 where
  pub first : f.phase ≡ phase_first → (k : ℕ) → k < f.spawned → 1 ≤ children_for k children
  pub tests : f.phase ≡ phase_tests → (k : ℕ) → k < f.spawned → slice_index f.statuses k ≢ status_settled → slice_index f.statuses k ≢ status_failed →
      1 ≤ children_for k children

-- a frame's words fit, its places are counted, and each choice that is searched has a child
pub record AreCounted (grain : ℕ) (words : List ℕ) (children : Lists) (mark : Mark) : Type 0 where
  pub fits : AreFitting words children mark
  pub counted : IsCounted grain (frame_of words)
  pub runs : Runs (frame_of words) children

-- so it is of the frames of a tenant's jobs, which are searches
abbrev pub TenantCounts : ℕ → Lists → Tenant → Type 0
TenantCounts grain origins tenant = TenantFits (AreCounted grain) IsRoot origins tenant

-- a frame of the same board, depth, role and number of places
counted-same : (grain : ℕ) (f g : Frame) → g.count ≡ f.count → g.own ≡ f.own → g.opp ≡ f.opp → g.depth ≡ f.depth → g.role ≡ f.role → IsCounted grain f → IsCounted grain g
counted-same grain f g count own opp depth role c some = let was = c (λ none. some (count ∙ none)) in rw (count, own, opp, depth, role) was

-- a frame that doesn't search its choices
pub runs-else : (f : Frame) (children : Lists) → f.phase ≢ 2 → f.phase ≢ 3 → Runs f children
runs-else f children not2 not3 = record { first = λ e. absurd (not2 e); tests = λ e. absurd (not3 e) }

for-append : (k : ℕ) (xs ys : Lists) → children_for k (xs ++ ys) ≡ children_for k xs + children_for k ys
for-append k [] ys = omega arith
for-append k (x ∷ xs) ys = grind (arith, common_steps, for-append k xs ys)

for-other : (k : ℕ) (child : List ℕ) (children : Lists) → (frame_of child).number ≢ k → children_for k (child ∷ children) ≡ children_for k children
for-other k child children other = grind (arith, common_steps)

-- one child more, for choice i
runs-more : (f : Frame) (children : Lists) (child : List ℕ) (i x spawned : ℕ) → Runs f children → (frame_of child).number ≡ i → i < length f.statuses →
    ((k : ℕ) → k < spawned → k ≢ i → k < f.spawned) → Runs (with_place f i x spawned) (children ++ child ∷ [])
runs-more f children child i x spawned runs number inside below = record {
  first = λ phase k low. more k (λ other. runs.first phase k (below k low other));
  tests = λ phase k low not2 not3. more k (λ other. let same = set-beside f.statuses i x k other in
      runs.tests phase k (below k low other) (λ e. not2 (same ∙ e)) (λ e. not3 (same ∙ e)));
}
  where
    more : (k : ℕ) → (k ≢ i → 1 ≤ children_for k children) → 1 ≤ children_for k (children ++ child ∷ [])
    more k has = grind (arith, common_steps, for-append k children (child ∷ []), cases_eq k i)

-- a child less, whose choice is settled or has failed
module _ (own child : List ℕ) (before behind : Lists) (kin : IsChildOf (frame_of own) (frame_of child)) (runs : Runs (frame_of own) (before ++ child ∷ behind)) where
  abbrev f : Frame
  f = frame_of own

  abbrev c : Frame
  c = frame_of child

  runs-taken : (g : Frame) (x : ℕ) → g.phase ≡ 3 → g.spawned ≡ f.spawned → g.statuses ≡ slice_set f.statuses c.number x → (x ≡ 2) ⊎ (x ≡ 3) → Runs g (before ++ behind)
  runs-taken g x phase spawned statuses settled = record {
    first = λ e. absurd (omega (arith, e, phase));
    tests = λ _ k low not2 not3. elim (cases_eq k c.number) [
      | inl is ↦ grind (arith, set-there f.statuses c.number x kin.inside)
      | inr other ↦ (let some = there k (omega (arith, low, spawned)) in
          grind (arith, some, set-beside f.statuses c.number x k, for-append k before (child ∷ behind), for-append k before behind, for-other k child behind, in-search f c kin.in_role))
    ];
  }
    where
      there : (k : ℕ) → k < f.spawned → slice_index f.statuses k ≢ 2 → slice_index f.statuses k ≢ 3 → IsInSearch f → 1 ≤ children_for k (before ++ child ∷ behind)
      there k low not2 not3 (inl first) = runs.first first k low
      there k low not2 not3 (inr tests) = runs.tests tests k low not2 not3

  runs-by : (cuts test low higher : Bool) → test ≡ (c.role == 2) → Runs (frame_by cuts test low higher f c) (children_left cuts (before ++ behind))
  runs-by true test low higher et = runs-else _ [] (λ e. absurd (omega (arith, e))) (λ e. absurd (omega (arith, e)))
  runs-by false true true higher et = runs-taken _ 2 (test-told f c et kin.in_role).phase refl refl (inl refl)
  runs-by false true false higher et = runs-taken _ 3 (test-told f c et kin.in_role).phase refl refl (inr refl)
  runs-by false false low true et = runs-taken _ 2 refl refl refl (inl refl)
  runs-by false false low false et = runs-taken _ 2 refl refl refl (inl refl)

-- an inlet leaves the places
count-by : (cuts test low higher : Bool) (f c : Frame) → (frame_by cuts test low higher f c).count ≡ f.count
count-by cuts test low higher f c = grind arith

-- a new child has no places yet, and has done nothing
abbrev NewIsEmpty : Continuation → Type 0
NewIsEmpty (Spawn given size) = ((frame_of (padded given size)).count ≡ 0) × ((frame_of (padded given size)).phase ≡ 0)
NewIsEmpty _ = Unit {0}

-- What an act leaves.
module _ (grain : ℕ) (origin own : List ℕ) (above older younger children : Lists) (fits : AreCounted grain own children Neither)
    (parent : StandsUnder origin above older younger own) where
  abbrev this : Frame
  this = frame_of own

  abbrev Counts : Frame → Continuation → Type 0
  Counts g after = IsCounted grain g × Runs g (children_after after children) × NewIsEmpty after

  is-root : (levels : Lists) → levels ≡ [] → StandsUnder origin levels older younger own → this.role ≡ 0
  is-root [] e root = root.role_is
  is-root (q ∷ levels) e under = absurd cc

  next-counts : Counts (frame_of (grown (next_act grain (own ∷ above)).after (stored (next_act grain (own ∷ above)).stores own))) (next_act grain (own ∷ above)).after
  next-counts = by-moves grain origin own above older younger children fits.fits parent Counts (record {
    at_computed = λ o p phase. (λ some. absurd (some ((formed-told own fits.fits.formed).frame.early (omega (arith, phase))).1), runs-else _ children (λ e. absurd (omega (arith, e))) (λ e. absurd (omega (arith, e))), tt);
    at_opened = λ o p phase board_is deep deeper. (
      λ some. (refl, deep, λ other. deeper (λ root. other (is-root above root parent))),
      record { first = λ e k low. absurd (omega (arith, low)); tests = λ e. absurd (omega (arith, e)) },
      tt,
    );
    at_first = λ phase none. (
      fits.counted,
      runs-more this children _ 0 1 1 fits.runs refl ((fits.fits.frame.searching (inl phase)).some) (λ k low other. absurd (omega (arith, low, other))),
      (refl, refl),
    );
    at_again = λ j phase inside failed. (fits.counted, runs-more this children _ j 4 this.spawned fits.runs refl inside (λ k low other. low), (refl, refl));
    at_test = λ phase inside. (
      fits.counted,
      runs-more this children _ this.spawned 1 (this.spawned + 1) fits.runs refl inside (λ k low other. omega (arith, low, other)),
      (refl, refl),
    );
    at_settled = λ phase. (fits.counted, runs-else _ children (λ e. absurd (omega (arith, e))) (λ e. absurd (omega (arith, e))), tt);
    at_first_wait = λ phase some. (fits.counted, fits.runs, tt);
    at_tests_wait = λ j phase inside not2 not3 far. (fits.counted, fits.runs, tt);
    at_done = λ phase. (fits.counted, fits.runs, tt);
  })

-- So it is a law of the procedure.
pub fitting-above : (grain : ℕ) (origin own : List ℕ) (above older younger : Lists) → ParentFits (AreCounted grain) IsRoot origin above (older, younger) own →
    StandsUnder origin above older younger own
fitting-above grain origin own [] older younger parent = parent
fitting-above grain origin own (q ∷ above) older younger parent = parent.fits

counted-above : (grain : ℕ) (origin own changed : List ℕ) (above older younger : Lists) → (frame_of changed).number ≡ (frame_of own).number →
    ParentFits (AreCounted grain) IsRoot origin above (older, younger) own → StandsUnder origin above older younger changed → ParentFits (AreCounted grain) IsRoot origin above (older, younger) changed
counted-above grain origin own changed [] older younger number parent fits = fits
counted-above grain origin own changed (q ∷ above) older younger number parent fits =
    record { fits = fits; counted = parent.counted; runs = record { first = λ e k low. rw (same k) (parent.runs.first e k low); tests = λ e k low not2 not3. rw (same k) (parent.runs.tests e k low not2 not3) } }
  where
    same : (k : ℕ) → children_for k (older ++ changed ∷ younger) ≡ children_for k (older ++ own ∷ younger)
    same k = for-append k older (changed ∷ younger) ∙ grind (arith, common_steps, number) ∙ sym (for-append k older (own ∷ younger))

all-fitting : (grain : ℕ) (children : Lists) → AllFit (AreCounted grain) children → AllFit AreFitting children
all-fitting grain [] all = tt
all-fitting grain (child ∷ children) all = ((all.0.0, all.0.1, all.0.2.fits), all-fitting grain children all.1)

counted-new : (grain : ℕ) (after : Continuation) → NewChildFits AreFitting after → NewIsEmpty after → NewChildFits (AreCounted grain) after
counted-new grain (Spawn given size) fits new = record {
  fits = fits;
  counted = λ some. absurd (some new.0);
  runs = runs-else _ [] (λ e. absurd (omega (arith, e, new.1))) (λ e. absurd (omega (arith, e, new.1)));
}
counted-new grain _ fits new = tt

pub counts-lawful : (grain : ℕ) → IsLawful (jamboree grain) (AreCounted grain) IsRoot
counts-lawful grain = record { next = next; inlet = inlet; accept = accept }
  where
    next : NextKeeps (jamboree grain) (AreCounted grain) IsRoot
    next origin own above older younger children fits parent all done =
        let under = fitting-above grain origin own above older younger parent in
        let base = next-keeps (jamboree grain) grain refl origin own above older younger children fits.fits under (all-fitting grain children all) done in
        let goes = next-goes grain origin own above older younger children fits.fits under in
        let counts = next-counts grain origin own above older younger children fits under in
        (record { fits = base.0; counted = counts.0; runs = counts.1 }, counted-above grain origin own _ above older younger goes.2.goal.number parent base.1, counted-new grain _ base.2 counts.2)

    inlet : InletKeeps (jamboree grain) (AreCounted grain) IsRoot
    inlet origin own child above older younger before behind fits parent all_before returned all_behind inside =
        let under = fitting-above grain origin own above older younger parent in
        let base = inlet-keeps (jamboree grain) refl origin own child above older younger before behind fits.fits under (all-fitting grain before all_before) returned.fits (all-fitting grain behind all_behind) inside in
        let f : Frame = frame_of own in
        let c : Frame = frame_of child in
        let s = inlet-stores own child before behind fits.fits returned.fits in
        let left = by-inlet own child before behind fits.fits returned.fits (λ g cuts. IsCounted grain g × Runs g (children_left cuts (before ++ behind)) × (g.number ≡ f.number)) (
          counted-same grain f (frame_after f c) (count-by _ _ _ _ f c) s.own_is s.opp_is s.goal.depth s.goal.role fits.counted,
          runs-by own child before behind (kin-of own child before behind fits.fits) fits.runs (int_le f.beta (seen c)) (c.role == 2) (int_le (seen c) (neg_ℤ c.beta)) (int_lt (floor f) (seen c)) refl,
          s.goal.number,
        ) in
        (record { fits = base.0; counted = left.0; runs = left.1 }, counted-above grain origin own _ above older younger left.2 parent base.1)

    accept : AcceptKeeps (jamboree grain) (AreCounted grain) IsRoot
    accept origin own above older younger answer fits parent alike inside =
        let under = fitting-above grain origin own above older younger parent in
        let base = accept-keeps (jamboree grain) refl refl refl refl origin own above older younger answer fits.fits under alike inside in
        let s = answer-good own answer (formed-told own fits.fits.formed) fits.fits.frame.marked in
        let left = by-answer own answer fits.fits (λ g. IsCounted grain g × Runs g [] × (g.number ≡ (frame_of own).number)) (
          counted-same grain (frame_of own) (answered_frame (frame_of own) answer) refl s.own_is s.opp_is s.goal.depth s.goal.role fits.counted,
          runs-else _ [] (λ e. absurd (omega (arith, e))) (λ e. absurd (omega (arith, e))),
          s.goal.number,
        ) in
        (record { fits = base.0; counted = left.0; runs = left.1 }, counted-above grain origin own _ above older younger left.2 parent base.1)
