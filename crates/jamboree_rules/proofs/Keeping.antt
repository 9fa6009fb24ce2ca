-- What an inlet (the taking in of a returned child) leaves of a right frame of the search, and what a leaf's answer
-- leaves.
use Rattle.jamboree_rules.proofs.Common.{◌||◌, ◌≡◌, ◌≢◌, ℕ, ◌<◌, ◌≤◌, ◌⊎◌, ◌==◌, Bool, true, false, ℤ, neg_ℤ, ◌<ℤ◌, ◌≤ℤ◌, int_le, int_lt, List, [], ◌∷◌, ◌++◌, refl, zero, suc, ◌&&◌, nat_lt, nat_le, bit_and, length, slice_index, if◌then◌else◌, sym, subst, arith, ⊎_elim, ints, clamps, stored, is_outside, Neither, HasReturned, ParentFits, NextKeeps, InletKeeps, grown, has_one, children_left, Frame, code_at, value_at, value, floor, least, greatest, board, choice_at, own_word, opp_word, may_be_child, frame_of, Change, is_formed, is_placed, seen, found_rest, changes_by, changes_of, returns, is_computed, opening_on, opening_under, first_open, act_by, act_of, parent_in, next_act, inlet_of, inlet_act, Exact, IsBound, IsOfKind, IsTrueRest, IsFirst, IsTest, IsAgain, IsInRole, IsChildOf, IsSearchingFrame, Fits, AreFitting, IsRoot, and_from, eq-eqb, nat_tests, Cell, cells_of, choices, after, entered, Act, InletAct, is_bad_act, length-after, eqb-true, map-append, Functions, ap, ◌∙◌, length-cells_of}
use Rattle.jamboree_rules.proofs.Searching.{search-of, IsSearching-low, IsSearching-higher, le-told, not-le-told, found-true, found-exact, found-passes, entered-none}
use Rattle.jamboree_rules.proofs.Kinship.{taken_in, child-of, in-search, unsettled, scored, inlet-failed, inlet-low, inlet-higher, inlet-first, inlet-cut, first-low, first-exact, again-low, again-exact, test-low, over-beta, parent-kept, HasSameGoal, best_with, has-begun}
use Rattle.jamboree_rules.proofs.Forms.{code-small, IsFrame, IsFormed, formed-told, formed-passes, child-passes, IsInSearch, written}
use Rattle.jamboree_rules.proofs.Steps.{IsAtTests, searching-late, status-count, IsGoodAct, first-good, tests-good, done-good, opening-good, AreTaken, IsGoodHere, IsGoodStore, Lists, frames, good-store, taken}
use Rattle.jamboree_rules.proofs.LeafLemmas.{words-apart, words-hold}

-- the frame after each of the five cases of an inlet
abbrev pub frame_by : (cuts test low higher : Bool) → Frame → Frame → Frame
frame_by true test low higher f c = taken_in f c 4 (seen c) (code_at f c.number) 2
frame_by false true true higher f c = taken_in f c f.phase (best_with f c) f.choice 2
frame_by false true false higher f c = taken_in f c f.phase f.best f.choice 3
frame_by false false low true f c = taken_in f c 3 (best_with f c) (code_at f c.number) 2
frame_by false false low false f c = taken_in f c 3 (best_with f c) f.choice 2

-- the same, from the two frames
abbrev pub frame_after : Frame → Frame → Frame
frame_after f c = frame_by (int_le f.beta (seen c)) (c.role == 2) (int_le (seen c) (neg_ℤ c.beta)) (int_lt (floor f) (seen c)) f c

abbrev pub frames_left : Bool → List Frame → List Frame
frames_left true fs = []
frames_left false fs = fs

-- what the tests tell
lt-told : (x y : ℤ) → true ≡ int_lt x y → x <ℤ y
lt-told x y e = grind (arith, ints)

not-lt-told : (x y : ℤ) → false ≡ int_lt x y → y ≤ℤ x
not-lt-told x y e = grind (arith, ints)

pub test-told : (f c : Frame) → true ≡ (c.role == 2) → IsInRole f c → IsTest f c
test-told f c h3 h4 = grind arith

-- another than a test: the first child or a search again
pub other-told : (f c : Frame) → false ≡ (c.role == 2) → IsInRole f c → IsFirst f c ⊎ IsAgain f c
other-told f c h3 h4 = grind arith

-- a better score of a search in full is exact
first-kind : (f c : Frame) → IsFirst f c → seen c <ℤ f.beta → floor f <ℤ seen c → IsOfKind (found_rest c) Exact
first-kind f c r under over =
    let low : c.alpha ≡ neg_ℤ f.beta = r.low in
    let high : c.beta ≡ neg_ℤ f.alpha = r.high in
    found-exact c (omega (arith, ints, clamps)) (omega (arith, ints))

again-kind : (f c : Frame) → IsAgain f c → seen c <ℤ f.beta → floor f <ℤ seen c → IsOfKind (found_rest c) Exact
again-kind f c r under over =
    let low : c.alpha ≡ neg_ℤ f.beta = r.low in
    let high : c.beta ≡ neg_ℤ (floor f) = r.high in
    found-exact c (omega (arith, ints)) (omega (arith, ints))

-- a score from -INF to INF
pub record IsRanged (f : Frame) : Type 0 where
  pub low : least ≤ℤ f.best
  pub high : f.best ≤ℤ greatest

pub ranged : (f : Frame) → IsFrame f → 1 < f.phase → IsRanged f
ranged f form late = let r = form.late late in record { low = r.0; high = r.1 }

seen-ranged : (c : Frame) → IsRanged c → (least ≤ℤ seen c) × (seen c ≤ℤ greatest)
seen-ranged c r = grind arith

best-ranged : (f c : Frame) → IsRanged f → IsRanged c → (least ≤ℤ best_with f c) × (best_with f c ≤ℤ greatest)
best-ranged f c rf rc = grind (arith, seen-ranged, ints, clamps)

-- what an inlet stores
module _ (f c : Frame) (form : IsFrame f) (before : IsInSearch f) (inside : c.number < f.count) (rf : IsRanged f) (rc : IsRanged c) where
  taken-by : (cuts test low higher : Bool) → AreTaken f (changes_by cuts test low higher f c) f.own f.opp (frame_by cuts test low higher f c)
  taken-by true test low higher =
      let code : code_at f c.number ≤ 64 = code-small f c.number in
      let ends = seen-ranged c rc in
      taken f 4 (code_at f c.number) _ (seen c) _ _ _ form before (omega arith) (omega arith) (omega arith) form.spawned ends.0 ends.1
      (ends.0, (tt, ((omega arith, found-passes c rc.low rc.high), (tt, tt)))) (tt, (tt, (inside, (tt, tt)))) refl
  taken-by false true true higher =
      let ends = best-ranged f c rf rc in
      taken f _ _ _ (best_with f c) _ _ _ form before (searching-late f before) form.phase form.choice form.spawned ends.0 ends.1
      (ends.0, ((omega arith, found-passes c rc.low rc.high), tt)) (tt, (inside, tt)) refl
  taken-by false true false higher =
      taken f _ _ _ _ _ _ _ form before (searching-late f before) form.phase form.choice form.spawned rf.low rf.high
      ((omega arith, found-passes c rc.low rc.high), tt) (inside, tt) refl
  taken-by false false low true =
      let code : code_at f c.number ≤ 64 = code-small f c.number in
      let ends = best-ranged f c rf rc in
      taken f 3 (code_at f c.number) _ (best_with f c) _ _ _ form before (omega arith) (omega arith) (omega arith) form.spawned ends.0 ends.1
      (ends.0, (tt, ((omega arith, found-passes c rc.low rc.high), (tt, tt)))) (tt, (tt, (inside, (tt, tt)))) refl
  taken-by false false low false =
      let ends = best-ranged f c rf rc in
      taken f 3 _ _ (best_with f c) _ _ _ form before (omega arith) (omega arith) form.choice form.spawned ends.0 ends.1
      (ends.0, ((omega arith, found-passes c rc.low rc.high), (tt, tt))) (tt, (inside, (tt, tt))) refl

-- stores that leave the board
abbrev pub IsStoredHere : List ℕ → List Change → Frame → Type 0
IsStoredHere own changes g = IsGoodStore own changes (frame_of own).own (frame_of own).opp g

-- the inlet of a frame for a child of it that has returned
inlet-good : (own : List ℕ) (c : Frame) → IsFormed own → IsFrame c → IsChildOf (frame_of own) c → c.phase ≡ 4 →
    IsStoredHere own (changes_of (frame_of own) c) (frame_after (frame_of own) c)
inlet-good own c form child kin done =
    let f : Frame = frame_of own in
    let phase : IsInSearch f = in-search f c kin.in_role in
    let inside : c.number < f.count = omega (arith, kin.inside, status-count own form) in
    good-store own (changes_of f c) _ _ (frame_after f c) form
    (taken-by f c form.frame phase inside (ranged f form.frame (searching-late f phase)) (ranged c child (omega (arith, done))) _ _ _ _)

-- a child that has returned is taken in
module _ (f c : Frame) (before behind : List Frame) (fits : Fits f (before ++ c ∷ behind) Neither) (returned : Fits c [] HasReturned) (form : IsFrame c) where
  own-child : IsChildOf f c
  own-child = child-of f c before behind fits.kin

  searching : IsSearchingFrame f
  searching = fits.searching (in-search f c own-child.in_role)

  worth : (value_at f c.number ≡ neg_ℤ (value c)) × IsBound c.alpha c.beta c.best (value c)
  worth = scored f c own-child returned

  -- what it says of the child's choice is true
  holds : IsTrueRest (found_rest c) (value_at f c.number)
  holds =
      let r : IsRanged c = ranged c form (omega (arith, returned.marked)) in
      let high : c.best ≤ℤ greatest = r.high in
      found-true c (value_at f c.number) (omega (arith, ints)) worth.1 worth.0

  -- each case keeps that the frame fits
  fits-by : (cuts test low higher : Bool) → cuts ≡ int_le f.beta (seen c) → test ≡ (c.role == 2) → low ≡ int_le (seen c) (neg_ℤ c.beta) →
      higher ≡ int_lt (floor f) (seen c) → Fits (frame_by cuts test low higher f c) (frames_left cuts (before ++ behind)) Neither
  fits-by true test low higher ec et el eh =
      let over : f.beta ≤ℤ seen c = le-told f.beta (seen c) ec in
      inlet-cut f c before behind fits holds over (over-beta f c worth.0 worth.1 fits.window searching.below own-child.in_role over)
  fits-by false true true higher ec et el eh =
      let r : IsTest f c = test-told f c et own-child.in_role in
      let under : seen c ≤ℤ neg_ℤ c.beta = le-told (seen c) (neg_ℤ c.beta) el in
      let most : neg_ℤ c.beta ≤ℤ floor f = r.most in
      subst (λ (p : ℕ). Fits (taken_in f c p (best_with f c) f.choice 2) (before ++ behind) Neither) (sym r.phase)
      (inlet-low f c before behind fits holds (omega (arith, ints)) (test-low f c worth.0 worth.1 under) r.phase)
  fits-by false true false higher ec et el eh = inlet-failed f c before behind fits holds (test-told f c et own-child.in_role)
  fits-by false false low true ec et el eh =
      let under : seen c <ℤ f.beta = not-le-told f.beta (seen c) ec in
      let over : floor f <ℤ seen c = lt-told (floor f) (seen c) eh in
      ⊎_elim
      (λ (r : IsFirst f c). inlet-first f c before behind fits holds (code_at f c.number) r
      (IsSearching-higher (found_rest c) own-child.inside fits.table.places (first-kind f c r under over) over under
      (first-exact f c worth.0 worth.1 r under over) (λ k below. absurd (omega (arith, r.number, below))) (search-of f searching)))
      (λ (r : IsAgain f c). inlet-higher f c before behind fits holds r over under (again-exact f c worth.0 worth.1 r under over) (again-kind f c r under over))
      (other-told f c et own-child.in_role)
  fits-by false false low false ec et el eh =
      let under : seen c <ℤ f.beta = not-le-told f.beta (seen c) ec in
      let small : seen c ≤ℤ floor f = not-lt-told (floor f) (seen c) eh in
      let open_ : slice_index f.statuses c.number ≢ 2 = unsettled f c own-child.in_role in
      ⊎_elim
      (λ (r : IsFirst f c). inlet-first f c before behind fits holds f.choice r
      (IsSearching-low (found_rest c) own-child.inside fits.window open_ small (first-low f c worth.0 worth.1 r under) (search-of f searching)))
      (λ (r : IsAgain f c). inlet-low f c before behind fits holds small (again-low f c worth.0 worth.1 r small) r.phase)
      (other-told f c et own-child.in_role)

  -- and it leaves the frame fitting
  pub inlet-fits : Fits (frame_after f c) (frames_left (int_le f.beta (seen c)) (before ++ behind)) Neither
  inlet-fits = fits-by (int_le f.beta (seen c)) (c.role == 2) (int_le (seen c) (neg_ℤ c.beta)) (int_lt (floor f) (seen c)) refl refl refl refl

-- The laws of Jamboree as a procedure: frames stay fitting, whatever the order of spawns, steals, inlets and aborts.

-- ---- a frame among its parent's children

module _ (parent own : List ℕ) (older younger : Lists) (fits : AreFitting parent (older ++ own ∷ younger) Neither) where
  fits-among : Fits (frame_of parent) (frames older ++ frame_of own ∷ frames younger) Neither
  fits-among = subst (λ (fs : List Frame). Fits (frame_of parent) fs Neither) (map-append frame_of older (own ∷ younger)) fits.frame

  pub kin-of : IsChildOf (frame_of parent) (frame_of own)
  kin-of = child-of (frame_of parent) (frame_of own) (frames older) (frames younger) fits-among.kin

  -- its words changed to those of the same goal
  parent-one : (own' : List ℕ) → HasSameGoal (frame_of own) (frame_of own') →
      cells_of (frame_of own').own (frame_of own').opp ≡ after (board (frame_of parent)) (choice_at (frame_of parent) (frame_of own).number) →
      AreFitting parent (older ++ own' ∷ younger) Neither
  parent-one own' same known = record {
    formed = fits.formed;
    frame = subst (λ (fs : List Frame). Fits (frame_of parent) fs Neither) (sym (map-append frame_of older (own' ∷ younger)))
        (parent-kept (frame_of parent) (frame_of own) (frame_of own') same (λ _. known) (frames older) (frames younger) fits-among);
  }

-- what stands above a frame fits; above a root stands nothing, and it belongs to the words that it was submitted with
abbrev pub StandsUnder : List ℕ → (above older younger : Lists) → List ℕ → Type 0
StandsUnder origin above older younger own = ParentFits AreFitting IsRoot origin above (older, younger) own

-- the board of a frame of these words, as those above it say: a root keeps its own, a child has the one after its choice
abbrev pub IsBoardOf : Lists → Frame → ℕ → ℕ → Type 0
IsBoardOf [] f o p = (o ≡ f.own) × (p ≡ f.opp)
IsBoardOf (parent ∷ above) f o p = cells_of o p ≡ after (board (frame_of parent)) (choice_at (frame_of parent) f.number)

-- what stands above a frame fits after its words changed to ones of the same goal, and of the board that those above it say
above-kept : (origin own own' : List ℕ) (above older younger : Lists) → StandsUnder origin above older younger own →
    HasSameGoal (frame_of own) (frame_of own') → IsBoardOf above (frame_of own) (frame_of own').own (frame_of own').opp →
    StandsUnder origin above older younger own'
above-kept origin own own' above older younger h7 h8 h9 = grind (arith, parent-one)

-- the board that a frame knows is the one that those above it say
known-board : (origin own : List ℕ) (above older younger : Lists) → StandsUnder origin above older younger own → (frame_of own).phase ≢ 0 →
    IsBoardOf above (frame_of own) (frame_of own).own (frame_of own).opp
known-board origin own [] older younger root known = (refl, refl)
known-board origin own (parent ∷ above) older younger fits known = (kin-of parent own older younger fits).known known

-- a child has a role, and a number that is one of its parent's choices
role-there : (f c : Frame) → IsInRole f c → 0 < c.role
role-there f c h3 = grind arith

child-may : (parent : List ℕ) (c : Frame) {children : List Frame} → IsFormed parent → Fits (frame_of parent) children Neither → IsChildOf (frame_of parent) c →
    may_be_child (frame_of parent) c ≡ true
child-may parent c form fits kin =
    let q : Frame = frame_of parent in
    let places = (fits.searching (in-search q c kin.in_role)).places in
    child-passes q c (role-there q c kin.in_role) (omega (arith, kin.inside, status-count parent form)) (omega (arith, kin.inside, places))

-- so it stands where its role says
pub placed : (origin own : List ℕ) (above older younger : Lists) → StandsUnder origin above older younger own → is_placed own above ≡ true
placed origin own [] older younger root = eq-eqb (frame_of own).role 0 root.role_is
placed origin own (parent ∷ above) older younger fits =
    and_from (is_formed parent) (may_be_child (frame_of parent) (frame_of own)) fits.formed
    (child-may parent (frame_of own) (formed-told parent fits.formed) fits.frame (kin-of parent own older younger fits))

-- ---- the next act

pub isn't-told : (n k : ℕ) → false ≡ (n == k) → n ≢ k
isn't-told n k e = λ h. absurd (grind (arith, nat_tests, h))

pub last-phase : (n : ℕ) → n ≤ 4 → false ≡ (n == 0) → false ≡ (n == 2) → false ≡ (n == 3) → n ≢ 1 → n ≡ 4
last-phase n h1 h2 h3 h4 h5 = grind arith

open-settled-zero : (s : ℕ) (st : List ℕ) → 0 < first_open (s ∷ st) → s ≡ 2
open-settled-zero s st below = grind (arith, nat_tests)

open-settled-suc : (s : ℕ) (st : List ℕ) (k : ℕ) → suc k < first_open (s ∷ st) → k < first_open st
open-settled-suc s st k below = grind (arith, nat_tests)

open-settled : (st : List ℕ) (k : ℕ) → k < first_open st → slice_index st k ≡ 2
open-settled [] k below = absurd (omega arith)
open-settled (s ∷ st) zero below = open-settled-zero s st below
open-settled (s ∷ st) (suc k) below = open-settled st k (open-settled-suc s st k below)

open-inside : (st : List ℕ) → first_open st ≤ length st
open-inside [] = omega arith
open-inside (s ∷ st) = let rest : first_open st ≤ length st = open-inside st in grind (arith, nat_tests, rest)

pub computed-told : (grain depth n : ℕ) → (nat_le depth grain || (n == 0)) ≡ false → (0 < depth) × (0 < n)
computed-told grain depth n e = (grind (arith, nat_tests), grind (arith, nat_tests))

-- an act that can be done and leaves the frame fitting, with the board that those above it say
abbrev pub Goes : List ℕ → (above children : Lists) → Act → Type 0
Goes own above children act = (o : ℕ) × (p : ℕ) × IsGoodAct own children o p act × IsBoardOf above (frame_of own) o p

-- a root has no grain
over-told : (depth n : ℕ) → (nat_le depth 0 || (n == 0)) ≡ true → (depth ≡ 0) ⊎ (n ≡ 0)
over-told depth n h1 = grind arith

root-over : (f : Frame) (b : List Cell) → is_computed 0 f b ≡ true → length (entered f.depth b) ≡ 0
root-over f b e = entered-none f.depth b (over-told f.depth (length (choices b)) e)

-- the first act
module _ (own : List ℕ) (children : Lists) (phase : (frame_of own).phase ≡ 0) (form : IsFormed own) (fits : Fits (frame_of own) (frames children) Neither) where
  abbrev new : Frame
  new = frame_of own

  opening-goes : (grain : ℕ) (above : Lists) (o p : ℕ) → bit_and o p ≡ 0 →
      (is_computed grain new (cells_of o p) ≡ true → new.role ≡ 0 → length (entered new.depth (cells_of o p)) ≡ 0) → IsBoardOf above new o p →
      Goes own above children (opening_on grain new o p)
  opening-goes grain above o p apart over words =
      let told = computed-told grain new.depth (length (choices (cells_of o p))) in
      let act = opening-good own children o p apart phase form fits _ told over in (o, p, act, words)

  opens : (grain : ℕ) (origin : List ℕ) (above older younger : Lists) → StandsUnder origin above older younger own →
      Goes own above children (opening_under grain new (parent_in above))
  opens grain origin [] older younger root = opening-goes 0 [] new.own new.opp form.frame.leaf.disjoint (λ e _. root-over new (board new) e) (refl, refl)
  opens grain origin (parent ∷ above) older younger fit =
      let q : Frame = frame_of parent in
      let b : List Cell = after (board q) (choice_at q new.number) in
      let kin : IsChildOf q new = kin-of parent own older younger fit in
      let there = role-there q new kin.in_role in
      opening-goes grain (parent ∷ above) (own_word b) (opp_word b) (words-apart b) (λ _ (root : new.role ≡ 0). absurd (omega arith))
      (words-hold b (length-after (board q) (choice_at q new.number) (length-cells_of q.own q.opp)))

pub chosen-act : (formed placed : Bool) (act other : Act) → formed ≡ true → placed ≡ true → act ≡ (if formed && placed then act else other)
chosen-act formed placed act other ef ep = rw (ef, ep) refl

-- the next act of a frame that fits, under what fits
module _ (grain : ℕ) (origin own : List ℕ) (above older younger children : Lists) (fits : AreFitting own children Neither)
    (parent : StandsUnder origin above older younger own) where
  abbrev this : Frame
  this = frame_of own

  form : IsFormed own
  form = formed-told own fits.formed

  -- an act that leaves a board that is known
  goes-here : (act : Act) → false ≡ (this.phase == 0) → IsGoodHere own children act → Goes own above children act
  goes-here act known good = (this.own, this.opp, good, known-board origin own above older younger parent (isn't-told this.phase 0 known))

  act-goes : (p0 p1 p2 p3 : Bool) → p0 ≡ (this.phase == 0) → p1 ≡ (this.phase == 1) → p2 ≡ (this.phase == 2) → p3 ≡ (this.phase == 3) →
      Goes own above children (act_by p0 p1 p2 p3 (grain, parent_in above) this)
  act-goes true p1 p2 p3 e0 e1 e2 e3 = opens own children (eqb-true _ _ (sym e0)) form fits.frame grain origin above older younger parent
  act-goes false true p2 p3 e0 e1 e2 e3 = absurd (fits.frame.marked (eqb-true this.phase 1 (sym e1)))
  act-goes false false true p3 e0 e1 e2 e3 = goes-here _ e0 (first-good own children form fits.frame (this.spawned == 0) refl (eqb-true this.phase 2 (sym e2)))
  act-goes false false false true e0 e1 e2 e3 =
      let st : List ℕ = this.statuses in
      let n : ℕ = first_open st in
      let at : IsAtTests this n = record { settled = open-settled st; inside = open-inside st } in
      goes-here _ e0 (tests-good own children form fits.frame (nat_lt n (length st) && (slice_index st n == 3)) (nat_lt this.spawned (length st))
      (nat_le (length st) n) n at refl refl refl (eqb-true this.phase 3 (sym e3)))
  act-goes false false false false e0 e1 e2 e3 =
      goes-here returns e0 (done-good own children form fits.frame (last-phase this.phase form.frame.phase e0 e2 e3 fits.frame.marked))

  pub next-goes : Goes own above children (next_act grain (own ∷ above))
  next-goes =
      let chosen = chosen-act _ _ (act_of grain this (parent_in above)) returns fits.formed (placed origin own above older younger parent) in
      subst (λ (act : Act). Goes own above children act) chosen (act-goes _ _ _ _ refl refl refl refl)

  -- it can be done
  pub next-possible : is_bad_act own (has_one children) (next_act grain (own ∷ above)) ≡ false
  next-possible = next-goes.2.good

-- Advance keeps that frames fit
pub next-keeps : {I A : Type 0} (functions : Functions I A) (grain : ℕ) → functions.next ≡ next_act grain → NextKeeps functions AreFitting IsRoot
next-keeps functions grain is origin own above older younger children fits parent all_fit done =
    let goes = next-goes grain origin own above older younger children fits parent in
    let act : Act = next_act grain (own ∷ above) in
    let after : List ℕ = grown act.after (stored act.stores own) in
    let board : IsBoardOf above (frame_of own) goes.0 (frame_of after).opp =
    subst (λ (p : ℕ). IsBoardOf above (frame_of own) goes.0 p) (sym goes.2.opp_is) goes.3 in
    rw is (
      record { formed = formed-passes after goes.2.formed; frame = goes.2.fits },
      above-kept origin own after above older younger parent goes.2.goal
          (subst (λ (o : ℕ). IsBoardOf above (frame_of own) o (frame_of after).opp) (sym goes.2.own_is) board),
      goes.2.child,
    )

-- ---- the inlet

chosen-inlet : (own child may : Bool) (act other : InletAct) → own ≡ true → child ≡ true → may ≡ true → act ≡ (if own && (child && may) then act else other)
chosen-inlet own child may act other eo ec em = rw (eo, ec, em) refl

left-joined : (cuts : Bool) (before behind : Lists) → frames (children_left cuts (before ++ behind)) ≡ frames_left cuts (frames before ++ frames behind)
left-joined cuts before behind = grind (arith, map-append)

-- a frame fits with these children, and so does what stands above it
abbrev pub FitsUnder : List ℕ → (above older younger children : Lists) → List ℕ → Type 0
FitsUnder origin above older younger children own = AreFitting own children Neither × StandsUnder origin above older younger own

-- what stands above a frame that knows its board fits after stores that leave its goal and its board
pub store-above : (origin own : List ℕ) (changes : List Change) (g : Frame) (above older younger : Lists) → IsStoredHere own changes g →
    (frame_of own).phase ≢ 0 → StandsUnder origin above older younger own → StandsUnder origin above older younger (written changes own)
store-above origin own changes g above older younger s known parent =
    let P : Frame → Type 0 = λ h. HasSameGoal (frame_of own) h × IsBoardOf above (frame_of own) h.own h.opp in
    let both = subst P (sym s.is) (s.goal, rw (s.own_is, s.opp_is) (known-board origin own above older younger parent known)) in
    above-kept origin own (written changes own) above older younger parent both.0 both.1

-- the inlet of words that fit for those of a child that has returned is that of the frames in them
module _ (own child : List ℕ) (before behind : Lists) (fits : AreFitting own (before ++ child ∷ behind) Neither)
    (returned : AreFitting child [] HasReturned) where
  abbrev f : Frame
  f = frame_of own

  abbrev c : Frame
  c = frame_of child

  role : IsInRole f c
  role = (kin-of own child before behind fits).in_role

  pub inlet-is : inlet_of f c ≡ inlet_act own child
  inlet-is =
      let may = child-may own c (formed-told own fits.formed) fits.frame (kin-of own child before behind fits) in
      chosen-inlet _ _ _ (inlet_of f c) (record { stores = []; abort = false; wake = true }) fits.formed returned.formed may

  pub inlet-stores : IsStoredHere own (changes_of f c) (frame_after f c)
  inlet-stores =
      inlet-good own c (formed-told own fits.formed) (formed-told child returned.formed).frame (kin-of own child before behind fits) returned.frame.marked

  -- the stores of the inlet can be done
  pub inlet-possible : is_outside (inlet_act own child).stores own ≡ false
  inlet-possible = subst (λ (act : InletAct). is_outside act.stores own ≡ false) inlet-is inlet-stores.good

  -- what an inlet of the frames leaves
  inlet-leaves : (origin : List ℕ) (above older younger : Lists) → StandsUnder origin above older younger own →
      FitsUnder origin above older younger (children_left (int_le f.beta (seen c)) (before ++ behind)) (written (changes_of f c) own)
  inlet-leaves origin above older younger parent =
      let s = inlet-stores in
      let among = fits-among own child before behind fits in
      let left = inlet-fits f c (frames before) (frames behind) among returned.frame (formed-told child returned.formed).frame in
      let cuts : Bool = int_le f.beta (seen c) in (
        record {
          formed = formed-passes (written (changes_of f c) own) s.formed;
          frame = subst (λ (g : Frame). Fits g (frames (children_left cuts (before ++ behind))) Neither) (sym s.is)
              (subst (λ (fs : List Frame). Fits (frame_after f c) fs Neither) (sym (left-joined cuts before behind)) left);
        },
        store-above origin own (changes_of f c) (frame_after f c) above older younger s (has-begun f c role) parent,
      )

-- Inlet keeps that frames fit, also after an abort
pub inlet-keeps : {I A : Type 0} (functions : Functions I A) → functions.inlet ≡ inlet_act → InletKeeps functions AreFitting IsRoot
inlet-keeps functions is origin own child above older younger before behind fits parent all_before returned all_behind inside =
    subst (λ (act : InletAct). FitsUnder origin above older younger (children_left act.abort (before ++ behind)) (stored act.stores own))
    (inlet-is own child before behind fits returned ∙ ap (λ (i : List ℕ → List ℕ → InletAct). i own child) (sym is))
    (inlet-leaves own child before behind fits returned origin above older younger parent)
