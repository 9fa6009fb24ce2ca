-- The next act of a right frame of the search, case by case.
use Rattle.jamboree_rules.proofs.Common.{◌≡◌, ◌≢◌, ℕ, ◌<◌, ◌==◌, ◌&&◌, nat_lt, nat_le, suc, ◌≤◌, Bool, true, false, List, [], ◌∷◌, length, refl, slice_index, sym, subst, arith, inl, inr, eqb-true, ltb-true, nat_tests, Cell, cells_of, choices, after, Act, Wait, Neither, Frame, board, choice_at, own_word, opp_word, frame_of, returns, is_computed, opening, opening_on, opening_under, first_search, tests, first_open, act_by, act_of, parent_in, next_act, AreFitting, length-after, length-cells_of}
use Rattle.jamboree_rules.proofs.Forms.{formed-told}
use Rattle.jamboree_rules.proofs.Steps.{Lists, failed-told}
use Rattle.jamboree_rules.proofs.LeafLemmas.{words-hold}
use Rattle.jamboree_rules.proofs.Keeping.{StandsUnder, IsBoardOf, placed, isn't-told, last-phase, computed-told, chosen-act}
use Rattle.std.proofs.lemmas.Bool.{cases_Bool}

-- P holds of each act that the frame in these words, which fits, may do next
pub record HoldsOfActs (grain : ℕ) (own : List ℕ) (above : Lists) (P : Act → Type 0) : Type 0 where
  pub at_computed : (o p n : ℕ) → (frame_of own).phase ≡ 0 → P (opening true o p n)
  pub at_opened : (o p : ℕ) → (frame_of own).phase ≡ 0 → IsBoardOf above (frame_of own) o p → 0 < (frame_of own).depth → (above ≢ [] → grain < (frame_of own).depth) →
      P (opening false o p (length (choices (cells_of o p))))
  pub at_first : (frame_of own).phase ≡ 2 → (frame_of own).spawned ≡ 0 → P (first_search true (frame_of own))
  pub at_again : (j : ℕ) → (frame_of own).phase ≡ 3 → j < length (frame_of own).statuses → slice_index (frame_of own).statuses j ≡ 3 → P (tests true true true (frame_of own) j)
  pub at_test : (frame_of own).phase ≡ 3 → (frame_of own).spawned < length (frame_of own).statuses → P (tests false true true (frame_of own) 0)
  pub at_settled : (frame_of own).phase ≡ 3 → P (tests false false true (frame_of own) 0)
  pub at_first_wait : (frame_of own).phase ≡ 2 → (frame_of own).spawned ≢ 0 → P (record { stores = []; after = Wait })
  pub at_tests_wait : (j : ℕ) → (frame_of own).phase ≡ 3 → j < length (frame_of own).statuses → slice_index (frame_of own).statuses j ≢ 2 →
      slice_index (frame_of own).statuses j ≢ 3 → length (frame_of own).statuses ≤ (frame_of own).spawned → P (record { stores = []; after = Wait })
  pub at_done : (frame_of own).phase ≡ 4 → P returns

-- the first choice that isn't settled
open-unsettled : (st : List ℕ) → first_open st < length st → slice_index st (first_open st) ≢ 2
open-unsettled [] inside = absurd (omega arith)
open-unsettled (s ∷ st) inside = elim (cases_Bool (s == 2)) [
  | inl settled ↦ rw settled (open-unsettled st (let less : suc (first_open st) < suc (length st) = rw settled at inside in omega arith))
  | inr other ↦ rw other (isn't-told s 2 (sym other))
]

-- what the tests tell
below-told : (n j : ℕ) → false ≡ nat_le n j → j < n
below-told n j e = grind (arith, nat_tests)

above-told : (m n : ℕ) → false ≡ nat_lt m n → n ≤ m
above-told m n e = grind (arith, nat_tests)

not-failed : (j n s : ℕ) → false ≡ (nat_lt j n && (s == 3)) → j < n → s ≢ 3
not-failed j n s e inside = λ is. grind (arith, nat_tests)

module _ (grain : ℕ) (origin own : List ℕ) (above older younger children : Lists) (fits : AreFitting own children Neither)
    (parent : StandsUnder origin above older younger own) (P : Act → Type 0) (each : HoldsOfActs grain own above P) where
  abbrev this : Frame
  this = frame_of own

  deeper : (g o p : ℕ) → is_computed g this (cells_of o p) ≡ false → g < this.depth
  deeper g o p is = grind (arith, nat_tests)

  opening-case : (g o p : ℕ) → this.phase ≡ 0 → IsBoardOf above this o p → (g < this.depth → above ≢ [] → grain < this.depth) → P (opening_on g this o p)
  opening-case g o p phase board deep = elim (cases_Bool (is_computed g this (cells_of o p))) [
    | inl computed ↦ rw computed (each.at_computed o p (length (choices (cells_of o p))) phase)
    | inr opened ↦ (let d = deeper g o p opened in
        rw opened (each.at_opened o p phase board (computed-told g this.depth (length (choices (cells_of o p))) opened).0 (deep d)))
  ]

  tests-case : (failed more all : Bool) (j : ℕ) → failed ≡ (nat_lt j (length this.statuses) && (slice_index this.statuses j == 3)) →
      more ≡ nat_lt this.spawned (length this.statuses) → all ≡ nat_le (length this.statuses) j → (j < length this.statuses → slice_index this.statuses j ≢ 2) →
      this.phase ≡ 3 → P (tests failed more all this j)
  tests-case true more all j ef em ea open_ phase = let told = failed-told j (length this.statuses) (slice_index this.statuses j) ef in each.at_again j phase told.0 told.1
  tests-case false true all j ef em ea open_ phase = each.at_test phase (ltb-true this.spawned (length this.statuses) (sym em))
  tests-case false false true j ef em ea open_ phase = each.at_settled phase
  tests-case false false false j ef em ea open_ phase =
      let inside : j < length this.statuses = below-told (length this.statuses) j ea in
      let far : length this.statuses ≤ this.spawned = above-told this.spawned (length this.statuses) em in
      each.at_tests_wait j phase inside (open_ inside) (not-failed j (length this.statuses) (slice_index this.statuses j) ef inside) far

  first-case : (none : Bool) → none ≡ (this.spawned == 0) → this.phase ≡ 2 → P (first_search none this)
  first-case true e phase = each.at_first phase (eqb-true this.spawned 0 (sym e))
  first-case false e phase = each.at_first_wait phase (isn't-told this.spawned 0 e)

-- by its phase
module _ (grain : ℕ) (origin own : List ℕ) (older younger children : Lists) (fits : AreFitting own children Neither) (P : Act → Type 0) where
  opens-case : (above : Lists) → StandsUnder origin above older younger own → HoldsOfActs grain own above P → (frame_of own).phase ≡ 0 →
      P (opening_under grain (frame_of own) (parent_in above))
  opens-case [] root each phase = opening-case grain origin own [] older younger children fits root P each 0 (frame_of own).own (frame_of own).opp phase (refl, refl)
      (λ deep none. absurd (none refl))
  opens-case (q ∷ above) under each phase =
      let f : Frame = frame_of q in
      let b : List Cell = after (board f) (choice_at f (frame_of own).number) in
      opening-case grain origin own (q ∷ above) older younger children fits under P each grain (own_word b) (opp_word b) phase
      (words-hold b (length-after (board f) (choice_at f (frame_of own).number) (length-cells_of f.own f.opp))) (λ deep some. deep)

  pub by-acts : (above : Lists) → StandsUnder origin above older younger own → HoldsOfActs grain own above P → P (next_act grain (own ∷ above))
  by-acts above parent each =
      subst P (chosen-act _ _ (act_of grain (frame_of own) (parent_in above)) returns fits.formed (placed origin own above older younger parent))
      (phases _ _ _ _ refl refl refl refl)
    where
      phases : (p0 p1 p2 p3 : Bool) → p0 ≡ ((frame_of own).phase == 0) → p1 ≡ ((frame_of own).phase == 1) → p2 ≡ ((frame_of own).phase == 2) → p3 ≡ ((frame_of own).phase == 3) →
          P (act_by p0 p1 p2 p3 (grain, parent_in above) (frame_of own))
      phases true p1 p2 p3 e0 e1 e2 e3 = opens-case above parent each (eqb-true _ _ (sym e0))
      phases false true p2 p3 e0 e1 e2 e3 = absurd (fits.frame.marked (eqb-true (frame_of own).phase 1 (sym e1)))
      phases false false true p3 e0 e1 e2 e3 =
          first-case grain origin own above older younger children fits parent P each ((frame_of own).spawned == 0) refl (eqb-true (frame_of own).phase 2 (sym e2))
      phases false false false true e0 e1 e2 e3 =
          let st : List ℕ = (frame_of own).statuses in
          let j : ℕ = first_open st in
          tests-case grain origin own above older younger children fits parent P each (nat_lt j (length st) && (slice_index st j == 3)) (nat_lt (frame_of own).spawned (length st))
          (nat_le (length st) j) j refl refl refl (open-unsettled st) (eqb-true (frame_of own).phase 3 (sym e3))
      phases false false false false e0 e1 e2 e3 =
          each.at_done (last-phase (frame_of own).phase (formed-told own fits.formed).frame.phase e0 e2 e3 fits.frame.marked)
