-- The turns of a serial search that takes the choices of a position in another order than the rules', over any choices
-- and what each is worth.
use Rattle.leaf_search.proofs.Common.{append-nil, append_assoc, ◌≡◌, ◌<◌, ◌≤◌, ◌+◌, length, ℕ, suc, ℤ, pos, negsuc, neg_ℤ, ◌+ℤ◌, List, [], ◌∷◌, ◌++◌, map, Option, Some, refl, sym, ◌∙◌, ap, subst, arith, find, ◌≤ℤ◌, ◌<ℤ◌, IfSome, All, Contains, Bool, IsTrue, int_max, ints, clamps, by_lt_z, All-nil, All-cons, All-head, All-tail, All-push, All-weaker, All-contains, All-permutation, IsPermutation, IsPermutation-sym, Contains-append_right, length-append, length_permutation, numbered, greatest_or, int_equal, IsBound, IsWithin, find-new, greatest_or-upper, greatest_or-lower}
use Rattle.leaf_search.proofs.WindowLemmas.{IsChild, child-under, child-over, child-exact, cut-bound}

-- ---- elements with their places

pub length-numbered : {X : Type 0} (k : ℕ) (xs : List X) → length (numbered k xs) ≡ length xs
length-numbered k [] = refl
length-numbered k (x ∷ xs) = ap suc (length-numbered (suc k) xs)

pub numbered-push : {X : Type 0} (k : ℕ) (xs : List X) (x : X) → numbered k (xs ++ x ∷ []) ≡ numbered k xs ++ (k + length xs, x) ∷ []
numbered-push k [] x = ap (λ n. (n, x) ∷ []) (omega arith)
numbered-push k (y ∷ xs) x =
    ap (λ l. (k, y) ∷ l) (numbered-push (suc k) xs x ∙ ap (λ n. numbered (suc k) xs ++ (n, x) ∷ []) (omega arith))

-- an element stands in a list at this place
pub record IsAt {X : Type 0} (xs : List X) (place : ℕ) (x : X) : Type 0 where
  pub before : List X
  pub later : List X
  pub split : before ++ x ∷ later ≡ xs
  pub place_is : length before ≡ place

module _ {X : Type 0} where
  abbrev IsNumberedAt : List X → ℕ × X → Type 0
  IsNumberedAt xs t = IsAt xs t.0 t.1

  pub IsAt-contained : {xs : List X} {place : ℕ} {x : X} → IsAt xs place x → Contains xs x
  IsAt-contained {x = x} at = subst (λ l. Contains l x) at.split (Contains-append_right at.before (x ∷ at.later) x (0, omega arith, refl))

  numbered-at-from : (all before xs : List X) (k : ℕ) → before ++ xs ≡ all → length before ≡ k → All (IsNumberedAt all) (numbered k xs)
  numbered-at-from all before [] k split count = All-nil (IsNumberedAt all)
  numbered-at-from all before (x ∷ xs) k split count =
      All-cons (IsNumberedAt all) (k, x) (numbered (suc k) xs) (record { before = before; later = xs; split = split; place_is = count })
      (numbered-at-from all (before ++ x ∷ []) xs (suc k) (append_assoc before (x ∷ []) xs ∙ split) (omega (arith, length-append before (x ∷ []))))

  -- each stands at its place
  numbered-at : (xs : List X) → All (IsNumberedAt xs) (numbered 0 xs)
  numbered-at xs = numbered-at-from xs [] xs 0 refl refl

  -- what holds of all of them with their places, and of those before a place
  numbered-all : (Q : X → Type 0) (k : ℕ) (xs : List X) → All (λ (t : ℕ × X). Q t.1) (numbered k xs) → All Q xs
  numbered-all Q k [] all = All-nil Q
  numbered-all Q k (x ∷ xs) all =
      All-cons Q x xs (All-head (λ (t : ℕ × X). Q t.1) (k, x) (numbered (suc k) xs) all)
      (numbered-all Q (suc k) xs (All-tail (λ (t : ℕ × X). Q t.1) (k, x) (numbered (suc k) xs) all))

  numbered-before : (Q : X → Type 0) (k place : ℕ) (before rest : List X) → k + length before ≤ place →
      All (λ (t : ℕ × X). t.0 < place → Q t.1) (numbered k (before ++ rest)) → All Q before
  numbered-before Q k place [] rest under all = All-nil Q
  numbered-before Q k place (x ∷ before) rest under all =
      All-cons Q x before (All-head (λ (t : ℕ × X). t.0 < place → Q t.1) (k, x) (numbered (suc k) (before ++ rest)) all (omega arith))
      (numbered-before Q (suc k) place before rest (omega arith) (All-tail (λ (t : ℕ × X). t.0 < place → Q t.1) (k, x) (numbered (suc k) (before ++ rest)) all))

-- ---- one choice more

-- this choice, at this place, is worth the best score
pub record Attains {X : Type 0} (v : X → ℤ) (xs : List X) (best : ℤ) (choice : Option X) (place : ℕ) : Type 0 where
  pub element : X
  pub is : choice ≡ Some element
  pub at : IsAt xs place element
  pub worth : v element ≡ best

-- what is known once these choices were searched, none of which ended the search: no value is above the best score; where
-- that is above alpha, the choice attains it; and where the first best choice is wanted, none at an earlier place does
pub record IsBestRanked {X : Type 0} (alpha : ℤ) (first : Bool) (v : X → ℤ) (xs : List X) (taken : List (ℕ × X)) (best : ℤ) (choice : Option X) (place : ℕ) : Type 0 where
  pub above : All (λ (t : ℕ × X). v t.1 ≤ℤ best) taken
  pub attained : alpha <ℤ best → Attains v xs best choice place
  pub earliest : IsTrue first → alpha <ℤ best → All (λ (t : ℕ × X). t.0 < place → v t.1 <ℤ best) taken

-- the score that a choice at place p has to exceed
pub record IsFloor (first : Bool) (best : ℤ) (place p : ℕ) (floor : ℤ) : Type 0 where
  pub most : floor ≤ℤ best
  pub least : best ≤ℤ (floor +ℤ pos 1)
  pub earlier : IsTrue first → p < place → floor <ℤ best
  pub only : floor <ℤ best → IsTrue first × (p < place)

-- the best after a child's score was taken in, which was searched from the score `low` on
pub record IsRankedIn {X : Type 0} (best low score : ℤ) (choice : Option X) (place : ℕ) (c : X) (p : ℕ) (new_best : ℤ) (new_choice : Option X) (new_place : ℕ) : Type 0 where
  pub greater : new_best ≡ int_max best (neg_ℤ score)
  pub better : best <ℤ neg_ℤ score → (new_choice ≡ Some c) × (new_place ≡ p)
  pub above : low <ℤ neg_ℤ score → (new_choice ≡ Some c) × (new_place ≡ p)
  pub kept : neg_ℤ score ≤ℤ best → neg_ℤ score ≤ℤ low → (new_choice ≡ choice) × (new_place ≡ place)

-- where the search was through a window that ends at `beta`, seen by the opponent
pub ranked-in : {X : Type 0} {best low score beta : ℤ} {choice : Option X} {place : ℕ} {c : X} {p : ℕ} {new_best : ℤ} {new_choice : Option X} {new_place : ℕ} → beta ≡ neg_ℤ low →
    new_best ≡ int_max best (neg_ℤ score) → (best <ℤ neg_ℤ score → (new_choice ≡ Some c) × (new_place ≡ p)) →
    (neg_ℤ beta <ℤ neg_ℤ score → (new_choice ≡ Some c) × (new_place ≡ p)) →
    (neg_ℤ score ≤ℤ best → neg_ℤ score ≤ℤ neg_ℤ beta → (new_choice ≡ choice) × (new_place ≡ place)) →
    IsRankedIn best low score choice place c p new_best new_choice new_place
ranked-in end greater better above kept = record {
  greater = greater;
  better = better;
  above = λ higher. above (omega (arith, ints));
  kept = λ no_better no_higher. kept no_better (omega (arith, ints));
}

module _ {X : Type 0} {alpha beta : ℤ} {first : Bool} {v : X → ℤ} {xs : List X} {taken : List (ℕ × X)} {best : ℤ} {choice : Option X} {place : ℕ}
    (so_far : IsBestRanked alpha first v xs taken best choice place) {p : ℕ} {c : X} (at : IsAt xs p c) {floor score : ℤ}
    (child : IsChild v beta (int_max alpha floor) c score) (from : IsFloor first best place p floor) where
  abbrev more : ℤ → Option X → ℕ → Type 0
  more new_best new_choice new_place = IsBestRanked alpha first v xs (taken ++ (p, c) ∷ []) new_best new_choice new_place

  above-ranked : (new : ℤ) → best ≤ℤ new → v c ≤ℤ new → All (λ (t : ℕ × X). v t.1 ≤ℤ new) (taken ++ (p, c) ∷ [])
  above-ranked new no_less under =
      All-push (λ (t : ℕ × X). v t.1 ≤ℤ new) taken (p, c)
      (All-weaker (λ (t : ℕ × X). v t.1 ≤ℤ best) (λ (t : ℕ × X). v t.1 ≤ℤ new) (λ t (below : v t.1 ≤ℤ best). omega (arith, ints)) taken so_far.above)
      under

  -- a better score, whether or not it is above alpha
  ranked-better : best <ℤ neg_ℤ score → neg_ℤ score <ℤ beta → more (neg_ℤ score) (Some c) p
  ranked-better better below =
      let exact : int_max alpha floor <ℤ neg_ℤ score → v c ≡ neg_ℤ score = λ higher. child-exact child higher below in
      record {
        above = above-ranked (neg_ℤ score) (omega (arith, ints))
            (by_lt_z (int_max alpha floor) (neg_ℤ score) (λ higher. let same = exact higher in omega (arith, ints)) (λ under. child-under child under));
        attained = λ higher. record { element = c; is = refl; at = at; worth = exact (omega (arith, ints, clamps, from.most)) };
        earliest = λ wanted higher.
            All-push (λ (t : ℕ × X). t.0 < p → v t.1 <ℤ neg_ℤ score) taken (p, c)
            (All-weaker (λ (t : ℕ × X). v t.1 ≤ℤ best) (λ (t : ℕ × X). t.0 < p → v t.1 <ℤ neg_ℤ score) (λ t (below : v t.1 ≤ℤ best) _. omega (arith, ints)) taken so_far.above)
            (λ before. absurd (omega arith));
      }

  -- a tie at an earlier place
  ranked-tie : neg_ℤ score ≤ℤ best → int_max alpha floor <ℤ neg_ℤ score → neg_ℤ score <ℤ beta → more best (Some c) p
  ranked-tie no_better higher below =
      let same : v c ≡ neg_ℤ score = child-exact child higher below in
      let ties : v c ≡ best = omega (arith, ints, clamps, from.least) in
      let earlier : p < place = (from.only (omega (arith, ints, clamps))).1 in
      record {
        above = above-ranked best (omega (arith, ints)) (omega (arith, ints));
        attained = λ _. record { element = c; is = refl; at = at; worth = ties };
        earliest = λ wanted up.
            All-push (λ (t : ℕ × X). t.0 < p → v t.1 <ℤ best) taken (p, c)
            (All-weaker (λ (t : ℕ × X). t.0 < place → v t.1 <ℤ best) (λ (t : ℕ × X). t.0 < p → v t.1 <ℤ best)
            (λ t (below : t.0 < place → v t.1 <ℤ best) before. below (omega arith)) taken (so_far.earliest wanted up))
            (λ before. absurd (omega arith));
      }

  -- no better
  ranked-kept : neg_ℤ score ≤ℤ best → neg_ℤ score ≤ℤ int_max alpha floor → more best choice place
  ranked-kept no_better no_higher =
      let under : v c ≤ℤ neg_ℤ score = child-under child no_higher in
      record {
        above = above-ranked best (omega (arith, ints)) (omega (arith, ints));
        attained = so_far.attained;
        earliest = λ wanted up.
            All-push (λ (t : ℕ × X). t.0 < place → v t.1 <ℤ best) taken (p, c) (so_far.earliest wanted up)
            (λ before. let less : floor <ℤ best = from.earlier wanted before in omega (arith, ints, clamps));
      }

  pub IsBestRanked-turn : {new_best : ℤ} {new_choice : Option X} {new_place : ℕ} →
      IsRankedIn best (int_max alpha floor) score choice place c p new_best new_choice new_place → new_best <ℤ beta → more new_best new_choice new_place
  IsBestRanked-turn {new_best} {new_choice} {new_place} turn new_below =
      by_lt_z best (neg_ℤ score)
      (λ better.
      let new : new_best ≡ neg_ℤ score = omega (arith, ints, clamps, turn.greater) in
      let took = turn.better better in
      rw (new, took.0, took.1) (ranked-better better (omega (arith, ints))))
      (λ no_better.
      let old : new_best ≡ best = omega (arith, ints, clamps, turn.greater) in
      by_lt_z (int_max alpha floor) (neg_ℤ score)
      (λ higher. let took = turn.above higher in rw (old, took.0, took.1) (ranked-tie no_better higher (omega (arith, ints))))
      (λ no_higher. let kept = turn.kept no_better no_higher in rw (old, kept.0, kept.1) (ranked-kept no_better no_higher)))

-- ---- the whole search of a position

-- what holds between two turns: the ranked choices are those taken and those left, the best is that of those taken and
-- hasn't ended the search, and it is a true score once a choice was taken
pub record IsRanking {X : Type 0} (alpha beta : ℤ) (first : Bool) (v : X → ℤ) (xs : List X) (all left : List (ℕ × X)) (best : ℤ) (choice : Option X) (place : ℕ) : Type 0 where
  pub taken : List (ℕ × X)
  pub split : taken ++ left ≡ all
  pub so_far : IsBestRanked alpha first v xs taken best choice place
  pub below : best <ℤ beta
  pub least : negsuc 199999 ≤ℤ best
  pub real : 0 < length taken → negsuc 127999 ≤ℤ best
  pub greatest : best ≤ℤ pos 128000
  pub chosen : IfSome choice (Contains xs)

greatest_or-under : {X : Type 0} (v : X → ℤ) (other : ℤ) (xs : List X) (top : ℤ) → 0 < length xs → All (λ c. v c ≤ℤ top) xs → greatest_or other (map v xs) ≤ℤ top
greatest_or-under v other [] top some all = absurd (omega arith)
greatest_or-under v other (c ∷ cs) top some all = greatest_or-upper v other c cs top all

module _ {X : Type 0} {alpha beta : ℤ} {first : Bool} {v : X → ℤ} {xs : List X} {all left : List (ℕ × X)} {best : ℤ} {choice : Option X} {place : ℕ}
    (s : IsRanking alpha beta first v xs all left best choice place) (perm : IsPermutation (numbered 0 xs) all) where
  -- while a choice is left
  module _ {p : ℕ} {c : X} {rest : List (ℕ × X)} (next : left ≡ (p, c) ∷ rest) where
    split-next : s.taken ++ (p, c) ∷ rest ≡ all
    split-next = ap (λ l. s.taken ++ l) (sym next) ∙ s.split

    pub IsRanking-at : IsAt xs p c
    IsRanking-at =
        All-contains (IsNumberedAt xs) all (p, c) (All-permutation (IsNumberedAt xs) (numbered 0 xs) all perm (numbered-at xs))
        (subst (λ (ts : List (ℕ × X)). Contains ts (p, c)) split-next (Contains-append_right s.taken ((p, c) ∷ rest) (p, c) (0, omega arith, refl)))

    pub IsRanking-next : Contains xs c
    IsRanking-next = IsAt-contained IsRanking-at

    still-ranked : {low score new_best : ℤ} {new_choice : Option X} {new_place : ℕ} → IsRankedIn best low score choice place c p new_best new_choice new_place →
        IfSome new_choice (Contains xs)
    still-ranked {low} {score} turn =
        by_lt_z best (neg_ℤ score) (λ better. rw ((turn.better better).0) IsRanking-next)
        (λ no_better. by_lt_z low (neg_ℤ score) (λ higher. rw ((turn.above higher).0) IsRanking-next) (λ no_higher. rw ((turn.kept no_better no_higher).0) s.chosen))

    -- a turn that doesn't end the search
    pub IsRanking-turn : {floor score new_best : ℤ} {new_choice : Option X} {new_place : ℕ} → IsChild v beta (int_max alpha floor) c score →
        IsFloor first best place p floor → IsRankedIn best (int_max alpha floor) score choice place c p new_best new_choice new_place → new_best <ℤ beta →
        IsRanking alpha beta first v xs all rest new_best new_choice new_place
    IsRanking-turn child from turn new_below =
        record {
          taken = s.taken ++ (p, c) ∷ [];
          split = append_assoc s.taken ((p, c) ∷ []) rest ∙ split-next;
          so_far = IsBestRanked-turn s.so_far IsRanking-at child from turn new_below;
          below = new_below;
          least = omega (arith, ints, clamps, s.least, turn.greater);
          real = λ some. omega (arith, ints, clamps, child.within.1, turn.greater);
          greatest = omega (arith, ints, clamps, s.greatest, child.within.0, turn.greater);
          chosen = still-ranked turn;
        }

    -- a turn that ends it
    module _ {low score new_best : ℤ} {new_choice : Option X} {new_place : ℕ} (child : IsChild v beta low c score)
        (turn : IsRankedIn best low score choice place c p new_best new_choice new_place) (great : beta ≤ℤ new_best) where
      pub IsRanking-cut : (other : ℤ) → alpha <ℤ beta → IsBound alpha beta new_best (greatest_or other (map v xs))
      IsRanking-cut other window =
          let over = child-over child (omega (arith, ints, clamps, s.below, turn.greater)) in
          subst (λ cs. IsBound alpha beta new_best (greatest_or other (map v cs))) IsRanking-at.split
          (cut-bound alpha beta v other IsRanking-at.before c IsRanking-at.later new_best window great (omega (arith, ints, clamps, s.below, turn.greater)))

      pub IsRanking-cut_within : IsWithin 128000 new_best
      IsRanking-cut_within =
          (omega (arith, ints, clamps, s.below, turn.greater, child.within.1), omega (arith, ints, clamps, s.greatest, turn.greater, child.within.0))

      pub IsRanking-cut_chosen : IfSome new_choice (Contains xs)
      IsRanking-cut_chosen = still-ranked turn

  -- the end of the choices
  module _ (none : left ≡ []) (some : 0 < length xs) where
    all-ranked : s.taken ≡ all
    all-ranked = sym (append-nil s.taken) ∙ (ap (λ l. s.taken ++ l) (sym none) ∙ s.split)

    -- what holds of all that were taken holds of all choices
    back : (P : ℕ × X → Type 0) → All P s.taken → All P (numbered 0 xs)
    back P taken = All-permutation P all (numbered 0 xs) (IsPermutation-sym (numbered 0 xs) all perm) (subst (All P) all-ranked taken)

    pub IsRanking-within : IsWithin 128000 best
    IsRanking-within =
        let count : length s.taken ≡ length xs = ap length all-ranked ∙ length_permutation (numbered 0 xs) all perm ∙ length-numbered 0 xs in
        (s.real (omega arith), s.greatest)

    most : (other : ℤ) → greatest_or other (map v xs) ≤ℤ best
    most other = greatest_or-under v other xs best some (numbered-all (λ c. v c ≤ℤ best) 0 xs (back (λ (t : ℕ × X). v t.1 ≤ℤ best) s.so_far.above))

    least-of : (other : ℤ) → alpha <ℤ best → best ≤ℤ greatest_or other (map v xs)
    least-of other higher =
        let a = s.so_far.attained higher in
        let under : v a.element ≤ℤ greatest_or other (map v xs) =
        subst (λ cs. v a.element ≤ℤ greatest_or other (map v cs)) a.at.split (greatest_or-lower v other a.at.before a.element a.at.later) in
        omega (arith, ints, a.worth)

    pub IsRanking-bound : (other : ℤ) → IsBound alpha beta best (greatest_or other (map v xs))
    IsRanking-bound other =
        record {
          upper = λ low. most other;
          lower = λ (high : beta ≤ℤ best). absurd (omega (arith, ints, s.below));
          exact = λ higher lower. omega (arith, ints, most other, least-of other higher);
        }

    -- where the first best choice is wanted and the best score is above alpha, it is the first that attains the greatest value
    pub IsRanking-best : (other : ℤ) → IsTrue first → alpha <ℤ best → choice ≡ find (λ c. int_equal (v c) (greatest_or other (map v xs))) xs
    IsRanking-best other wanted higher =
        let a = s.so_far.attained higher in
        let ranked : All (λ (t : ℕ × X). t.0 < place → v t.1 <ℤ best) (numbered 0 (a.at.before ++ a.element ∷ a.at.later)) =
        subst (λ cs. All (λ (t : ℕ × X). t.0 < place → v t.1 <ℤ best) (numbered 0 cs)) (sym a.at.split)
        (back (λ (t : ℕ × X). t.0 < place → v t.1 <ℤ best) (s.so_far.earliest wanted higher)) in
        let before = numbered-before (λ c. v c <ℤ best) 0 place a.at.before (a.element ∷ a.at.later) (omega (arith, a.at.place_is)) ranked in
        let found : find (λ c. int_equal (v c) best) xs ≡ Some a.element =
        subst (λ cs. find (λ c. int_equal (v c) best) cs ≡ Some a.element) a.at.split
        (find-new v best a.at.before a.element a.at.later before a.worth) in
        a.is ∙ sym (ap (λ x. find (λ c. int_equal (v c) x) xs) ((IsRanking-bound other).exact higher s.below) ∙ found)
