-- The turns of a serial search through a window at one position, over any choices and what each is worth.
use Rattle.leaf_search.proofs.Common.{◌↔◌, append-nil, append_assoc, ◌≡◌, ◌<◌, length, ℤ, pos, negsuc, neg_ℤ, ◌+ℤ◌, List, [], ◌∷◌, ◌++◌, map, Option, None, Some, refl, sym, ◌∙◌, ap, subst, arith, find, ◌≤ℤ◌, ◌<ℤ◌, IsSome, IfSome, All, Contains, ℕ, ◌-◌, Bool, IsTrue, true, false, int_max, ints, clamps, by_lt_z, All-nil, All-cons, All-append, All-weaker, All-permutation, Contains-append_right, Contains-permutation, IsPermutation, IsPermutation-sym, length_permutation, common_steps, choices, after, plies, Choice, Cell, greatest_or, int_equal, minimax, choice_value, IsBound, IsWithin, find-kept, find-new, greatest_or-upper, greatest_or-lower, found-below-greatest}

-- what is known once these choices were searched, none of which ended the search: no value is above the
-- best score, and where that is above alpha it is the value of the first choice that attains it
pub record IsBestOf {X : Type 0} (alpha : ℤ) (v : X → ℤ) (taken : List X) (best : ℤ) (choice : Option X) : Type 0 where
  pub above : All (λ c. v c ≤ℤ best) taken
  pub first : alpha <ℤ best → find (λ c. int_equal (v c) best) taken ≡ choice
  pub found : alpha <ℤ best → IsSome choice

-- one choice more
module _ {X : Type 0} (alpha : ℤ) (v : X → ℤ) (taken : List X) (best : ℤ) (choice : Option X) (c : X) (so_far : IsBestOf alpha v taken best choice) where
  -- a score that is no less than the best stays above
  above-more : (score : ℤ) → best ≤ℤ score → v c ≤ℤ score → All (λ c. v c ≤ℤ score) (taken ++ c ∷ [])
  above-more score no_less under =
      All-append (λ c. v c ≤ℤ score) taken (c ∷ [])
      (All-weaker (λ c. v c ≤ℤ best) (λ c. v c ≤ℤ score) (λ d (below : v d ≤ℤ best). omega (arith, ints)) taken so_far.above)
      (All-cons (λ c. v c ≤ℤ score) c [] under (All-nil (λ c. v c ≤ℤ score)))

  -- a choice that is worth no more leaves the best
  IsBestOf-kept : v c ≤ℤ best → IsBestOf alpha v (taken ++ c ∷ []) best choice
  IsBestOf-kept under = record {
    above = above-more best (omega (arith, ints)) under;
    first = λ higher. find-kept (λ c. int_equal (v c) best) taken c choice (so_far.first higher) (so_far.found higher);
    found = so_far.found;
  }

  module _ (score : ℤ) (better : best <ℤ score) where
    -- a choice with a better score that is at most alpha: the score is an upper bound
    IsBestOf-low : score ≤ℤ alpha → v c ≤ℤ score → IsBestOf alpha v (taken ++ c ∷ []) score (Some c)
    IsBestOf-low low under = grind (arith, ints, above-more)

    -- a choice with a better score that is its value: it is the first with that value
    IsBestOf-new : v c ≡ score → IsBestOf alpha v (taken ++ c ∷ []) score (Some c)
    IsBestOf-new same = record {
      above = above-more score (omega (arith, ints)) (omega (arith, ints));
      first = λ higher. find-new v score taken c []
          (All-weaker (λ c. v c ≤ℤ best) (λ c. v c <ℤ score) (λ d (below : v d ≤ℤ best). omega (arith, ints)) taken so_far.above) same;
      found = λ higher. refl;
    }

module _ {X : Type 0} (alpha beta : ℤ) (v : X → ℤ) (other : ℤ) where
  -- once all choices were searched and none ended the search, the best score is the bound
  all-bound : (cs : List X) (best : ℤ) (choice : Option X) → 0 < length cs → best <ℤ beta → IsBestOf alpha v cs best choice →
      IsBound alpha beta best (greatest_or other (map v cs))
  all-bound [] best choice some below so_far = absurd (omega arith)
  all-bound (c ∷ cs) best choice some below so_far =
      let most : greatest_or other (map v (c ∷ cs)) ≤ℤ best = greatest_or-upper v other c cs best so_far.above in
      record {
        upper = λ low. most;
        lower = λ (high : beta ≤ℤ best). absurd (omega (arith, ints));
        exact = λ higher lower.
            let found = subst IsSome (sym (so_far.first higher)) (so_far.found higher) in
            let least : best ≤ℤ greatest_or other (map v (c ∷ cs)) = found-below-greatest v best c cs found in
            omega (arith, ints);
      }

  -- a choice with a score of at least beta that is a lower bound of its value ends the search
  pub cut-bound : (before : List X) (c : X) (later : List X) (score : ℤ) → alpha <ℤ beta → beta ≤ℤ score → score ≤ℤ v c →
      IsBound alpha beta score (greatest_or other (map v (before ++ c ∷ later)))
  cut-bound before c later score window high under =
      let least : v c ≤ℤ greatest_or other (map v (before ++ c ∷ later)) = greatest_or-lower v other before c later in
      record {
        upper = λ (low : score ≤ℤ alpha). absurd (omega (arith, ints));
        lower = λ above. omega (arith, ints);
        exact = λ (higher : alpha <ℤ score) (lower : score <ℤ beta). absurd (omega (arith, ints));
      }

-- the child that the choice c leads to was searched to this score, a true one, with the window from -beta to -floor
pub record IsChild {X : Type 0} (v : X → ℤ) (beta floor : ℤ) (c : X) (score : ℤ) : Type 0 where
  pub value : ℤ
  pub worth : v c ≡ neg_ℤ value
  pub bound : IsBound (neg_ℤ beta) (neg_ℤ floor) score value
  pub within : IsWithin 128000 score

-- what a child's score says of the choice that leads to it
module _ {X : Type 0} {v : X → ℤ} {beta floor : ℤ} {c : X} {score : ℤ} (child : IsChild v beta floor c score) where
  pub child-under : neg_ℤ score ≤ℤ floor → v c ≤ℤ neg_ℤ score
  child-under small = let under : score ≤ℤ child.value = child.bound.lower (omega (arith, ints)) in omega (arith, ints, child.worth)

  pub child-over : beta ≤ℤ neg_ℤ score → neg_ℤ score ≤ℤ v c
  child-over great = let over : child.value ≤ℤ score = child.bound.upper (omega (arith, ints)) in omega (arith, ints, child.worth)

  pub child-exact : floor <ℤ neg_ℤ score → neg_ℤ score <ℤ beta → v c ≡ neg_ℤ score
  child-exact higher lower = child.worth ∙ ap neg_ℤ (child.bound.exact (omega (arith, ints)) (omega (arith, ints)))

-- the best score and its choice after a child's score: its, where that is better, and else what they were
pub record IsTakenIn {X : Type 0} (best score : ℤ) (choice : Option X) (c : X) (new_best : ℤ) (new_choice : Option X) : Type 0 where
  pub better : best <ℤ neg_ℤ score → (new_best ≡ neg_ℤ score) × (new_choice ≡ Some c)
  pub kept : neg_ℤ score ≤ℤ best → (new_best ≡ best) × (new_choice ≡ choice)

module _ {X : Type 0} {best score : ℤ} {choice : Option X} {c : X} {new_best : ℤ} {new_choice : Option X}
    (turn : IsTakenIn best score choice c new_best new_choice) where
  -- the new best score is the greater of the two
  pub greater : new_best ≡ int_max best (neg_ℤ score)
  greater =
      by_lt_z best (neg_ℤ score)
      (λ better. let new = turn.better better in omega (arith, ints, clamps)) (λ under. let old = turn.kept under in omega (arith, ints, clamps))

  -- after a turn the choice is among the choices
  pub still-chosen : (all : List X) → IfSome choice (Contains all) → Contains all c → IfSome new_choice (Contains all)
  still-chosen all chosen here =
      by_lt_z best (neg_ℤ score) (λ better. rw ((turn.better better).1) here) (λ under. rw ((turn.kept under).1) chosen)

  -- one turn: the child was searched, and its score taken in; the search wasn't ended
  IsBestOf-turn : {alpha beta : ℤ} {v : X → ℤ} {taken : List X} → IsBestOf alpha v taken best choice → IsChild v beta (int_max alpha best) c score →
      best <ℤ beta → new_best <ℤ beta → IsBestOf alpha v (taken ++ c ∷ []) new_best new_choice
  IsBestOf-turn {alpha} {beta} {v} {taken} so_far child below new_below =
      by_lt_z best (neg_ℤ score)
      (λ better. let new = turn.better better in
      rw (new.0, new.1) (by_lt_z alpha (neg_ℤ score)
      (λ higher. IsBestOf-new alpha v taken best choice c so_far (neg_ℤ score) better (child-exact child (omega (arith, ints, clamps)) (omega (arith, ints))))
      (λ under. IsBestOf-low alpha v taken best choice c so_far (neg_ℤ score) better under (child-under child (omega (arith, ints, clamps))))))
      (λ no_better. let old = turn.kept no_better in
      let low : v c ≤ℤ neg_ℤ score = child-under child (omega (arith, ints, clamps)) in
      rw (old.0, old.1) (IsBestOf-kept alpha v taken best choice c so_far (omega (arith, ints))))

-- what holds between two turns: the choices are those taken and those left, the best is that of those
-- taken and hasn't ended the search, and it is a true score once a choice was taken
pub record IsSearching {X : Type 0} (alpha beta : ℤ) (v : X → ℤ) (all left : List X) (best : ℤ) (choice : Option X) : Type 0 where
  pub taken : List X
  pub split : taken ++ left ≡ all
  pub so_far : IsBestOf alpha v taken best choice
  pub below : best <ℤ beta
  pub least : negsuc 199999 ≤ℤ best
  pub real : 0 < length taken → negsuc 127999 ≤ℤ best
  pub greatest : best ≤ℤ pos 128000
  pub chosen : IfSome choice (Contains all)

module _ {X : Type 0} {alpha beta : ℤ} {v : X → ℤ} {all left : List X} {best : ℤ} {choice : Option X} (s : IsSearching alpha beta v all left best choice) where
  -- while a choice is left
  module _ {c : X} {rest : List X} (next : left ≡ c ∷ rest) where
    split-next : s.taken ++ c ∷ rest ≡ all
    split-next = ap (λ l. s.taken ++ l) (sym next) ∙ s.split

    pub IsSearching-next : Contains all c
    IsSearching-next = subst (λ cs. Contains cs c) split-next (Contains-append_right s.taken (c ∷ rest) c (0, omega arith, refl))

    -- a turn that doesn't end the search
    pub IsSearching-turn : {score new_best : ℤ} {new_choice : Option X} → IsChild v beta (int_max alpha best) c score →
        IsTakenIn best score choice c new_best new_choice → new_best <ℤ beta → IsSearching alpha beta v all rest new_best new_choice
    IsSearching-turn child turn new_below =
        let new = greater turn in
        record {
          taken = s.taken ++ c ∷ [];
          split = append_assoc s.taken (c ∷ []) rest ∙ split-next;
          so_far = IsBestOf-turn turn s.so_far child s.below new_below;
          below = new_below;
          least = omega (arith, ints, clamps, s.least);
          real = λ some. omega (arith, ints, clamps, child.within.1);
          greatest = omega (arith, ints, clamps, s.greatest, child.within.0);
          chosen = still-chosen turn all s.chosen IsSearching-next;
        }

    -- a turn that ends it
    pub IsSearching-cut : {floor score new_best : ℤ} (other : ℤ) → alpha <ℤ beta → IsChild v beta floor c score →
        new_best ≡ int_max best (neg_ℤ score) → beta ≤ℤ new_best → IsBound alpha beta new_best (greatest_or other (map v all))
    IsSearching-cut {new_best = new_best} other window child is great =
        let over = child-over child (omega (arith, ints, clamps, s.below)) in
        subst (λ cs. IsBound alpha beta new_best (greatest_or other (map v cs))) split-next
        (cut-bound alpha beta v other s.taken c rest new_best window great (omega (arith, ints, clamps, s.below)))

  -- the end of the choices
  module _ (none : left ≡ []) (some : 0 < length all) where
    all-taken : s.taken ≡ all
    all-taken = sym (append-nil s.taken) ∙ (ap (λ l. s.taken ++ l) (sym none) ∙ s.split)

    pub IsSearching-real : negsuc 127999 ≤ℤ best
    IsSearching-real = s.real (rw all-taken some)

    pub IsSearching-bound : (other : ℤ) → IsBound alpha beta best (greatest_or other (map v all))
    IsSearching-bound other = all-bound alpha beta v other all best choice some s.below (subst (λ cs. IsBestOf alpha v cs best choice) all-taken s.so_far)

    -- where the best score is above alpha, the choice is the first that attains the greatest value
    pub IsSearching-best : (other : ℤ) → alpha <ℤ best → choice ≡ find (λ c. int_equal (v c) (greatest_or other (map v all))) all
    IsSearching-best other higher =
        let first = subst (λ cs. find (λ c. int_equal (v c) best) cs ≡ choice) all-taken (s.so_far.first higher) in
        sym (ap (λ x. find (λ c. int_equal (v c) x) all) ((IsSearching-bound other).exact higher s.below) ∙ first)

-- the greatest of what some choices are worth is that of the same choices in another order
all-under : {X : Type 0} (v : X → ℤ) (other : ℤ) (before xs : List X) → All (λ c. v c ≤ℤ greatest_or other (map v (before ++ xs))) xs
all-under v other before [] = All-nil (λ c. v c ≤ℤ greatest_or other (map v (before ++ [])))
all-under v other before (c ∷ cs) =
    All-cons (λ d. v d ≤ℤ greatest_or other (map v (before ++ c ∷ cs))) c cs (greatest_or-lower v other before c cs)
    (subst (λ l. All (λ d. v d ≤ℤ greatest_or other (map v l)) cs) (append_assoc before (c ∷ []) cs) (all-under v other (before ++ c ∷ []) cs))

no-greater : {X : Type 0} (v : X → ℤ) (other : ℤ) (xs ys : List X) → IsPermutation xs ys → greatest_or other (map v ys) ≤ℤ greatest_or other (map v xs)
no-greater v other [] [] perm = omega (arith, ints)
no-greater v other (x ∷ xs) [] perm = absurd (omega (arith, length_permutation (x ∷ xs) [] perm))
no-greater v other xs (y ∷ ys) perm =
    greatest_or-upper v other y ys (greatest_or other (map v xs)) (All-permutation (λ c. v c ≤ℤ greatest_or other (map v xs)) xs (y ∷ ys) perm (all-under v other [] xs))

greatest_or-rearranged : {X : Type 0} (v : X → ℤ) (other : ℤ) (xs ys : List X) → IsPermutation xs ys → greatest_or other (map v ys) ≡ greatest_or other (map v xs)
greatest_or-rearranged v other xs ys perm = omega (arith, ints, no-greater v other xs ys perm, no-greater v other ys xs (IsPermutation-sym xs ys perm))

-- the same where nobody asks for the choice, and the choices are taken in any order
pub record Searched {X : Type 0} (alpha beta : ℤ) (v : X → ℤ) (xs left : List X) (best : ℤ) : Type 0 where
  pub all : List X
  pub rearranged : IsPermutation xs all
  pub choice : Option X
  pub searching : IsSearching alpha beta v all left best choice

-- before the first turn
module _ {X : Type 0} (alpha beta : ℤ) (v : X → ℤ) where
  pub IsSearching-start : (all : List X) (best : ℤ) → best ≡ negsuc 199999 → negsuc 199999 ≤ℤ alpha → alpha <ℤ beta → IsSearching alpha beta v all all best None
  IsSearching-start all best least low window = record {
    taken = [];
    split = refl;
    so_far = record {
      above = All-nil (λ c. v c ≤ℤ best);
      first = λ (higher : alpha <ℤ best). absurd (omega (arith, ints, least));
      found = λ (higher : alpha <ℤ best). absurd (omega (arith, ints, least));
    };
    below = omega (arith, ints, least);
    least = omega (arith, ints, least);
    real = λ (some : 0 < 0). absurd (omega arith);
    greatest = omega (arith, ints, least);
    chosen = tt;
  }

  pub Searched-start : (xs all : List X) (best : ℤ) → best ≡ negsuc 199999 → negsuc 199999 ≤ℤ alpha → alpha <ℤ beta → IsPermutation xs all → Searched alpha beta v xs all best
  Searched-start xs all best least low window perm = record { all = all; rearranged = perm; choice = None; searching = IsSearching-start all best least low window }

-- some choice goes with the greater score
taken-in : {X : Type 0} (best score new_best : ℤ) (choice : Option X) (c : X) → new_best ≡ int_max best (neg_ℤ score) →
    (new_choice : Option X) × IsTakenIn best score choice c new_best new_choice
taken-in best score new_best choice c is =
    by_lt_z best (neg_ℤ score)
    (λ better. (Some c, record { better = λ same. (omega (arith, ints, clamps), refl); kept = λ under. absurd (omega (arith, ints)) }))
    (λ under. (choice, record { better = λ better. absurd (omega (arith, ints)); kept = λ same. (omega (arith, ints, clamps), refl) }))

module _ {X : Type 0} {alpha beta : ℤ} {v : X → ℤ} {xs left : List X} {best : ℤ} (s : Searched alpha beta v xs left best) where
  -- while a choice is left
  module _ {c : X} {rest : List X} (next : left ≡ c ∷ rest) where
    pub Searched-next : Contains xs c
    Searched-next = Contains-permutation s.all xs c (IsPermutation-sym xs s.all s.rearranged) (IsSearching-next s.searching next)

    pub Searched-turn : {score new_best : ℤ} → IsChild v beta (int_max alpha best) c score → new_best ≡ int_max best (neg_ℤ score) → new_best <ℤ beta →
        Searched alpha beta v xs rest new_best
    Searched-turn {score} {new_best} child is new_below =
        let turn = taken-in best score new_best s.choice c is in
        record { all = s.all; rearranged = s.rearranged; choice = turn.0; searching = IsSearching-turn s.searching next child turn.1 new_below }

    pub Searched-cut : {floor score new_best : ℤ} (other : ℤ) → alpha <ℤ beta → IsChild v beta floor c score → new_best ≡ int_max best (neg_ℤ score) → beta ≤ℤ new_best →
        IsBound alpha beta new_best (greatest_or other (map v xs))
    Searched-cut {new_best = new_best} other window child is great =
        subst (IsBound alpha beta new_best) (greatest_or-rearranged v other xs s.all s.rearranged) (IsSearching-cut s.searching next other window child is great)

  -- the end of the choices
  module _ (none : left ≡ []) (some : 0 < length xs) where
    as-many : 0 < length s.all
    as-many = omega (arith, some, length_permutation xs s.all s.rearranged)

    pub Searched-real : negsuc 127999 ≤ℤ best
    Searched-real = IsSearching-real s.searching none as-many

    pub Searched-bound : (other : ℤ) → IsBound alpha beta best (greatest_or other (map v xs))
    Searched-bound other = subst (IsBound alpha beta best) (greatest_or-rearranged v other xs s.all s.rearranged) (IsSearching-bound s.searching none as-many other)

-- the value itself is a bound of it, whatever the window
pub exact-bound : (alpha beta score value : ℤ) → value ≡ score → IsBound alpha beta score value
exact-bound alpha beta score value same = grind arith

-- what a test by the last part of a window says: outside the window its score is a bound as a search of the whole gives it
module _ {low high alpha beta score value : ℤ} (test : IsBound low high score value) (last : low +ℤ pos 1 ≡ beta) (same : high ≡ beta) (window : alpha <ℤ beta) where
  pub test-low : score ≤ℤ alpha → IsBound alpha beta score value
  test-low under = record {
    upper = λ _. test.upper (omega (arith, ints));
    lower = λ (great : beta ≤ℤ score). absurd (omega (arith, ints));
    exact = λ (higher : alpha <ℤ score) _. absurd (omega (arith, ints));
  }

-- the child, by the plies of the choice, the board after it and the window that it was searched with
module _ {beta floor low high score : ℤ} (d : ℕ) {p : ℕ} {b : List Cell} (board : List Cell) (c : Choice) where
  pub child-of : p ≡ plies c → b ≡ after board c → low ≡ neg_ℤ beta → high ≡ neg_ℤ floor → IsBound low high score (minimax (d - p) b) →
      IsWithin 128000 score → IsChild (choice_value d board) beta floor c score
  child-of same is low_is high_is bound within =
      let worth = ap (λ b. neg_ℤ (minimax (d - plies c) b)) (sym is) ∙ ap (λ q. neg_ℤ (minimax (d - q) b)) (sym same) in
      record { value = minimax (d - p) b; worth = worth; bound = rw (low_is, high_is) at bound; within = within }

-- whether there are choices
some-length : {X : Type 0} (xs : List X) → (xs ≡ [] → ⊥) → 0 < length xs
some-length xs h1 = grind (arith, common_steps)

no-length : {X : Type 0} (xs : List X) → length xs ≡ 0 → xs ≡ []
no-length [] none = refl
no-length (x ∷ xs) none = absurd (omega arith)

module _ (board : List Cell) {left : List Choice} {none : Bool} (all : left ≡ choices board) (exactly : IsTrue none ↔ (left ≡ [])) where
  pub some-left : none ≡ false → 0 < length (choices board)
  some-left denied = some-length (choices board) (λ empty. let told : none ≡ true = exactly.1 (all ∙ empty) in cc)

  pub none-left : none ≡ true → choices board ≡ []
  none-left told = sym all ∙ exactly.0 told

module _ (board : List Cell) {left : List Choice} {none : Bool} (perm : IsPermutation (choices board) left) (exactly : IsTrue none ↔ (left ≡ [])) where
  pub some-rearranged : none ≡ false → 0 < length (choices board)
  some-rearranged denied =
      let some : 0 < length left = some-length left (λ empty. let told : none ≡ true = exactly.1 empty in cc) in omega (arith, some, length_permutation (choices board) left perm)

  pub none-rearranged : none ≡ true → choices board ≡ []
  none-rearranged told =
      let empty : left ≡ [] = exactly.0 told in
      no-length (choices board) (omega (arith, ap length empty, length_permutation (choices board) left perm))
