-- One frame's search in the abstract: over the values v of its choices, the codes of its choices, their statuses and
-- what is found of them.
use Rattle.jamboree_rules.proofs.Common.{◌≡◌, ◌≢◌, ℕ, ◌<◌, ℤ, neg_ℤ, ◌<ℤ◌, ◌≤ℤ◌, List, length, refl, slice_index, slice_set, suc, Bool, true, false, [], ◌∷◌, Some, map, find, slice_index_or, ◌⊎◌, int_le, replicate, int_max, sym, ◌∙◌, ap, subst, arith, inl, inr, common_steps, ints, clamps, by_lt_z, IsBound, kind_in, kind_number, score_in, is_rest, IsOfKind, IsTrueRest, IsFound, IsInRole, IsChildOf, IsTabled, Choice, Pass, choices, final_value, best_choice, choice_value, greatest_or, minimax-deeper, best_choice-deeper, int_equal-same, int_equal-below, Frame, board, choice_at, code_at, coded, value_at, value, least, greatest, Cell, cases_eq, get_or_past, BoundKind, Exact, Says, entered, seen, kind_by, kind_of, found_rest, IsSearchingFrame, Status, changed}
use Rattle.jamboree_rules.proofs.Forms.{kind-some, kind-read, score-read, same-kind, rest-passes}

-- a status that is set
pub set-there : (st : List ℕ) (i x : ℕ) → i < length st → slice_index (slice_set st i x) i ≡ x
set-there st i x h = grind (arith, common_steps)

pub set-beside : (st : List ℕ) (i x k : ℕ) → k ≢ i → slice_index (slice_set st i x) k ≡ slice_index st k
set-beside st i x k h = grind (arith, common_steps)

pub set-length : (st : List ℕ) (i x : ℕ) → length (slice_set st i x) ≡ length st
set-length st i x = grind (arith, common_steps)

-- no settled choice is worth more than the best score
abbrev pub AreAtMost : (v : ℕ → ℤ) (best : ℤ) → List ℕ → Type 0
AreAtMost v best st = (k : ℕ) → k < length st → slice_index st k ≡ 2 → v k ≤ℤ best

-- what `IsSearchingFrame` says of the scores, over the values and codes of the choices
pub record IsSearching (v : ℕ → ℤ) (code : ℕ → ℕ) (st rests : List ℕ) (alpha beta best : ℤ) (choice : ℕ) : Type 0 where
  pub below : best <ℤ beta
  pub settled : AreAtMost v best st
  pub found : alpha <ℤ best → IsFound v code st rests best choice

pub search-of : (f : Frame) → IsSearchingFrame f → IsSearching (value_at f) (code_at f) f.statuses f.rests f.alpha f.beta f.best f.choice
search-of f s = record { below = s.below; settled = s.settled; found = s.found }

-- a settled choice after a status was set
settled-set : (v : ℕ → ℤ) (st : List ℕ) (best : ℤ) (i x : ℕ) → i < length st → (x ≡ 2 → v i ≤ℤ best) → AreAtMost v best st → AreAtMost v best (slice_set st i x)
settled-set v st best i x inside here h k below is = grind (arith, ints, common_steps, set-there, set-beside, set-length st i x, h k, here)

-- and after the best score grew
settled-more : (v : ℕ → ℤ) (st : List ℕ) (best score : ℤ) (i : ℕ) → i < length st → v i ≤ℤ int_max best score → AreAtMost v best st →
    AreAtMost v (int_max best score) (slice_set st i 2)
settled-more v st best score i inside under h =
    settled-set v st _ i 2 inside (λ _. under) (λ k below is. let le : v k ≤ℤ best = h k below is in omega (arith, ints, clamps))

-- the found choice stays where a choice that isn't settled gets another entry
pub found-set : (v : ℕ → ℤ) (code : ℕ → ℕ) (st rests : List ℕ) (best : ℤ) (choice i x rest : ℕ) → i < length st → slice_index st i ≢ 2 →
    IsFound v code st rests best choice → IsFound v code (slice_set st i x) (slice_set rests i rest) best choice
found-set v code st rests best choice i x rest inside other f = grind (arith, set-length, set-beside)

-- an entry of a frame that searches its choices is set
module _ {v : ℕ → ℤ} {code : ℕ → ℕ} {st rests : List ℕ} {alpha beta best : ℤ} {choice i : ℕ} (rest : ℕ) (inside : i < length st) where
  -- next: a failed choice is searched again (3 to 4), a choice is tested (0 to 1); inlet case 4: a test failed (1 to 3)
  pub IsSearching-mark : {x : ℕ} → slice_index st i ≢ 2 → x ≢ 2 → IsSearching v code st rests alpha beta best choice →
      IsSearching v code (slice_set st i x) (slice_set rests i rest) alpha beta best choice
  IsSearching-mark {x} unsettled other s = record {
    below = s.below;
    settled = settled-set v st best i x inside (λ e. absurd (other e)) s.settled;
    found = λ higher. found-set v code st rests best choice i x rest inside unsettled (s.found higher);
  }

  -- inlet cases 2 and 3 with a score at most the greater of alpha and best
  pub IsSearching-low : {score : ℤ} → alpha <ℤ beta → slice_index st i ≢ 2 → score ≤ℤ int_max alpha best → v i ≤ℤ score →
      IsSearching v code st rests alpha beta best choice → IsSearching v code (slice_set st i 2) (slice_set rests i rest) alpha beta (int_max best score) choice
  IsSearching-low {score} window unsettled low under s = record {
    below = let b : best <ℤ beta = s.below in omega (arith, ints, clamps);
    settled = settled-more v st best score i inside (omega (arith, ints, clamps)) s.settled;
    found = λ (higher : alpha <ℤ int_max best score).
        let same : best ≡ int_max best score = omega (arith, ints, clamps) in
        let above : alpha <ℤ best = omega (arith, ints, clamps) in
        subst (λ (b : ℤ). IsFound v code (slice_set st i 2) (slice_set rests i rest) b choice) same
        (found-set v code st rests best choice i 2 rest inside unsettled (s.found above));
  }

  -- inlet case 2 with a score above the greater of alpha and best: it is exact, and every earlier choice is settled
  pub IsSearching-higher : {score : ℤ} → length rests ≡ length st → IsOfKind rest Exact → int_max alpha best <ℤ score → score <ℤ beta → v i ≡ score →
      ((k : ℕ) → k < i → slice_index st k ≡ 2) → IsSearching v code st rests alpha beta best choice →
      IsSearching v code (slice_set st i 2) (slice_set rests i rest) alpha beta (int_max best score) (code i)
  IsSearching-higher {score} long kind high below exact earlier s =
      let same : int_max best score ≡ score = omega (arith, ints, clamps) in
      record {
        below = omega (arith, ints, clamps);
        settled = settled-more v st best score i inside (omega (arith, ints, clamps)) s.settled;
        found = λ higher. record {
          place = i;
          inside = omega (arith, set-length st i 2);
          settled = set-there st i 2 inside;
          exact = ap kind_in (set-there rests i rest (omega arith)) ∙ kind;
          named = refl;
          worth = exact ∙ sym same;
          earlier = λ k under. let h : v k ≤ℤ best = s.settled k (omega arith) (earlier k under) in omega (arith, ints, clamps);
        };
      }

-- m is the greatest of the first n values
pub record IsGreatest (v : ℕ → ℤ) (n : ℕ) (m : ℤ) : Type 0 where
  pub above : (k : ℕ) → k < n → v k ≤ℤ m
  pub place : ℕ
  pub inside : place < n
  pub attained : v place ≡ m

-- The minimax value and the best choice of a frame, by places in the list of choices.

module _ {X : Type 0} (v : X → ℤ) (other : X) where
  -- the value at a place of a list
  abbrev at : List X → ℕ → ℤ
  at xs i = v (slice_index_or xs i other)

  above-both : (x : X) (xs : List X) (m : ℤ) → ((k : ℕ) → k < length xs → at xs k ≤ℤ m) → (k : ℕ) → k < suc (length xs) → at (x ∷ xs) k ≤ℤ int_max (v x) m
  above-both x xs m h6 k h8 = grind arith

  pub greatest-is : (none : ℤ) (x : X) (xs : List X) → IsGreatest (at (x ∷ xs)) (length (x ∷ xs)) (greatest_or none (map v (x ∷ xs)))
  greatest-is none x [] = grind arith
  greatest-is none x (y ∷ xs) =
      let rest : IsGreatest (at (y ∷ xs)) (length (y ∷ xs)) (greatest_or none (map v (y ∷ xs))) = greatest-is none y xs in
      let m : ℤ = greatest_or none (map v (y ∷ xs)) in
      let here : at (y ∷ xs) rest.place ≡ m = rest.attained in
      by_lt_z m (v x)
      (λ less. record {
        above = above-both x (y ∷ xs) m rest.above;
        place = 0;
        inside = omega arith;
        attained = (let is : v x ≡ int_max (v x) m = omega (arith, ints, clamps) in is);
      })
      (λ more. record {
        above = above-both x (y ∷ xs) m rest.above;
        place = suc rest.place;
        inside = omega (arith, rest.inside);
        attained = here ∙ (let is : m ≡ int_max (v x) m = omega (arith, ints, clamps) in is);
      })

pub find-is : {X : Type 0} (p : X → Bool) (other : X) (xs : List X) (j : ℕ) → j < length xs → p (slice_index_or xs j other) ≡ true →
    ((k : ℕ) → k < j → p (slice_index_or xs k other) ≡ false) → find p xs ≡ Some (slice_index_or xs j other)
find-is p other (x ∷ xs) (suc j) below here before =
    let first : p x ≡ false = before 0 (omega arith) in
    rw first (find-is p other xs j (omega arith) here (λ k under. before (suc k) (omega arith)))
find-is p other xs j below here before = grind arith

-- the value of a frame that has choices is the greatest of theirs
greatest-at : (cs : List Choice) (v : Choice → ℤ) (none : ℤ) → 0 < length cs → IsGreatest (at v Pass cs) (length cs) (greatest_or none (map v cs))
greatest-at [] v none some = absurd (omega arith)
greatest-at (c ∷ cs) v none some = greatest-is v Pass none c cs

pub greatest-of : (f : Frame) → IsSearchingFrame f → IsGreatest (value_at f) (length f.statuses) (value f)
greatest-of f s =
    let g = greatest-at (choices (board f)) (choice_value f.depth (board f)) (final_value (board f)) (omega (arith, s.some, s.places)) in
    subst (λ (n : ℕ). IsGreatest (value_at f) n (value f)) (sym s.places)
    (subst (λ (m : ℤ). IsGreatest (value_at f) (length (choices (board f))) m) (sym (minimax-deeper f.depth (board f) s.deep)) g)

-- each choice is settled
abbrev pub AreAllSettled : Frame → Type 0
AreAllSettled f = (k : ℕ) → k < length f.statuses → slice_index f.statuses k ≡ 2

-- so the best score is a bound of the value
pub all-bound : (f : Frame) → IsSearchingFrame f → AreAllSettled f → IsBound f.alpha f.beta f.best (value f)
all-bound f s all =
    let g : IsGreatest (value_at f) (length f.statuses) (value f) = greatest-of f s in
    let most : value_at f g.place ≤ℤ f.best = s.settled g.place g.inside (all g.place g.inside) in
    let b : f.best <ℤ f.beta = s.below in
    let is : value_at f g.place ≡ value f = g.attained in
    record {
      upper = λ _. omega (arith, ints);
      lower = λ (high : f.beta ≤ℤ f.best). absurd (omega (arith, ints));
      exact = λ higher _.
          let found = s.found higher in
          let least : value_at f found.place ≤ℤ value f = g.above found.place found.inside in
          let worth : value_at f found.place ≡ f.best = found.worth in
          omega (arith, ints);
    }

-- the choice that is found first with the greatest value is the best choice
module _ (f : Frame) (deep : 0 < f.depth) (len : length f.statuses ≡ length (choices (board f)))
    (found : IsFound (value_at f) (code_at f) f.statuses f.rests f.best f.choice) (same : value f ≡ f.best) where
  pub found-best : best_choice f.depth (board f) ≡ Some (choice_at f found.place)
  found-best = grind (arith, best_choice-deeper, find-is, int_equal-same, int_equal-below)

  pub named-best : f.choice ≡ coded (best_choice f.depth (board f))
  named-best = found.named ∙ ap coded (sym found-best)

-- What a child's role says, and what it keeps.

-- the value of a child's choice is the child's own, seen from the parent
pub worth-of : (f c : Frame) → IsChildOf f c → c.phase ≢ 0 → value_at f c.number ≡ neg_ℤ (value c)
worth-of f c kin there = rw (kin.shallower, kin.known there) refl

-- a child of another number stays a child where a status is set that isn't its own and that no other search again relies on
pub role-kept-mark : (f c : Frame) (i x rest spawned : ℕ) → c.number ≢ i → slice_index f.statuses i ≢ 2 → IsInRole f c →
    IsInRole (record (changed (Status i x rest) f) { spawned = spawned }) c
role-kept-mark f c i x rest spawned h1 h2 h3 = grind (arith, set-beside)

-- A frame's table: what is said of a choice is true, and stays so while other entries are set.

pub le-told : (x y : ℤ) → true ≡ int_le x y → x ≤ℤ y
le-told x y e = grind (arith, ints)

pub not-le-told : (x y : ℤ) → false ≡ int_le x y → y <ℤ x
not-le-told x y e = grind (arith, ints)

-- the kind of a child's score is right, seen from the parent
says-by : (low high : Bool) (alpha beta s m : ℤ) → low ≡ int_le (neg_ℤ s) (neg_ℤ beta) → high ≡ int_le (neg_ℤ alpha) (neg_ℤ s) →
    IsBound alpha beta s m → Says (kind_by low high) (neg_ℤ s) (neg_ℤ m)
says-by true high alpha beta s m el eh b =
    let under : neg_ℤ s ≤ℤ neg_ℤ beta = le-told (neg_ℤ s) (neg_ℤ beta) el in
    let over : s ≤ℤ m = b.lower (omega (arith, ints)) in omega (arith, ints)
says-by false true alpha beta s m el eh b =
    let above : neg_ℤ alpha ≤ℤ neg_ℤ s = le-told (neg_ℤ alpha) (neg_ℤ s) eh in
    let under : m ≤ℤ s = b.upper (omega (arith, ints)) in omega (arith, ints)
says-by false false alpha beta s m el eh b =
    let above : neg_ℤ beta <ℤ neg_ℤ s = not-le-told (neg_ℤ s) (neg_ℤ beta) el in
    let under : neg_ℤ s <ℤ neg_ℤ alpha = not-le-told (neg_ℤ alpha) (neg_ℤ s) eh in
    ap neg_ℤ (b.exact (omega (arith, ints)) (omega (arith, ints)))

kind-exact : (low high : Bool) → low ≡ false → high ≡ false → kind_number (kind_by low high) ≡ 3
kind-exact low high el eh = rw (el, eh) refl

above-told : (x y : ℤ) → y <ℤ x → int_le x y ≡ false
above-told x y h = grind (arith, ints)

module _ (c : Frame) where
  abbrev kind_seen : BoundKind
  kind_seen = kind_of (neg_ℤ c.beta) (neg_ℤ c.alpha) (seen c)

  -- what a returned child's score says of its choice is true
  pub found-true : (v : ℤ) → least ≤ℤ seen c → IsBound c.alpha c.beta c.best (value c) → v ≡ neg_ℤ (value c) → IsTrueRest (found_rest c) v
  found-true v low bound worth kind is =
      let says : Says kind_seen (seen c) (neg_ℤ (value c)) = says-by _ _ c.alpha c.beta c.best (value c) refl refl bound in
      same-kind (λ (k : BoundKind). Says k (score_in (found_rest c)) v) kind_seen kind (sym (kind-read kind_seen (seen c)) ∙ is)
      (rw (worth, score-read kind_seen (seen c) low) says)

  -- and it says something
  pub found-said : kind_in (found_rest c) ≢ 0
  found-said none = kind-some kind_seen (sym (kind-read kind_seen (seen c)) ∙ none)

  -- inside its window it is exact
  pub found-exact : neg_ℤ c.beta <ℤ seen c → seen c <ℤ neg_ℤ c.alpha → IsOfKind (found_rest c) Exact
  found-exact over under = grind (arith, kind-read, kind-exact, above-told)

  pub found-passes : least ≤ℤ c.best → c.best ≤ℤ greatest → is_rest (found_rest c) ≡ true
  found-passes low high = rest-passes kind_seen (seen c) (omega (arith, ints)) (omega (arith, ints))

-- a rest of nothing says nothing
pub nothing-true : (rest : ℕ) (v : ℤ) → rest ≡ 0 → IsTrueRest rest v
nothing-true rest v none kind is = absurd (kind-some kind (sym is ∙ ap kind_in none))

-- an entry of a table is set
module _ {v : ℕ → ℤ} {st rests : List ℕ} (i x rest : ℕ) (inside : i < length st) (t : IsTabled v st rests) (holds : IsTrueRest rest (v i))
    (said : x ≡ 2 → kind_in rest ≢ 0) where
  true-set : (k : ℕ) → IsTrueRest (slice_index (slice_set rests i rest) k) (v k)
  true-set k = elim (cases_eq k i) [
    | inl same ↦ rw (same, set-there rests i rest (omega (arith, t.places))) holds
    | inr other ↦ rw (set-beside rests i rest k other) (t.holds k)
  ]

  said-set : (k : ℕ) → slice_index (slice_set st i x) k ≡ 2 → kind_in (slice_index (slice_set rests i rest) k) ≢ 0
  said-set k is = elim (cases_eq k i) [
    | inl same ↦ grind (arith, set-there)
    | inr other ↦ rw (set-beside rests i rest k other) (t.said k (sym (set-beside st i x k other) ∙ is))
  ]

  pub tabled-set : IsTabled v (slice_set st i x) (slice_set rests i rest)
  tabled-set = record { places = set-length rests i rest ∙ t.places ∙ sym (set-length st i x); holds = true-set; said = said-set }

pub zero-at : (n k : ℕ) → slice_index (replicate n 0) k ≡ 0
zero-at n k = grind (arith, common_steps)

-- before anything is found
pub tabled-zeros : (v : ℕ → ℤ) (n : ℕ) → IsTabled v (replicate n 0) (replicate n 0)
tabled-zeros v n = grind (arith, nothing-true, zero-at)

no-places : (xs : List ℕ) (k : ℕ) → length xs ≡ 0 → slice_index xs k ≡ 0
no-places xs k none = get_or_past xs k 0 (omega arith)

-- where there are no places
pub tabled-none : (v : ℕ → ℤ) (st rests : List ℕ) → length st ≡ 0 → length rests ≡ 0 → IsTabled v st rests
tabled-none v st rests sn rn = grind (arith, nothing-true, no-places)

-- at depth 1 and more all choices have a place
pub entered-deep : (depth : ℕ) (board : List Cell) → 0 < depth → entered depth board ≡ choices board
entered-deep depth board h3 = grind arith

-- and at depth 0, or in a finished game, none
pub entered-none : (depth : ℕ) (board : List Cell) → (depth ≡ 0) ⊎ (length (choices board) ≡ 0) → length (entered depth board) ≡ 0
entered-none depth board h3 = grind arith
