-- Places in the frame table's lists: by a number that rises, among those that pass a test, and in a list that begins
-- at a place of another.
use Rattle.frame_table.proofs.Common.{AllByRecursion, AllFromBy, AreAbove, AreRising, Bool, IsPlaceFor, List, [], all-at, all-map, append-nil, append_assoc, arith, common_steps, cond, copy_within, count_below, count_by-le-length, drop, drop-append-le, drop-set-add, drop-take, drop_all, eq-eqb, eqb, false, filter, get_or, has_number, insert, inserted, length, length-filter, map, ne_eqb, not, or_from_places, refl, remove, suc, sym, take, zero, ℕ, ◌++◌, ◌+◌, ◌-◌, ◌<◌, ◌∷◌, ◌≡◌, ◌≢◌, ◌≤◌}
use Rattle.numbered_list.proofs.Places.{count_below-cases}
use Rattle.std.proofs.Common.{add-suc, drop-drop, drop_at, length-drop, length-take-le, lt-ltb, nat_lt}
use Rattle.std.specs.List.Sorted.{IsNonDecreasingBy}

-- a number between those below a place and those from it on is not there
pub absent-between : (xs : List ℕ) (n i : ℕ) → ((k : ℕ) → k < i → get_or xs k 0 < n) → ((k : ℕ) → i ≤ k → k < length xs → n < get_or xs k 0) →
    has_number xs n ≡ false
absent-between xs n i below above =
    or_from_places (λ ks. has_number ks n) (λ k. eqb k n) refl (λ k ks. refl) xs 0 (λ k lt. ne_eqb (get_or xs k 0) n (λ e. grind (arith, below k, above k)))

module _ {X : Type 0} where
  -- what holds of each element of a list
  module _ (P : X → Type 0) where
    pub all-mapped : {Y : Type 0} (f : Y → X) (ys : List Y) → AllByRecursion (λ y. P (f y)) ys → AllByRecursion P (map f ys)
    all-mapped f [] all = all
    all-mapped f (y ∷ ys) all = (all.0, all-mapped f ys all.1)

    pub all-unmapped : {Y : Type 0} (f : Y → X) (ys : List Y) → AllByRecursion P (map f ys) → AllByRecursion (λ y. P (f y)) ys
    all-unmapped f [] all = all
    all-unmapped f (y ∷ ys) all = (all.0, all-unmapped f ys all.1)

    pub all-filter : (keep : X → Bool) (xs : List X) → AllByRecursion P xs → AllByRecursion P (filter keep xs)
    all-filter _ [] all = all
    all-filter keep (x ∷ xs) all = grind (arith, all-filter keep xs)

  -- a map leaves what rises by the number of what it gives
  pub rising-mapped : {Y : Type 0} (number : X → ℕ) (f : Y → X) (ys : List Y) → AreRising (λ y. number (f y)) ys → AreRising number (map f ys)
  rising-mapped _ f [] _ = tt
  rising-mapped number f (y ∷ ys) rise = (all-mapped (λ x. number (f y) < number x) f ys rise.0, rising-mapped number f ys rise.1)

  -- what rises does not fall
  module _ (number : X → ℕ) where
    pub rises-by-not-falls : (xs : List X) → AreRising number xs → IsNonDecreasingBy number xs
    rises-by-not-falls (x ∷ xs) rise (suc i) (suc j) d le lt = rises-by-not-falls xs rise.1 i j d (omega arith) (omega arith)
    rises-by-not-falls (x ∷ xs) rise zero (suc j) d le lt = grind (arith, all-at)
    rises-by-not-falls xs rise i j d le lt = grind arith

    -- what is above a number is not below it
    from-above : (n m : ℕ) (xs : List X) → n ≤ m → AreAbove number m xs → AllFromBy number n xs
    from-above n m [] _ _ = tt
    from-above n m (x ∷ xs) le above = (omega (arith, le, above.0), from-above n m xs le above.1)

    -- the place that a search has found is that of the number
    count-place : (xs : List X) (n : ℕ) → AreRising number xs → IsPlaceFor number xs n (count_below number n xs)
    count-place [] n _ = tt
    count-place (x ∷ xs) n rise =
        count_below-cases number n x xs (IsPlaceFor number (x ∷ xs) n) (λ below. (below, count-place xs n rise.1)) (λ above. (above, from-above n (number x) xs above rise.0))

    pub place-by-count : (xs : List X) (n at : ℕ) → AreRising number xs → at ≡ count_below number n xs → IsPlaceFor number xs n at
    place-by-count xs n _ rise is = rw is (count-place xs n rise)

    -- before all where the first is not below, and behind an element that is below
    pub place-before : (xs : List X) (n : ℕ) (d : X) → AreRising number xs → n ≤ number (get_or xs 0 d) → IsPlaceFor number xs n 0
    place-before [] n d _ _ = tt
    place-before (x ∷ xs) n d rise le = grind (arith, from-above)

    pub counts-below : (xs : List X) (n at : ℕ) (d : X) → AreRising number xs → at < length xs → number (get_or xs at d) < n → at < count_below number n xs
    counts-below [] n at d rise lt less = absurd (omega arith)
    counts-below (x ∷ xs) n zero d rise lt less = grind (arith, lt-ltb)
    counts-below (x ∷ xs) n (suc at) d rise lt less = grind (arith, counts-below xs n at d, all-at, lt-ltb)

    -- an element put at its place
    pub inserted-place : (new : X) (xs : List X) (at : ℕ) → IsPlaceFor number xs (number new) at → insert xs at new ≡ inserted number new xs
    inserted-place _ [] zero p = refl
    inserted-place new (x ∷ xs) zero p = grind arith
    inserted-place _ [] (suc _) p = absurd p
    inserted-place new (x ∷ xs) (suc at) p = grind (arith, inserted-place new xs at, lt-ltb)

    -- those below a number are those before its place
    none-below : (n : ℕ) (xs : List X) → AllFromBy number n xs → filter (λ x. nat_lt (number x) n) xs ≡ []
    none-below n [] p = refl
    none-below n (x ∷ xs) p = grind (arith, none-below n xs)

    pub filter-below-place : (xs : List X) (n at : ℕ) → IsPlaceFor number xs n at → take at xs ≡ filter (λ x. nat_lt (number x) n) xs
    filter-below-place [] n zero p = refl
    filter-below-place (x ∷ xs) n zero p = sym (none-below n (x ∷ xs) p)
    filter-below-place [] n (suc _) p = absurd p
    filter-below-place (x ∷ xs) n (suc at) p = grind (arith, filter-below-place xs n at, lt-ltb)

    pub filter-below-above : (n : ℕ) (xs : List X) → AreAbove number n xs → filter (λ x. nat_lt (number x) n) xs ≡ []
    filter-below-above n xs above = none-below n xs (from-above n n xs (omega arith) above)

    -- nothing is left out where all are above
    pub filter-not-above : (n : ℕ) (xs : List X) → AreAbove number n xs → filter (λ x. not (eqb (number x) n)) xs ≡ xs
    filter-not-above n [] _ = refl
    filter-not-above n (x ∷ xs) above = grind (arith, filter-not-above n xs, ne_eqb)

    -- the element that stands at a place goes
    pub remove-rising : (xs : List X) (i : ℕ) (x : X) → AreRising number xs → i < length xs → x ≡ get_or xs i x →
        remove xs i ≡ filter (λ y. not (eqb (number y) (number x))) xs
    remove-rising [] i x rise lt is = absurd (omega arith)
    remove-rising (y ∷ ys) zero x rise lt is = let rest = filter-not-above (number y) ys rise.0 in grind (arith, rest, eq-eqb)
    remove-rising (y ∷ ys) (suc i) x rise lt is = grind (arith, remove-rising ys i x, all-at, ne_eqb)

    -- nothing is left out where another stands at the place, or nothing
    pub filter-not-absent : (xs : List X) (n at : ℕ) → AreRising number xs → IsPlaceFor number xs n at →
        ((x : X) → at < length xs → x ≡ get_or xs at x → number x ≢ n) → xs ≡ filter (λ x. not (eqb (number x) n)) xs
    filter-not-absent [] n zero _ p _ = refl
    filter-not-absent (y ∷ ys) n zero rise p other = grind (arith, filter-not-above, all-map)
    filter-not-absent [] n (suc _) _ p _ = absurd p
    filter-not-absent (y ∷ ys) n (suc at) rise p other = grind (arith, filter-not-absent ys n at)

  -- what is read at a place is one element
  pub alike : (xs : List X) (i : ℕ) (x y : X) → i < length xs → x ≡ get_or xs i x → y ≡ get_or xs i y → x ≡ y
  alike xs i x y h1 h2 h3 = grind (arith, common_steps)

  -- what rises does so in part
  module _ (number : X → ℕ) (keep : X → Bool) where
    pub rises-by-filter : (xs : List X) → AreRising number xs → AreRising number (filter keep xs)
    rises-by-filter [] r = tt
    rises-by-filter (x ∷ xs) r = grind (arith, rises-by-filter xs, all-filter (λ y. number x < number y) keep xs)

  -- lengths of lists in part and with one more
  module _ (p : X → Bool) (xs : List X) where
    pub length-filter-le : length (filter p xs) ≤ length xs
    length-filter-le = omega (arith, length-filter p xs, count_by-le-length p xs)

    -- how many pass a test, with one more
    pub length-filter-push : (x : X) → length (filter p (xs ++ x ∷ [])) ≡ length (filter p xs) + cond (p x) 1 0
    length-filter-push x = grind (arith, common_steps)

  -- an element that goes with those after it moved
  module _ (items : List X) (start at : ℕ) (lt : start + at < length items) where
    pub removed-back : drop start (remove items (start + at)) ≡ remove (drop start items) at
    removed-back =
        let long : start ≤ length (take (start + at) items) = rw (length-take-le (start + at) items (omega arith)) (omega arith) in
        rw (drop-append-le start (take (start + at) items) (drop (suc (start + at)) items) long, drop-take start at items, drop-drop (suc at) start items, add-suc) refl

    -- an element that goes with those before it moved
    pub removed-front : drop (start + 1) (copy_within items start (start + at) (start + 1)) ≡ remove (drop start items) at
    removed-front =
        let count : start + at - start ≡ at = omega arith in
        let long : length (take (start + 1) items) ≡ start + 1 = length-take-le (start + 1) items (omega arith) in
        let rest : start + 1 + at ≡ start + suc at = omega arith in
        rw (count, append_assoc, drop_at (take (start + 1) items) (take at (drop start items) ++ drop (start + 1 + at) items) (start + 1) long, drop-drop (suc at) start items, rest) refl

  -- the last element
  pub removed-last : (xs : List X) (at : ℕ) → at + 1 ≡ length xs → take at xs ≡ remove xs at
  removed-last xs at e = rw (drop_all (suc at) xs (omega arith), append-nil) refl

  -- an element that is put at a place
  module _ (items : List X) (start at : ℕ) where
    pub inserted-back : (x : X) → start + at ≤ length items → drop start (insert items (start + at) x) ≡ insert (drop start items) at x
    inserted-back x le = grind (arith, length-take-le, drop-append-le, drop-take, drop-drop)

    -- a place of the list is a place of all
    pub place-within : start ≤ length items → at < length (drop start items) → start + at < length items
    place-within within lt = omega (arith, within, lt, length-drop start items)

-- what a window onto a list shows after each edit
pub ruleset window_laws = (drop-set-add, drop-take, removed-last)

pub ruleset place_laws = (inserted-place, filter-below-place)
