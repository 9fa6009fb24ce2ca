-- A list of things that rise by number (such as accounts by tenant): where the thing of a number stands.
use Rattle.std.proofs.Common.{◌≡◌, ◌≢◌, ℕ, zero, suc, ◌<◌, ◌≤◌, true, false, ltb, List, [], ◌∷◌, length, get_or, Some, None, refl, ap, arith, ◌+◌, ◌-◌, ◌%◌}
use Rattle.std.proofs.Common.{◌^◌, bit_and, length-set}
use Rattle.std.proofs.lemmas.Bool.{ltb-true, ltb-false, lt-ltb, eq-eqb, ne_eqb}
use Rattle.std.proofs.lemmas.List.{get_or_default, get_or-set_same}
use Rattle.std.specs.List.Sorted.{IsPartitionedBy, IsPartitionPoint}
use Rattle.numbered_list.specs.Places.{count_below, find_by_number, AreAbove, AreRising}
use Rattle.std.specs.Int.{IsPowerOfTwo}
use Rattle.std.proofs.Math.Nat.{mod-lt, mod-eq_of_lt}
use Rattle.std.proofs.lemmas.Nat.{and_mask}
use Rattle.numbered_list.specs.Guesses.{guess_of, with_guess}

pub above-at : {X : Type 0} (number_of : X → ℕ) (n : ℕ) (xs : List X) (k : ℕ) (d : X) → AreAbove number_of n xs → k < length xs → n < number_of (get_or xs k d)
above-at number_of n [] k d above lt = absurd (omega arith)
above-at number_of n (x ∷ xs) zero d above lt = above.0
above-at number_of n (x ∷ xs) (suc k) d above lt = above-at number_of n xs k d above.1 (omega arith)

-- the first number is below this one, or it is not
module _ {X : Type 0} (number_of : X → ℕ) (n : ℕ) where
  pub count_below-cases : (x : X) (xs : List X) (P : ℕ → Type 0) → (number_of x < n → P (suc (count_below number_of n xs))) → (n ≤ number_of x → P 0) → P (count_below number_of n (x ∷ xs))
  count_below-cases x xs P below above = grind (arith, ltb-true, ltb-false)

  pub count_below-le-length : (xs : List X) → count_below number_of n xs ≤ length xs
  count_below-le-length [] = omega arith
  count_below-le-length (x ∷ xs) = count_below-cases x xs (λ i. i ≤ suc (length xs)) (λ _. omega (arith, count_below-le-length xs)) (λ _. omega arith)

  -- where a later number is below this one, so are those before it
  pub partitioned-rising : (xs : List X) → AreRising number_of xs → IsPartitionedBy (λ x. ltb (number_of x) n) xs
  partitioned-rising [] rising i j d before within low = absurd (omega arith)
  partitioned-rising (x ∷ xs) rising zero zero d before within low = low
  partitioned-rising (x ∷ xs) rising zero (suc j) d before within low = grind (arith, above-at, ltb-true, lt-ltb)
  partitioned-rising (x ∷ xs) rising (suc i) zero d before within low = absurd (omega (arith, before))
  partitioned-rising (x ∷ xs) rising (suc i) (suc j) d before within low =
      partitioned-rising xs rising.1 i j d (omega (arith, before)) (omega (arith, within)) low

  -- the place before which all are below the number, and from which none is
  pub point-is-count_below : (xs : List X) (i : ℕ) → IsPartitionPoint (λ x. ltb (number_of x) n ≡ true) (λ x. ltb (number_of x) n ≡ false) xs i → i ≤ length xs → i ≡ count_below number_of n xs
  point-is-count_below [] i point within = omega arith
  point-is-count_below (x ∷ xs) zero point within =
      count_below-cases x xs (λ k. 0 ≡ k)
      (λ below. let above : n ≤ number_of x = ltb-false (number_of x) n (point.1 0 x (omega arith) (omega arith)) in absurd (omega arith))
      (λ _. refl)
  point-is-count_below (x ∷ xs) (suc i) point within =
      let rest : i ≡ count_below number_of n xs = point-is-count_below xs i (λ k d low high. point.0 (suc k) d (omega arith) (omega (arith, high)), λ k d low high. point.1 (suc k) d (omega (arith, low)) (omega (arith, high))) (omega (arith, within)) in
      count_below-cases x xs (λ k. suc i ≡ k)
      (λ below. ap suc rest)
      (λ above. let below : number_of x < n = ltb-true (number_of x) n (point.0 0 x (omega arith) (omega arith)) in absurd (omega arith))

  -- where a thing of this number stands, that is its place
  pub count_below-found : (xs : List X) (i : ℕ) (d : X) → AreRising number_of xs → i < length xs → number_of (get_or xs i d) ≡ n → i ≡ count_below number_of n xs
  count_below-found [] i d rising within own = absurd (omega arith)
  count_below-found (x ∷ xs) zero d rising within own = count_below-cases x xs (λ k. 0 ≡ k) (λ below. absurd (omega arith)) (λ above. refl)
  count_below-found (x ∷ xs) (suc i) d rising within own = grind (arith, count_below-found xs i d rising.1, above-at, count_below-cases)

  -- a thing of this number that stands there is the one that is found
  pub find_by_number-found : (xs : List X) (i : ℕ) (x : X) → AreRising number_of xs → i < length xs → x ≡ get_or xs i x → number_of x ≡ n → find_by_number number_of n xs ≡ Some x
  find_by_number-found [] i x rising within at own = absurd (omega arith)
  find_by_number-found (y ∷ ys) zero x rising within at own = grind (arith, eq-eqb)
  find_by_number-found (y ∷ ys) (suc i) x rising within at own = grind (arith, find_by_number-found ys i x rising.1, above-at, ne_eqb)

  -- what is above a number is not of it
  find_by_number-above : (m : ℕ) (xs : List X) → n ≤ m → AreAbove number_of m xs → find_by_number number_of n xs ≡ None
  find_by_number-above m [] le above = refl
  find_by_number-above m (x ∷ xs) le above = grind (arith, find_by_number-above m xs le above.1, ne_eqb)

  -- where another thing stands at the place, or none, there is none of this number
  pub find_by_number-absent : (xs : List X) → AreRising number_of xs → ((d : X) → count_below number_of n xs < length xs → number_of (get_or xs (count_below number_of n xs) d) ≢ n) → find_by_number number_of n xs ≡ None
  find_by_number-absent [] rising other = refl
  find_by_number-absent (x ∷ xs) rising other =
      count_below-cases x xs (λ i. ((d : _) → i < suc (length xs) → number_of (get_or (x ∷ xs) i d) ≢ n) → find_by_number number_of n (x ∷ xs) ≡ None)
      (λ below others. rw (ne_eqb (number_of x) n (omega arith)) (find_by_number-absent xs rising.1 (λ d within. others d (omega arith))))
      (λ above others. rw (ne_eqb (number_of x) n (others x (omega arith))) (find_by_number-above (number_of x) xs above rising.0)) other

-- what was read at the place

module _ {X : Type 0} (number_of : X → ℕ) (n : ℕ) (xs : List X) (i : ℕ) where
  pub find_by_number-read : (x again : X) → AreRising number_of xs → i < length xs → x ≡ get_or xs i x → again ≡ get_or xs i again → number_of x ≡ n → Some again ≡ find_by_number number_of n xs
  find_by_number-read x again rising within at at_again own = grind (arith, get_or_default, find_by_number-found)

  pub find_by_number-other : (x : X) → AreRising number_of xs → i ≡ count_below number_of n xs → i < length xs → x ≡ get_or xs i x → number_of x ≢ n → find_by_number number_of n xs ≡ None
  find_by_number-other x rising place within at other = grind (arith, find_by_number-absent, get_or_default)

  pub find_by_number-past : AreRising number_of xs → i ≡ count_below number_of n xs → length xs ≤ i → find_by_number number_of n xs ≡ None
  find_by_number-past rising place past = find_by_number-absent number_of n xs rising (λ d below own. absurd (omega arith))

-- a mask of ones takes the remainder
pub masked : (number mask count : ℕ) → mask + 1 ≡ count → IsPowerOfTwo count → bit_and number mask ≡ number % count
masked number mask count h (k, e) =
    let m : mask ≡ 2 ^ k - 1 = omega arith in
    rw (m, e) (and_mask number k)

-- the lowest 32 bits
pub low-bits : (place : ℕ) → bit_and place 4294967295 ≡ place % 2 ^ 32
low-bits place = and_mask place 32

-- what stands at the remainder is the guess
module _ (places : List ℕ) (number : ℕ) where
  pub guessed : (found : ℕ) → 0 < length places → found ≡ get_or places (number % length places) found → found ≡ guess_of places number
  guessed found some h = grind (arith, get_or_default, mod-lt)

  -- what is put down for a number is its guess
  pub found-again : (place : ℕ) → 0 < length places → place < 2 ^ 32 → guess_of (with_guess places number place) number ≡ place
  found-again place some small =
      rw (length-set, mod-eq_of_lt small) (get_or-set_same places (number % length places) place 0 (mod-lt number some))
