-- A list of things that each have a number (such as accounts by tenant): what a change of one thing, a removal and an
-- insertion leave of the thing itself, of all others, of the order, and of lengths and sums.
use Rattle.std.proofs.Common.{◌≡◌, ◌≢◌, ℕ, zero, suc, ◌+◌, ◌-◌, ◌<◌, ◌≤◌, true, false, cond, eqb, ltb, List, [], ◌∷◌, ◌++◌, length, get_or, set, Option, Some}
use Rattle.std.proofs.Common.{None, refl, ap, sym, ◌∙◌, subst, inl, inr, arith}
use Rattle.std.specs.Prelude.{sum_by, IfSome, IfNone, option_copied}
use Rattle.std.specs.Borrow.{Bor}
use Rattle.std.specs.List.{insert, remove, AllByRecursion}
use Rattle.std.proofs.lemmas.Bool.{cases_Bool, false≢true, ltb-true, ltb-false, eq-eqb, ne_eqb, eqb-true, eqb-false, or_parts}
use Rattle.std.proofs.lemmas.List.{get_or_default}
use Rattle.std.proofs.lemmas.List.Edits.{length-insert}
use Rattle.std.proofs.lemmas.List.Sums.{sum_by-insert, sum_by-cons}
use Rattle.numbered_list.specs.Places.{count_below, find_by_number, has_by_number, read_by_number, change_by_number, remove_by_number, inserted, IsAt}
use Rattle.numbered_list.specs.Places.{AreAbove, AreRising}
use Rattle.numbered_list.proofs.Places.{count_below-cases, count_below-le-length}

-- what each thing has

module _ {X : Type 0} (P : X → Type 0) where
  pub all-at : (xs : List X) (i : ℕ) (d : X) → AllByRecursion P xs → i < length xs → P (get_or xs i d)
  all-at [] i d all lt = absurd (omega arith)
  all-at (x ∷ xs) zero d all lt = all.0
  all-at (x ∷ xs) (suc i) d all lt = all-at xs i d all.1 (omega arith)

  pub all-map : (Q : X → Type 0) → ((x : X) → P x → Q x) → (xs : List X) → AllByRecursion P xs → AllByRecursion Q xs
  all-map Q more [] all = tt
  all-map Q more (x ∷ xs) all = (more x all.0, all-map Q more xs all.1)

  pub all-of : (number_of : X → ℕ) (n : ℕ) (x : X) (xs : List X) → find_by_number number_of n xs ≡ Some x → AllByRecursion P xs → P x
  all-of number_of n x [] is all = absurd cc
  all-of number_of n x (y ∷ ys) is all = elim (cases_Bool (eqb (number_of y) n)) [
    | inl same ↦ (let here : Some y ≡ Some x = rw same at is in let own : y ≡ x = cc in subst P own all.0)
    | inr other ↦ all-of number_of n x ys (rw other at is) all.1
  ]

  pub all-insert : (xs : List X) (i : ℕ) (new : X) → AllByRecursion P xs → P new → AllByRecursion P (insert xs i new)
  all-insert [] zero new all p = (p, tt)
  all-insert [] (suc i) new all p = (p, tt)
  all-insert (x ∷ xs) zero new all p = (p, all)
  all-insert (x ∷ xs) (suc i) new all p = (all.0, all-insert xs i new all.1 p)

  pub all-push : (new : X) (xs : List X) → P new → AllByRecursion P xs → AllByRecursion P (xs ++ new ∷ [])
  all-push new [] p all = (p, tt)
  all-push new (x ∷ xs) p all = (all.0, all-push new xs p all.1)

-- the thing that is found has the number
pub thing-own : {X : Type 0} (number_of : X → ℕ) (n : ℕ) (xs : List X) (x : X) → find_by_number number_of n xs ≡ Some x → number_of x ≡ n
thing-own number_of n [] x is = absurd cc
thing-own number_of n (y ∷ ys) x is = elim (cases_Bool (eqb (number_of y) n)) [
  | inl same ↦ (let here : Some y ≡ Some x = rw same at is in let own : y ≡ x = cc in ap number_of (sym own) ∙ eqb-true (number_of y) n same)
  | inr other ↦ thing-own number_of n ys x (rw other at is)
]

-- what is said of it, and of none
module _ {X Y : Type 0} (number_of : X → ℕ) (say : X → Y) (none : Y) (n : ℕ) where
  pub said-found : (xs : List X) (x : X) → find_by_number number_of n xs ≡ Some x → read_by_number number_of say none n xs ≡ say x
  said-found [] x is = absurd cc
  said-found (y ∷ ys) x is = elim (cases_Bool (eqb (number_of y) n)) [
    | inl same ↦ (let here : Some y ≡ Some x = rw same at is in let own : y ≡ x = cc in rw same (ap say own))
    | inr other ↦ rw other (said-found ys x (rw other at is))
  ]

  pub said-none : (xs : List X) → find_by_number number_of n xs ≡ None → read_by_number number_of say none n xs ≡ none
  said-none [] is = refl
  said-none (y ∷ ys) is =
      elim (cases_Bool (eqb (number_of y) n)) [ inl same ↦ (let here : Some y ≡ None = rw same at is in absurd cc) | inr other ↦ rw other (said-none ys (rw other at is)) ]

  pub said-lacks : (xs : List X) → has_by_number number_of n xs ≡ false → read_by_number number_of say none n xs ≡ none
  said-lacks [] lacks = refl
  said-lacks (x ∷ xs) lacks =
      let parts = or_parts (eqb (number_of x) n) (has_by_number number_of n xs) lacks in rw parts.0 (said-lacks xs parts.1)

module _ {X : Type 0} (number_of : X → ℕ) (n : ℕ) where
  pub has-found : (xs : List X) (x : X) → find_by_number number_of n xs ≡ Some x → has_by_number number_of n xs ≡ true
  has-found [] x is = absurd cc
  has-found (y ∷ ys) x is =
      elim (cases_Bool (eqb (number_of y) n)) [ inl same ↦ rw same refl | inr other ↦ rw other (has-found ys x (rw other at is)) ]

  pub thing-there : (xs : List X) → has_by_number number_of n xs ≡ true → (x : X) × (find_by_number number_of n xs ≡ Some x)
  thing-there [] there = absurd (false≢true there)
  thing-there (x ∷ xs) there =
      elim (cases_Bool (eqb (number_of x) n)) [ inl same ↦ (x, rw same refl) | inr other ↦ (let rest = thing-there xs (rw other at there) in (rest.0, rw other rest.1)) ]

module _ {X Y : Type 0} (number_of : X → ℕ) (say : X → Y) (none : Y) (n : ℕ) where
  pub lacks-said : (xs : List X) → ((x : X) → say x ≢ none) → read_by_number number_of say none n xs ≡ none → has_by_number number_of n xs ≡ false
  lacks-said [] tells is = refl
  lacks-said (x ∷ xs) tells is =
      elim (cases_Bool (eqb (number_of x) n)) [ inl same ↦ absurd (tells x (rw same at is)) | inr other ↦ rw other (lacks-said xs tells (rw other at is)) ]

  -- the same of what a search has found
  pub found-said : (xs : List X) (found : Option (Bor X)) → option_copied found ≡ find_by_number number_of n xs → IfSome found (λ x. read_by_number number_of say none n xs ≡ say x.now)
  found-said xs None is = tt
  found-said xs (Some x) is = said-found number_of say none n xs x.now (sym is)

  pub found-none : (xs : List X) (found : Option (Bor X)) → option_copied found ≡ find_by_number number_of n xs → IfNone found (read_by_number number_of say none n xs ≡ none)
  found-none xs None is = said-none number_of say none n xs (sym is)
  found-none xs (Some x) is = tt

-- none is there where all are above
module _ {X : Type 0} (number_of : X → ℕ) (n m : ℕ) where
  pub has-above : (xs : List X) → n ≤ m → AreAbove number_of m xs → has_by_number number_of n xs ≡ false
  has-above [] le above = refl
  has-above (x ∷ xs) le above = grind (arith, has-above xs le above.1, ne_eqb)

  -- a thing that is there is above what all are above
  below-own : (xs : List X) → AreAbove number_of m xs → has_by_number number_of n xs ≡ true → m < n
  below-own [] above there = absurd (false≢true there)
  below-own (x ∷ xs) above there = elim (cases_Bool (eqb (number_of x) n)) [
    | inl same ↦ (let e = eqb-true (number_of x) n same in let lt : m < number_of x = above.0 in omega (arith, e, lt))
    | inr other ↦ below-own xs above.1 (rw other at there)
  ]

-- the place of a thing that is there, and what stands there

module _ {X : Type 0} (number_of : X → ℕ) (n : ℕ) where
  pub place-there : (xs : List X) → AreRising number_of xs → has_by_number number_of n xs ≡ true → IsAt number_of n xs (count_below number_of n xs)
  place-there [] rising there = absurd (false≢true there)
  place-there (x ∷ xs) rising there = elim (cases_Bool (eqb (number_of x) n)) [
    | inl same ↦ grind (arith, eqb-true, count_below-cases)
    | inr other ↦ (let later : has_by_number number_of n xs ≡ true = rw other at there in
        let lt = below-own number_of n (number_of x) xs rising.0 later in
        count_below-cases number_of n x xs (λ at. IsAt number_of n (x ∷ xs) at) (λ below. (eqb-false (number_of x) n other, place-there xs rising.1 later)) (λ above. absurd (omega (arith, lt, above))))
  ]

  pub place-found : (xs : List X) (at : ℕ) → AreRising number_of xs → has_by_number number_of n xs ≡ true → at ≡ count_below number_of n xs → IsAt number_of n xs at
  place-found xs at rising there is = rw is (place-there xs rising there)

  -- `read` is what was searched
  pub place-read : (xs read : List X) (at : ℕ) → AreRising number_of xs → has_by_number number_of n xs ≡ true → read ≡ xs → at ≡ count_below number_of n read → IsAt number_of n xs at
  place-read xs read at rising there same is = place-found xs at rising there (is ∙ ap (count_below number_of n) same)

  pub at-within : (xs : List X) (i : ℕ) → IsAt number_of n xs i → i < length xs
  at-within [] i at = absurd at
  at-within (x ∷ xs) zero at = omega arith
  at-within (x ∷ xs) (suc i) at = (let rest = at-within xs i at.1 in omega (arith, rest))

  pub at-thing : (xs : List X) (i : ℕ) (x : X) → IsAt number_of n xs i → x ≡ get_or xs i x → find_by_number number_of n xs ≡ Some x
  at-thing [] i x at is = absurd at
  at-thing (y ∷ ys) zero x at is = rw (eq-eqb (number_of y) n at) (ap (λ (z : _). Some z) (sym is))
  at-thing (y ∷ ys) (suc i) x at is = rw (ne_eqb (number_of y) n at.0) (at-thing ys i x at.1 is)

-- the edits of a list at a place

module _ {X : Type 0} (number_of : X → ℕ) (n : ℕ) (change : X → X) where
  pub at-set : (xs : List X) (i : ℕ) (x y : X) → IsAt number_of n xs i → x ≡ get_or xs i x → y ≡ change x → set xs i y ≡ change_by_number number_of n change xs
  at-set [] i x y at is new = absurd at
  at-set (z ∷ zs) zero x y at is new = rw (eq-eqb (number_of z) n at) (ap (λ (w : _). w ∷ zs) (new ∙ ap change is))
  at-set (z ∷ zs) (suc i) x y at is new = rw (ne_eqb (number_of z) n at.0) (ap (λ (rest : List _). z ∷ rest) (at-set zs i x y at.1 is new))

  -- what was found, written anew
  pub put-changed : (xs : List X) (x y : X) → find_by_number number_of n xs ≡ Some x → y ≡ change x → change_by_number number_of n (λ was. y) xs ≡ change_by_number number_of n change xs
  put-changed [] x y is new = refl
  put-changed (z ∷ zs) x y is new = elim (cases_Bool (eqb (number_of z) n)) [
    | inl same ↦ (let here : Some z ≡ Some x = rw same at is in let own : z ≡ x = cc in rw same (ap (λ (w : _). w ∷ zs) (new ∙ ap change (sym own))))
    | inr other ↦ rw other (ap (λ (rest : List _). z ∷ rest) (put-changed zs x y (rw other at is) new))
  ]

-- put back as it was
module _ {X : Type 0} (number_of : X → ℕ) where
  pub with-same : (n : ℕ) (xs : List X) → change_by_number number_of n (λ x. x) xs ≡ xs
  with-same n [] = refl
  with-same n (x ∷ xs) = grind (arith, with-same n xs)

  pub put-same : (n : ℕ) (xs : List X) (x : X) → find_by_number number_of n xs ≡ Some x → change_by_number number_of n (λ was. x) xs ≡ xs
  put-same n xs x is = put-changed number_of n (λ y. y) xs x x is refl ∙ with-same n xs

  pub at-put : (n : ℕ) (xs : List X) (i : ℕ) (y : X) → IsAt number_of n xs i → set xs i y ≡ change_by_number number_of n (λ x. y) xs
  at-put n xs i y at = at-set number_of n (λ x. y) xs i (get_or xs i y) y at (get_or_default xs i y (get_or xs i y) (at-within number_of n xs i at)) refl

  pub at-removed : (n : ℕ) (xs : List X) (i : ℕ) → IsAt number_of n xs i → remove xs i ≡ remove_by_number number_of n xs
  at-removed n [] i at = absurd at
  at-removed n (x ∷ xs) zero at = rw (eq-eqb (number_of x) n at) refl
  at-removed n (x ∷ xs) (suc i) at = rw (ne_eqb (number_of x) n at.0) (ap (λ (rest : List _). x ∷ rest) (at-removed n xs i at.1))

  pub place-inserted : (new : X) (xs : List X) → insert xs (count_below number_of (number_of new) xs) new ≡ inserted number_of new xs
  place-inserted new [] = refl
  place-inserted new (x ∷ xs) = grind (arith, place-inserted new xs)

  pub inserted-read : (n : ℕ) (new : X) (xs read : List X) (at : ℕ) → read ≡ xs → n ≡ number_of new → at ≡ count_below number_of n read → (at ≤ length xs) × (insert xs at new ≡ inserted number_of new xs)
  inserted-read n new xs read at same own is = grind (arith, count_below-le-length, place-inserted)

-- one thing changed, to one of the same number

module _ {X Y : Type 0} (number_of : X → ℕ) (say : X → Y) (none : Y) where
  pub said-with-own : (after : Y → Y) (n : ℕ) (change : X → X) (xs : List X) → ((x : X) → number_of x ≡ n → number_of (change x) ≡ n) →
      ((x : X) → say (change x) ≡ after (say x)) → (has_by_number number_of n xs ≡ false → after none ≡ none) →
      read_by_number number_of say none n (change_by_number number_of n change xs) ≡ after (read_by_number number_of say none n xs)
  said-with-own after n change [] keeps changes gone = sym (gone refl)
  said-with-own after n change (x ∷ xs) keeps changes gone = grind (arith, said-with-own after n change xs keeps changes, eq-eqb, eqb-true)

  pub said-with-other : (m n : ℕ) (change : X → X) (xs : List X) → n ≢ m → ((x : X) → number_of x ≡ n → number_of (change x) ≡ n) →
      read_by_number number_of say none m (change_by_number number_of n change xs) ≡ read_by_number number_of say none m xs
  said-with-other m n change [] differs keeps = refl
  said-with-other m n change (x ∷ xs) differs keeps = grind (arith, said-with-other m n change xs differs keeps, eqb-true, ne_eqb)

pub thing-with : {X : Type 0} (number_of : X → ℕ) (n : ℕ) (change : X → X) (xs : List X) (x : X) → ((x : X) → number_of x ≡ n → number_of (change x) ≡ n) →
    find_by_number number_of n xs ≡ Some x → find_by_number number_of n (change_by_number number_of n change xs) ≡ Some (change x)
thing-with number_of n change [] x keeps is = absurd cc
thing-with number_of n change (y ∷ ys) x keeps is = elim (cases_Bool (eqb (number_of y) n)) [
  | inl same ↦ grind (arith, eq-eqb, eqb-true)
  | inr other ↦ rw (other, other) (thing-with number_of n change ys x keeps (rw other at is))
]

pub all-with : {X : Type 0} (P : X → Type 0) (number_of : X → ℕ) (n : ℕ) (change : X → X) (xs : List X) → AllByRecursion P xs →
    ((x : X) → P x → find_by_number number_of n xs ≡ Some x → P (change x)) → AllByRecursion P (change_by_number number_of n change xs)
all-with P number_of n change [] all step = tt
all-with P number_of n change (x ∷ xs) all step = grind (arith, all-with P number_of n change xs all.1)

module _ {X : Type 0} (number_of : X → ℕ) (n : ℕ) (change : X → X) where
  pub rising-with : (xs : List X) → ((x : X) → number_of x ≡ n → number_of (change x) ≡ n) → AreRising number_of xs → AreRising number_of (change_by_number number_of n change xs)
  rising-with [] keeps rising = tt
  rising-with (x ∷ xs) keeps rising = elim (cases_Bool (eqb (number_of x) n)) [
    | inl same ↦ (let own = eqb-true (number_of x) n same in rw same (subst (λ (k : ℕ). AreAbove number_of k xs) (own ∙ sym (keeps x own)) rising.0, rising.1))
    | inr other ↦ rw other (
      all-with (λ y. number_of x < number_of y) number_of n change xs rising.0 (λ y lt is. (let own = thing-own number_of n xs y is in subst (λ (k : ℕ). number_of x < k) (own ∙ sym (keeps y own)) lt)),
      rising-with xs keeps rising.1,
    )
  ]

  pub length-with : (xs : List X) → length (change_by_number number_of n change xs) ≡ length xs
  length-with [] = refl
  length-with (x ∷ xs) = grind (arith, length-with xs)

module _ {X : Type 0} (g number_of : X → ℕ) (n : ℕ) (change : X → X) where
  pub sum_by-with : (x : X) (xs : List X) → find_by_number number_of n xs ≡ Some x → sum_by g (change_by_number number_of n change xs) + g x ≡ sum_by g xs + g (change x)
  sum_by-with x [] is = absurd cc
  sum_by-with x (y ∷ ys) is = elim (cases_Bool (eqb (number_of y) n)) [
    | inl same ↦ grind (arith, sum_by-cons)
    | inr other ↦ (let rest = sum_by-with x ys (rw other at is) in
        rw other (omega (arith, rest, sum_by-cons g y ys, sum_by-cons g y (change_by_number number_of n change ys))))
  ]

  -- where the change keeps the term, the sum stays
  pub sum_by-with-same : (xs : List X) → ((x : X) → g (change x) ≡ g x) → sum_by g (change_by_number number_of n change xs) ≡ sum_by g xs
  sum_by-with-same [] keeps = refl
  sum_by-with-same (x ∷ xs) keeps = elim (cases_Bool (eqb (number_of x) n)) [
    | inl same ↦ rw same (omega (arith, keeps x, sum_by-cons g x xs, sum_by-cons g (change x) xs))
    | inr other ↦ (let rest = sum_by-with-same xs keeps in rw other (omega (arith, rest, sum_by-cons g x xs, sum_by-cons g x (change_by_number number_of n change xs))))
  ]

-- one thing gone

module _ {X Y : Type 0} (number_of : X → ℕ) (say : X → Y) (none : Y) where
  pub said-without-own : (n : ℕ) (xs : List X) → AreRising number_of xs → read_by_number number_of say none n (remove_by_number number_of n xs) ≡ none
  said-without-own n [] rising = refl
  said-without-own n (x ∷ xs) rising = grind (arith, said-without-own n xs rising.1, eqb-true, said-lacks, has-above)

  pub said-without-other : (m n : ℕ) (xs : List X) → n ≢ m → read_by_number number_of say none m (remove_by_number number_of n xs) ≡ read_by_number number_of say none m xs
  said-without-other m n [] differs = refl
  said-without-other m n (x ∷ xs) differs = grind (arith, said-without-other m n xs differs, ne_eqb, eqb-true)

pub all-without : {X : Type 0} (P : X → Type 0) (number_of : X → ℕ) (n : ℕ) (xs : List X) → AllByRecursion P xs → AllByRecursion P (remove_by_number number_of n xs)
all-without P number_of n [] all = tt
all-without P number_of n (x ∷ xs) all = grind (arith, all-without P number_of n xs all.1)

module _ {X : Type 0} (number_of : X → ℕ) (n : ℕ) where
  pub rising-without : (xs : List X) → AreRising number_of xs → AreRising number_of (remove_by_number number_of n xs)
  rising-without [] rising = tt
  rising-without (x ∷ xs) rising = grind (arith, rising-without xs rising.1, all-without)

  pub length-without : (xs : List X) → has_by_number number_of n xs ≡ true → length (remove_by_number number_of n xs) + 1 ≡ length xs
  length-without [] there = absurd (false≢true there)
  length-without (x ∷ xs) there =
      elim (cases_Bool (eqb (number_of x) n)) [ inl same ↦ rw same (omega arith) | inr other ↦ (let rest = length-without xs (rw other at there) in rw other (omega (arith, rest))) ]

pub sum_by-without : {X : Type 0} (g : X → ℕ) (number_of : X → ℕ) (n : ℕ) (x : X) (xs : List X) → find_by_number number_of n xs ≡ Some x → sum_by g (remove_by_number number_of n xs) + g x ≡ sum_by g xs
sum_by-without g number_of n x [] is = absurd cc
sum_by-without g number_of n x (y ∷ ys) is = elim (cases_Bool (eqb (number_of y) n)) [
  | inl same ↦ (let here : Some y ≡ Some x = rw same at is in let own : y ≡ x = cc in let term = ap g own in rw same (omega (arith, term, sum_by-cons g y ys)))
  | inr other ↦ (let rest = sum_by-without g number_of n x ys (rw other at is) in rw other (omega (arith, rest, sum_by-cons g y ys, sum_by-cons g y (remove_by_number number_of n ys))))
]

-- one thing more

module _ {X Y : Type 0} (number_of : X → ℕ) (say : X → Y) (none : Y) where
  pub said-insert-own : (xs : List X) (i : ℕ) (new : X) → has_by_number number_of (number_of new) xs ≡ false → read_by_number number_of say none (number_of new) (insert xs i new) ≡ say new
  said-insert-own [] zero new lacks = rw (eq-eqb (number_of new) (number_of new) refl) refl
  said-insert-own [] (suc i) new lacks = rw (eq-eqb (number_of new) (number_of new) refl) refl
  said-insert-own (x ∷ xs) zero new lacks = rw (eq-eqb (number_of new) (number_of new) refl) refl
  said-insert-own (x ∷ xs) (suc i) new lacks =
      let parts = or_parts (eqb (number_of x) (number_of new)) (has_by_number number_of (number_of new) xs) lacks in rw parts.0 (said-insert-own xs i new parts.1)

  pub said-insert-other : (m : ℕ) (xs : List X) (i : ℕ) (new : X) → number_of new ≢ m → read_by_number number_of say none m (insert xs i new) ≡ read_by_number number_of say none m xs
  said-insert-other m [] zero new differs = rw (ne_eqb (number_of new) m differs) refl
  said-insert-other m [] (suc i) new differs = rw (ne_eqb (number_of new) m differs) refl
  said-insert-other m (x ∷ xs) zero new differs = rw (ne_eqb (number_of new) m differs) refl
  said-insert-other m (x ∷ xs) (suc i) new differs = ap (λ (rest : _). cond (eqb (number_of x) m) (say x) rest) (said-insert-other m xs i new differs)

-- at its place

module _ {X Y : Type 0} (number_of : X → ℕ) (say : X → Y) (none : Y) where
  pub said-inserted-own : (new : X) (xs : List X) → has_by_number number_of (number_of new) xs ≡ false → read_by_number number_of say none (number_of new) (inserted number_of new xs) ≡ say new
  said-inserted-own new xs lacks = rw (← place-inserted number_of new xs) (said-insert-own number_of say none xs (count_below number_of (number_of new) xs) new lacks)

  pub said-inserted-other : (m : ℕ) (new : X) (xs : List X) → number_of new ≢ m → read_by_number number_of say none m (inserted number_of new xs) ≡ read_by_number number_of say none m xs
  said-inserted-other m new xs differs = rw (← place-inserted number_of new xs) (said-insert-other number_of say none m xs (count_below number_of (number_of new) xs) new differs)

pub all-inserted : {X : Type 0} (P : X → Type 0) (number_of : X → ℕ) (new : X) (xs : List X) → P new → AllByRecursion P xs → AllByRecursion P (inserted number_of new xs)
all-inserted P number_of new xs p all = rw (← place-inserted number_of new xs) (all-insert P xs (count_below number_of (number_of new) xs) new all p)

module _ {X : Type 0} (number_of : X → ℕ) (new : X) where
  pub rising-inserted : (xs : List X) → AreRising number_of xs → has_by_number number_of (number_of new) xs ≡ false → AreRising number_of (inserted number_of new xs)
  rising-inserted [] rising lacks = (tt, tt)
  rising-inserted (x ∷ xs) rising lacks =
      let parts = or_parts (eqb (number_of x) (number_of new)) (has_by_number number_of (number_of new) xs) lacks in
      elim (cases_Bool (ltb (number_of x) (number_of new))) [
        | inl less ↦ (let lt = ltb-true (number_of x) (number_of new) less in rw less (all-inserted (λ y. number_of x < number_of y) number_of new xs lt rising.0, rising-inserted xs rising.1 parts.1))
        | inr not_less ↦ grind (arith, ltb-false, eqb-false, all-map)
      ]

  pub length-inserted : (xs : List X) → length (inserted number_of new xs) ≡ length xs + 1
  length-inserted xs = rw (← place-inserted number_of new xs) (length-insert xs (count_below number_of (number_of new) xs) new (count_below-le-length number_of (number_of new) xs))

module _ {X : Type 0} where
  pub sum_by-inserted : (g number_of : X → ℕ) (new : X) (xs : List X) → sum_by g (inserted number_of new xs) ≡ sum_by g xs + g new
  sum_by-inserted g number_of new xs = rw (← place-inserted number_of new xs) (sum_by-insert g xs (count_below number_of (number_of new) xs) new)

  -- behind all others
  pub rising-push : (number_of : X → ℕ) (new : X) (xs : List X) → AllByRecursion (λ x. number_of x < number_of new) xs → AreRising number_of xs → AreRising number_of (xs ++ new ∷ [])
  rising-push number_of new [] below rising = (tt, tt)
  rising-push number_of new (x ∷ xs) below rising = (all-push (λ y. number_of x < number_of y) new xs below.0 rising.0, rising-push number_of new xs below.1 rising.1)

-- what one thing has of h beyond g lies within what all together have

module _ {X : Type 0} (g h : X → ℕ) where
  sum_by-le : (xs : List X) → AllByRecursion (λ x. g x ≤ h x) xs → sum_by g xs ≤ sum_by h xs
  sum_by-le [] all = omega arith
  sum_by-le (x ∷ xs) all = let first : g x ≤ h x = all.0 in omega (arith, first, sum_by-cons g x xs, sum_by-cons h x xs, sum_by-le xs all.1)

  pub sum_by-le-with : (number_of : X → ℕ) (n : ℕ) (x : X) (xs : List X) → find_by_number number_of n xs ≡ Some x → AllByRecursion (λ x. g x ≤ h x) xs → sum_by g xs + (h x - g x) ≤ sum_by h xs
  sum_by-le-with number_of n x [] is all = absurd cc
  sum_by-le-with number_of n x (y ∷ ys) is all =
      let first : g y ≤ h y = all.0 in
      elim (cases_Bool (eqb (number_of y) n)) [
        | inl same ↦ grind (arith, sum_by-cons, sum_by-le)
        | inr other ↦ omega (arith, first, sum_by-cons g y ys, sum_by-cons h y ys, sum_by-le-with number_of n x ys (rw other at is) all.1)
      ]
