-- The pool's task deques: sums over what the seats of a deque pushed and took.
use Rattle.steal_pool.proofs.TaskDeques.Common.{◌≡◌, ℕ, zero, suc, ◌+◌, ◌≤◌, List, [], ◌∷◌, ◌++◌, length, set, sym, refl, ap, arith, some, some-injective, some-ne-none, get_elem?, at_set, at_snoc, Tally, Task, weigh, total, IdleIsEmpty}

pub weigh-append : (h : Task → ℕ) (xs ys : List Task) → weigh h (xs ++ ys) ≡ weigh h xs + weigh h ys
weigh-append h [] ys = omega arith
weigh-append h (x ∷ xs) ys = omega (arith, weigh-append h xs ys)

pub total-snoc : (f : Tally → ℕ) (l : List Tally) (v : Tally) → total f (l ++ v ∷ []) ≡ total f l + f v
total-snoc f [] v = omega arith
total-snoc f (x ∷ xs) v = omega (arith, total-snoc f xs v)

pub total-set : (f : Tally → ℕ) (l : List Tally) (j : ℕ) (v w : Tally) → get_elem? l j ≡ some v → total f (set l j w) + f v ≡ total f l + f w
total-set f (x ∷ xs) (suc j) v w e = omega (arith, total-set f xs j v w e)
total-set f l j v w e = grind arith

pub term-le : (f : Tally → ℕ) (l : List Tally) (j : ℕ) (v : Tally) → get_elem? l j ≡ some v → f v ≤ total f l
term-le f (x ∷ xs) (suc j) v e = omega (arith, term-le f xs j v e)
term-le f l j v e = grind arith

-- where f is 0 of each seat with no part, and no seat has a part, it is 0 of all
none-left : (f : Tally → ℕ) (l : List Tally) → ((j : ℕ) (u : Tally) → get_elem? l j ≡ some u → u.parts ≡ 0 → f u ≡ 0) → total (λ u. u.parts) l ≡ 0 → total f l ≡ 0
none-left f [] idle none = refl
none-left f (x ∷ xs) idle none = omega (arith, idle 0 x refl (omega arith), none-left f xs (λ j u e. idle (suc j) u e) (omega arith))

-- the seat with all parts has the whole
pub alone : (f : Tally → ℕ) (l : List Tally) (j : ℕ) (v : Tally) → get_elem? l j ≡ some v → total (λ u. u.parts) l ≡ v.parts → ((j : ℕ) (u : Tally) → get_elem? l j ≡ some u → u.parts ≡ 0 → f u ≡ 0) → total f l ≡ f v
alone f [] j v e all idle = absurd (some-ne-none v (sym e))
alone f (x ∷ xs) zero v e all idle =
    let same = some-injective x v e in
    omega (arith, ap f same, none-left f xs (λ j u d. idle (suc j) u d) (omega (arith, ap (λ (u : Tally). u.parts) same)))
alone f (x ∷ xs) (suc j) v e all idle =
    let least = term-le (λ u. u.parts) xs j v e in
    omega (arith, idle 0 x refl (omega arith), alone f xs j v e (omega arith) (λ k u d. idle (suc k) u d))

pub idle-set : (l : List Tally) (j : ℕ) (w : Tally) → (w.parts ≡ 0 → (w.pushed ≡ []) × (w.taken ≡ [])) → IdleIsEmpty l → IdleIsEmpty (set l j w)
idle-set l j w mine others k u e none = grind (arith, at_set)

pub idle-snoc : (l : List Tally) (w : Tally) → (w.parts ≡ 0 → (w.pushed ≡ []) × (w.taken ≡ [])) → IdleIsEmpty l → IdleIsEmpty (l ++ w ∷ [])
idle-snoc l w mine others k u e none = grind (arith, at_snoc)

pub weigh-one : (xs : List Task) → weigh (λ _. 1) xs ≡ length xs
weigh-one [] = refl
weigh-one (x ∷ xs) = omega (arith, weigh-one xs)
