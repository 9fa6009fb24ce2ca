-- The entries of a reply's table, read one after another for a session's TABLE line.
use Rattle.desk_office.proofs.Common.{◌≡◌, ℕ, zero, suc, ◌+◌, List, [], ◌∷◌, ◌++◌, take, get_or, Some, None, slice_get, arith, refl, sym, ap, ◌∙◌, take-suc, slice_get_within, slice_get-get_or}

one-more : (n : ℕ) → n + 1 ≡ suc n
one-more n = omega arith

-- an entry that is there is the next
pub read_one : {X : Type 0} (xs : List X) (n : ℕ) (x : X) → slice_get xs n ≡ Some x → take n xs ++ x ∷ [] ≡ take (n + 1) xs
read_one xs n x h =
    let within = slice_get_within xs n x h in
    let is : get_or xs n x ≡ x = let e = sym (slice_get-get_or xs n x within) ∙ h in cc e in
    sym (ap (λ k. take k xs) (one-more n) ∙ take-suc xs n x within ∙ ap (λ y. take n xs ++ y ∷ []) is)

-- where none is there, all were read
past : {X : Type 0} (xs : List X) (n : ℕ) → slice_get xs n ≡ None → take n xs ≡ take (suc n) xs
past [] zero h = refl
past [] (suc n) h = refl
past (x ∷ xs) zero h = cc h
past (x ∷ xs) (suc n) h = ap (λ ys. x ∷ ys) (past xs n h)

pub read_none : {X : Type 0} (xs : List X) (n : ℕ) → slice_get xs n ≡ None → take n xs ≡ take (n + 1) xs
read_none xs n h = past xs n h ∙ ap (λ k. take k xs) (sym (one-more n))
