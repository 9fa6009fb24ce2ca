-- What stands in a list, as of a region's places, after one of its places was written.
use Rattle.segment_region.proofs.Common.{◌≡◌, ℕ, List, [], ◌∷◌, suc, zero, set, replicate, get_or, refl, sym, ap, ◌∙◌}

module _ {A : Type 0} where
  -- what holds of the written value, and held of a place, holds of the place
  pub set-holds : (P : A → Type 0) (xs : List A) (n m : ℕ) (x d : A) → (m ≡ n → P x) → P (get_or xs m d) → P (get_or (set xs n x) m d)
  set-holds P [] n m x d here there = there
  set-holds P (y ∷ xs) zero zero x d here there = here refl
  set-holds P (y ∷ xs) zero (suc m) x d here there = there
  set-holds P (y ∷ xs) (suc n) zero x d here there = there
  set-holds P (y ∷ xs) (suc n) (suc m) x d here there = set-holds P xs n m x d (λ e. here (ap suc e)) there

  -- what is the same of the written value and of that before is the same at each place
  pub set-keeps : {B : Type 0} (f : A → B) (xs : List A) (n m : ℕ) (x d : A) → f x ≡ f (get_or xs n d) → f (get_or (set xs n x) m d) ≡ f (get_or xs m d)
  set-keeps f xs n m x d same = set-holds (λ a. f a ≡ f (get_or xs m d)) xs n m x d (λ e. same ∙ ap (λ k. f (get_or xs k d)) (sym e)) refl

-- a list of one value has it at each place, and past its end
pub get_or-blanks : {A : Type 0} (count n : ℕ) (d : A) → get_or (replicate count d) n d ≡ d
get_or-blanks zero n d = refl
get_or-blanks (suc count) zero d = refl
get_or-blanks (suc count) (suc n) d = get_or-blanks count n d
