-- Representation: the frame table's lists, in the order of a number that each element has.
use Rattle.std.specs.Prelude.{ℕ, ◌<◌, ◌≤◌, ◌==◌, ◌||◌, Bool, false, List, [], ◌∷◌}
use Prim.Native.Nat.{zero, suc}

-- whether this number is in the list of numbers
abbrev pub has_number : List ℕ → ℕ → Bool
has_number [] n = false
has_number (first ∷ numbers) n = (first == n) || has_number numbers n

-- each element's number is n or above
abbrev pub AllFromBy : {X : Type 0} → (X → ℕ) → ℕ → List X → Type 0
AllFromBy number n [] = Unit {0}
AllFromBy number n (x ∷ xs) = (n ≤ number x) × AllFromBy number n xs

-- the place of number n, or where to insert it: the elements before have numbers below n, the others n or above
abbrev pub IsPlaceFor : {X : Type 0} → (X → ℕ) → List X → ℕ → ℕ → Type 0
IsPlaceFor number xs n zero = AllFromBy number n xs
IsPlaceFor number [] n (suc at) = ⊥
IsPlaceFor number (x ∷ xs) n (suc at) = (number x < n) × IsPlaceFor number xs n at
