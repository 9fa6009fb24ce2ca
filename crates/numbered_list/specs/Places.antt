-- Meaning: where a number's thing stands in a list of things that each have a number, such as accounts by tenant.
use Rattle.std.specs.Prelude.{◌≡◌, ◌≢◌, ℕ, ◌<◌, ◌==◌, ◌||◌, Bool, false, nat_lt, if◌then◌else◌, List, [], ◌∷◌, Option, Some, None}
use Rattle.std.specs.List.{AllByRecursion}
use Prim.Native.Nat.{zero, suc}

-- how many things at the front of a list have a number below this one. In a list that rises these are all that have
-- one: it is the place of the thing of this number, or the one where it would stand
abbrev pub count_below : {X : Type 0} → (X → ℕ) → ℕ → List X → ℕ
count_below number_of n [] = 0
count_below number_of n (x ∷ xs) = if nat_lt (number_of x) n then suc (count_below number_of n xs) else 0

-- the first thing of this number; None where there is none
abbrev pub find_by_number : {X : Type 0} → (X → ℕ) → ℕ → List X → Option X
find_by_number number_of n [] = None
find_by_number number_of n (x ∷ xs) = if number_of x == n then Some x else find_by_number number_of n xs

-- whether the list has a thing of this number
abbrev pub has_by_number : {X : Type 0} → (X → ℕ) → ℕ → List X → Bool
has_by_number number_of n [] = false
has_by_number number_of n (x ∷ xs) = (number_of x == n) || has_by_number number_of n xs

-- what `say` gives for the first thing of this number; `none` where there is no such thing
abbrev pub read_by_number : {X Y : Type 0} → (X → ℕ) → (X → Y) → Y → ℕ → List X → Y
read_by_number number_of say none n [] = none
read_by_number number_of say none n (x ∷ xs) = if number_of x == n then say x else read_by_number number_of say none n xs

-- the list with the first thing of this number changed by `change`; the list itself where there is none
abbrev pub change_by_number : {X : Type 0} → (X → ℕ) → ℕ → (X → X) → List X → List X
change_by_number number_of n change [] = []
change_by_number number_of n change (x ∷ xs) = if number_of x == n then change x ∷ xs else x ∷ change_by_number number_of n change xs

-- the list without the first thing of this number; the list itself where there is none
abbrev pub remove_by_number : {X : Type 0} → (X → ℕ) → ℕ → List X → List X
remove_by_number number_of n [] = []
remove_by_number number_of n (x ∷ xs) = if number_of x == n then xs else x ∷ remove_by_number number_of n xs

-- the list with one more thing, in front of the first whose number isn't below its own; at the end where there is none
abbrev pub inserted : {X : Type 0} → (X → ℕ) → X → List X → List X
inserted number_of new [] = new ∷ []
inserted number_of new (x ∷ xs) = if nat_lt (number_of x) (number_of new) then x ∷ inserted number_of new xs else new ∷ x ∷ xs

-- the first thing of this number stands at this place
abbrev pub IsAt : {X : Type 0} → (X → ℕ) → ℕ → List X → ℕ → Type 0
IsAt number_of n [] at = ⊥
IsAt number_of n (x ∷ xs) zero = number_of x ≡ n
IsAt number_of n (x ∷ xs) (suc at) = (number_of x ≢ n) × IsAt number_of n xs at

-- each thing of the list has a number above this one
abbrev pub AreAbove : {X : Type 0} → (X → ℕ) → ℕ → List X → Type 0
AreAbove number_of n xs = AllByRecursion (λ x. n < number_of x) xs

-- each thing's number is below those of all later things
abbrev pub AreRising : {X : Type 0} → (X → ℕ) → List X → Type 0
AreRising number_of [] = Unit {0}
AreRising number_of (x ∷ xs) = AreAbove number_of (number_of x) xs × AreRising number_of xs
