-- Representation: where a list's index guesses that a number's thing stands, and its table after guesses were put
-- down.
use Rattle.std.specs.Prelude.{ℕ, suc, ◌%◌, ◌^◌, List, [], ◌∷◌, length, slice_index, slice_set}

-- the guess for a number: the entry of the table at the number's remainder by the table's length
abbrev pub guess_of : List ℕ → ℕ → ℕ
guess_of places number = slice_index places (number % length places)

-- the table after `place` was put down for a number: the lowest 32 bits of it are kept
abbrev pub with_guess : List ℕ → ℕ → ℕ → List ℕ
with_guess places number place = slice_set places (number % length places) (place % 2 ^ 32)

-- an index's table of 256 guesses after the places of these things were put down, where the first of them stands at
-- `place`; of each place the remainder by 64 is kept
abbrev pub with_places : {X : Type 0} → (X → ℕ) → List X → ℕ → List ℕ → List ℕ
with_places number_of [] place table = table
with_places number_of (x ∷ xs) place table = with_places number_of xs (suc place) (slice_set table (number_of x % 256) (place % 64))
