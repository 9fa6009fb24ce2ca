-- Representation: the things of a worked example of a list by number: a number and what stands under it, one number
-- twice.
use Rattle.std.specs.Prelude.{ℕ, ◌+◌, List, [], ◌∷◌}

-- the number of a thing of the example: the first of the pair
abbrev pub number_in : ℕ × ℕ → ℕ
number_in pair = pair.0

-- what stands under the number of a thing of the example: the second of the pair
abbrev pub kept_in : ℕ × ℕ → ℕ
kept_in pair = pair.1

-- a list of four things, by their numbers 2, 5, 5 and 9
abbrev pub four_things : List (ℕ × ℕ)
four_things = (2, 20) ∷ (5, 50) ∷ (5, 51) ∷ (9, 90) ∷ []

-- the thing with 1 added to what stands under its number
abbrev pub raised : ℕ × ℕ → ℕ × ℕ
raised pair = (pair.0, pair.1 + 1)
