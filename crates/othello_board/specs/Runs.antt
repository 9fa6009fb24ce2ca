-- Representation: the run of opposing discs along one ray of an Othello board, in words of bits.
use Rattle.std.specs.Prelude.{ℕ, ◌+◌, ◌-◌, ◌*◌, ◌/◌, ◌%◌, ◌^◌, bit_and, bit_or}

-- the number that gives 0 when it is added to this one, in words of 64 bits
abbrev pub negated : ℕ → ℕ
negated word = (0 + (2 ^ 64 - word)) % 2 ^ 64

-- the squares of a ray on which no opposing disc stands
abbrev pub others : ℕ → ℕ → ℕ
others opp ray = bit_and ray (2 ^ 64 - 1 - opp)

-- the run along a ray whose squares rise in number: what lies below the lowest of the others, where that is own
abbrev pub rising_run : ℕ → ℕ → ℕ → ℕ
rising_run own opp ray =
    bit_and ray (bit_and (bit_and (others opp ray) (negated (others opp ray))) own - 1)

-- a word, and what 1, 2 and so on up to 7 shifts by k towards the lower squares make of it
abbrev pub lowered_to : ℕ → ℕ → ℕ
lowered_to k word =
    let two = bit_or word (word / 2 ^ k) in
    let four = bit_or two (two / 2 ^ k / 2 ^ k) in
    bit_or four (four / 2 ^ k / 2 ^ k / 2 ^ k / 2 ^ k)

-- the run along a ray whose squares fall in number, by k at each step: what lies above the one of the others that isn't
-- lower than another one, where that is own
abbrev pub falling_run : ℕ → ℕ → ℕ → ℕ → ℕ
falling_run k own opp ray =
    let end = bit_and (bit_and (others opp ray) (2 ^ 64 - 1 - lowered_to k (others opp ray) / 2 ^ k)) own in
    bit_and ray (negated end * 2 ^ 1 % 2 ^ 64)
