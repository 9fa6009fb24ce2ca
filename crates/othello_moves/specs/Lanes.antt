-- Representation: words of an Othello board's bits side by side in one vector.
use Rattle.std.specs.Prelude.{ℕ, ◌*◌, ◌/◌, ◌%◌, ◌^◌, bit_and, bit_or}

-- a word shifted by k towards the greater squares
abbrev pub raised : ℕ → ℕ → ℕ
raised k word = word * 2 ^ k % 2 ^ 64

-- a word shifted by k towards the lower squares
abbrev pub lowered : ℕ → ℕ → ℕ
lowered k word = word / 2 ^ k

-- the squares that a shift by one step leads to from a line of at most 6 opposing discs of `over` with a disc of `own`
-- at its other end
abbrev pub reached : (ℕ → ℕ) → ℕ → ℕ → ℕ
reached shift own over =
    let pairs = bit_and over (shift over) in
    let one = bit_and over (shift own) in
    let two = bit_or one (bit_and over (shift one)) in
    let four = bit_or two (bit_and pairs (shift (shift two))) in
    shift (bit_or four (bit_and pairs (shift (shift four))))
