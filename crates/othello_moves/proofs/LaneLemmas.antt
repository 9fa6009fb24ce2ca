-- The words in the lanes of a vector, and the legal squares of an Othello board that they make.
use Rattle.othello_moves.proofs.Common.{◌≡◌, ℕ, ◌+◌, ◌-◌, ◌*◌, ◌^◌, ◌<◌, not, filter, bit_and, bit_or, inl, inr, refl, ap, ap₂, ◌∙◌, arith, cases_lt, bit_at, bit_at-left, bit_at-right, bit_at_above, bit_at_cat_high, or_lt, and_le_l, and_le_r, mod_below, shr_le, or_comm, bit_at_and, bit_at_or, bit_at_ones, same_from_bits, Direction, North, NorthEast, East, SouthEast, South, SouthWest, West, NorthWest, run, is_legal, squares, is_nil, cells_of, bits_of, opposite, slid_from, bit_there, slid-up, slid-down, raised, lowered, reached}
use Rattle.std.proofs.Common.{pow_pos}
use Rattle.othello_moves.proofs.LeadLemmas.{bit_of, inside, inside-bit, middle-bit, paired, paired-bit, led, led-one, led-more, led-two-more, start-bit, starts-bit, legal-bit, word-of-passing}

-- what a lane reaches is where a run begins
reached-bits : (shift : ℕ → ℕ) (own opp over : ℕ) (d : Direction)
    → ((x : ℕ) → x < 2 ^ 64 → (t : ℕ) → t < 64 → bit_at (shift x) t ≡ bit_there x (slid_from (opposite d) t))
    → ((x : ℕ) → x < 2 ^ 64 → shift x < 2 ^ 64)
    → own < 2 ^ 64 → over < 2 ^ 64
    → ((t : ℕ) → t < 64 → bit_at over t ≡ bit_of (inside (cells_of own opp) d t))
    → (t : ℕ) → t < 64 → bit_at (reached shift own over) t ≡ bit_of (not (is_nil (run (cells_of own opp) t d)))
reached-bits shift own opp over d slides fits own_fits over_fits over_bits =
    let board = cells_of own opp in
    let pairs = bit_and over (shift over) in
    let one = bit_and over (shift own) in
    let two = bit_or one (bit_and over (shift one)) in
    let four = bit_or two (bit_and pairs (shift (shift two))) in
    let six = bit_or four (bit_and pairs (shift (shift four))) in
    let pairs_fit : pairs < 2 ^ 64 = omega (arith, and_le_l over (shift over)) in
    let one_fits : one < 2 ^ 64 = omega (arith, and_le_l over (shift own)) in
    let two_fits : two < 2 ^ 64 = or_lt 64 one (bit_and over (shift one)) one_fits (omega (arith, and_le_l over (shift one))) in
    let four_fits : four < 2 ^ 64 = or_lt 64 two (bit_and pairs (shift (shift two))) two_fits (omega (arith, and_le_l pairs (shift (shift two)))) in
    let six_fits : six < 2 ^ 64 = or_lt 64 four (bit_and pairs (shift (shift four))) four_fits (omega (arith, and_le_l pairs (shift (shift four)))) in
    let pair_bits : (t : ℕ) → t < 64 → bit_at pairs t ≡ bit_of (paired board d t) = paired-bit over (shift over) board d over_bits (slides over over_fits) in
    let one_bits : (t : ℕ) → t < 64 → bit_at one t ≡ bit_of (led 0 board d t) = led-one own opp over (shift own) d over_bits (slides own own_fits) in
    let two_bits : (t : ℕ) → t < 64 → bit_at two t ≡ bit_of (led 1 board d t) = led-more own opp over one (shift one) 0 d over_bits (slides one one_fits) one_bits in
    let four_bits : (t : ℕ) → t < 64 → bit_at four t ≡ bit_of (led 3 board d t) =
    led-two-more two pairs (shift two) (shift (shift two)) 0 board d pair_bits (slides two two_fits) (slides (shift two) (fits two two_fits)) two_bits in
    let six_bits : (t : ℕ) → t < 64 → bit_at six t ≡ bit_of (led 5 board d t) =
    led-two-more four pairs (shift four) (shift (shift four)) 2 board d pair_bits (slides four four_fits) (slides (shift four) (fits four four_fits)) four_bits in
    start-bit six (shift six) board d (slides six six_fits) six_bits

raised-fits : (k x : ℕ) → x < 2 ^ 64 → raised k x < 2 ^ 64
raised-fits k x h = mod_below (x * 2 ^ k) (2 ^ 64) (omega arith)

lowered-fits : (k x : ℕ) → x < 2 ^ 64 → lowered k x < 2 ^ 64
lowered-fits k x h = omega (arith, shr_le x k)

-- the pairs of a shift to the lower squares are those of a shift to the greater ones, shifted
raised-bit : (k o i : ℕ) → i + k < 64 → bit_at (raised k o) (i + k) ≡ bit_at o i
raised-bit k o i below =
    bit_at-left o k (i + k) below ∙ bit_at_cat_high o k 0 (i + k) (pow_pos k) (omega arith) ∙ ap (bit_at o) (omega arith)

pub pairs_lowered : (k o : ℕ) → o < 2 ^ 64 → lowered k (bit_and o (raised k o)) ≡ bit_and o (lowered k o)
pairs_lowered k o fits =
    same_from_bits _ _ (λ i. rw (bit_at-right (bit_and o (raised k o)) k i, bit_at_and o (raised k o) (i + k), bit_at_and o (lowered k o) i, bit_at-right o k i)
    (elim (cases_lt (i + k) 64) [
      | inl below ↦ rw (raised-bit k o i below) (omega arith)
      | inr over ↦ rw (bit_at_above o 64 (i + k) fits over) (omega arith)
    ]))

-- the opposing discs that may stand inside a run: all, or those of columns b to g
abbrev all_discs : ℕ → ℕ
all_discs opp = bit_and opp 18446744073709551615

abbrev inner_discs : ℕ → ℕ
inner_discs opp = bit_and opp 0x7e7e_7e7e_7e7e_7e7e

-- ---- all directions

pub both-lines : (own opp : ℕ) → own < 2 ^ 64 → opp < 2 ^ 64 → bit_and own opp ≡ 0
    → bit_and (bit_or
    (bit_or (bit_or (reached (lowered 8) own (all_discs opp)) (reached (raised 8) own (all_discs opp))) (bit_or (reached (lowered 7) own (inner_discs opp)) (reached (raised 7) own (inner_discs opp))))
    (bit_or (bit_or (reached (lowered 1) own (inner_discs opp)) (reached (raised 1) own (inner_discs opp))) (bit_or (reached (lowered 9) own (inner_discs opp)) (reached (raised 9) own (inner_discs opp)))))
    (2 ^ 64 - 1 - bit_or own opp)
    ≡ bits_of (filter (is_legal (cells_of own opp)) squares)
both-lines own opp own_fits opp_fits disjoint =
    let board = cells_of own opp in
    let inner = inner_discs opp in
    let s = reached (lowered 8) own (all_discs opp) in
    let n = reached (raised 8) own (all_discs opp) in
    let sw = reached (lowered 7) own inner in
    let ne = reached (raised 7) own inner in
    let e = reached (lowered 1) own inner in
    let w = reached (raised 1) own inner in
    let se = reached (lowered 9) own inner in
    let nw = reached (raised 9) own inner in
    let all_fit : all_discs opp < 2 ^ 64 = omega (arith, and_le_l opp 18446744073709551615) in
    let inner_fits : inner < 2 ^ 64 = omega (arith, and_le_l opp 0x7e7e_7e7e_7e7e_7e7e) in
    let all = bit_or (bit_or (bit_or s n) (bit_or sw ne)) (bit_or (bit_or e w) (bit_or se nw)) in
    let empty = 2 ^ 64 - 1 - bit_or own opp in
    let by_order : all ≡ bit_or (bit_or (bit_or n s) (bit_or ne sw)) (bit_or (bit_or e w) (bit_or se nw)) =
    ap₂ (λ x y. bit_or (bit_or x y) (bit_or (bit_or e w) (bit_or se nw))) (or_comm s n) (or_comm sw ne) in
    let lane : (shift : ℕ → ℕ) (over : ℕ) (d : Direction) → ((x : ℕ) → x < 2 ^ 64 → (t : ℕ) → t < 64 → bit_at (shift x) t ≡ bit_there x (slid_from (opposite d) t)) → ((x : ℕ) → x < 2 ^ 64 → shift x < 2 ^ 64) → over < 2 ^ 64 → ((t : ℕ) → t < 64 → bit_at over t ≡ bit_of (inside board d t)) → (t : ℕ) → t < 64 → bit_at (reached shift own over) t ≡ bit_of (not (is_nil (run board t d))) =
    λ shift over d slides fits over_fits over_bits. reached-bits shift own opp over d slides fits own_fits over_fits over_bits in
    let up : (k : ℕ) (d : Direction) → ((x : ℕ) (t : ℕ) → t < 64 → bit_at (raised k x) t ≡ bit_there x (slid_from (opposite d) t)) → ((t : ℕ) → t < 64 → bit_at inner t ≡ bit_of (inside board d t)) → (t : ℕ) → t < 64 → bit_at (reached (raised k) own inner) t ≡ bit_of (not (is_nil (run board t d))) =
    λ k d slides bits. lane (raised k) inner d (λ x h. slides x) (raised-fits k) inner_fits bits in
    let down : (k : ℕ) (d : Direction) → ((x : ℕ) → x < 2 ^ 64 → (t : ℕ) → t < 64 → bit_at (lowered k x) t ≡ bit_there x (slid_from (opposite d) t)) → ((t : ℕ) → t < 64 → bit_at inner t ≡ bit_of (inside board d t)) → (t : ℕ) → t < 64 → bit_at (reached (lowered k) own inner) t ≡ bit_of (not (is_nil (run board t d))) =
    λ k d slides bits. lane (lowered k) inner d slides (lowered-fits k) inner_fits bits in
    word-of-passing (bit_and all empty) (is_legal board) (omega (arith, and_le_r all empty))
    (λ t below. legal-bit own opp all t own_fits opp_fits below
    (ap (λ x. bit_at x t) by_order
    ∙ starts-bit (run board t) n ne e se s sw w nw t
    (lane (raised 8) (all_discs opp) North (λ x h. slid-up x 8 (slid_from South) refl) (raised-fits 8) all_fit (inside-bit own opp 18446744073709551615 North disjoint (λ u u_below. bit_at_ones 64 u u_below)) t below)
    (up 7 NorthEast (λ x. slid-up x 7 (slid_from SouthWest) refl) (inside-bit own opp 0x7e7e_7e7e_7e7e_7e7e NorthEast disjoint middle-bit) t below)
    (down 1 East (λ x h. slid-down x 1 (slid_from West) refl h) (inside-bit own opp 0x7e7e_7e7e_7e7e_7e7e East disjoint middle-bit) t below)
    (down 9 SouthEast (λ x h. slid-down x 9 (slid_from NorthWest) refl h) (inside-bit own opp 0x7e7e_7e7e_7e7e_7e7e SouthEast disjoint middle-bit) t below)
    (lane (lowered 8) (all_discs opp) South (λ x h. slid-down x 8 (slid_from North) refl h) (lowered-fits 8) all_fit (inside-bit own opp 18446744073709551615 South disjoint (λ u u_below. bit_at_ones 64 u u_below)) t below)
    (down 7 SouthWest (λ x h. slid-down x 7 (slid_from NorthEast) refl h) (inside-bit own opp 0x7e7e_7e7e_7e7e_7e7e SouthWest disjoint middle-bit) t below)
    (up 1 West (λ x. slid-up x 1 (slid_from East) refl) (inside-bit own opp 0x7e7e_7e7e_7e7e_7e7e West disjoint middle-bit) t below)
    (up 9 NorthWest (λ x. slid-up x 9 (slid_from SouthEast) refl) (inside-bit own opp 0x7e7e_7e7e_7e7e_7e7e NorthWest disjoint middle-bit) t below)))

-- each lane without the squares that are taken
parted : (x y e : ℕ) → bit_or (bit_and x e) (bit_and y e) ≡ bit_and (bit_or x y) e
parted x y e =
    same_from_bits _ _ (λ i. rw (bit_at_or (bit_and x e) (bit_and y e) i, bit_at_and x e i, bit_at_and y e i, bit_at_and (bit_or x y) e i, bit_at_or x y i) (omega arith))

pub by-lanes : (own opp : ℕ) → own < 2 ^ 64 → opp < 2 ^ 64 → bit_and own opp ≡ 0
    → bit_or
    (bit_and (bit_or (bit_or (reached (lowered 8) own (all_discs opp)) (reached (raised 8) own (all_discs opp))) (bit_or (reached (lowered 7) own (inner_discs opp)) (reached (raised 7) own (inner_discs opp)))) (2 ^ 64 - 1 - bit_or own opp))
    (bit_and (bit_or (bit_or (reached (lowered 1) own (inner_discs opp)) (reached (raised 1) own (inner_discs opp))) (bit_or (reached (lowered 9) own (inner_discs opp)) (reached (raised 9) own (inner_discs opp)))) (2 ^ 64 - 1 - bit_or own opp))
    ≡ bits_of (filter (is_legal (cells_of own opp)) squares)
by-lanes own opp own_fits opp_fits disjoint =
    parted _ _ (2 ^ 64 - 1 - bit_or own opp) ∙ both-lines own opp own_fits opp_fits disjoint
