-- Legal squares and choices of an Othello board, by words of bits: filters of lists of squares, the squares of a word,
-- corners first, and what is left when the first is taken.
use Rattle.othello_moves.proofs.Common.{◌≡◌, ◌≢◌, ℕ, suc, ◌+◌, ◌<◌, ◌≤◌, Bool, true, false, cond, not, ◌&&◌, ◌||◌, eqb, ltb, leb, List, [], ◌∷◌, length, filter, refl, sym, ap, ◌∙◌, ⊎_elim, arith, zero, ◌*◌, ◌/◌, ◌%◌, ◌^◌, count_ones, bit_and, w64, pow-suc, ◌↔◌, bit_or, ◌-◌, min, ◌++◌, map, ap₂, lit<, Some, None, drop, slice_get, cases_order, ne_eqb, false≢true, cond-true, cond-false, eqb-true, agree_below_at, cases_eq, eq-eqb, is_among, squares, is_legal, is_nil, exchanged, range_with_len, bit_at, bit_not, trailing_zeros, bit_at-suc, bit_at_lowest, bit_at-trailing_zeros, bit_at_clear_same, bit_at_clear_other, bit_at_and, bit_at_not, ones_step, ones-le, bits_of, bit_at-bits_of, squares_of, pass_if, sequence, zero_from_ones, le_or_l, le_or_r, length-append, append-nil, length-map, filter-append, Cell, Square, Pass, corners, in_order, choices, bool_byte}

filter-cond : (p q : ℕ → Bool) (x : ℕ) (xs : List ℕ) (b : Bool)
    → filter p (filter q xs) ≡ filter (λ s. q s && p s) xs
    → filter p (cond b (x ∷ filter q xs) (filter q xs)) ≡ cond (b && p x) (x ∷ filter (λ s. q s && p s) xs) (filter (λ s. q s && p s) xs)
filter-cond p q x xs b h1 = grind arith

-- a filter of a filter is one filter
pub filter-filter : (p q : ℕ → Bool) (xs : List ℕ) → filter p (filter q xs) ≡ filter (λ s. q s && p s) xs
filter-filter p q [] = refl
filter-filter p q (x ∷ xs) = filter-cond p q x xs (q x) (filter-filter p q xs)

pub length-cond : (c : Bool) (x : ℕ) (xs : List ℕ) → length (cond c (x ∷ xs) xs) ≡ cond c 1 0 + length xs
length-cond c x xs = grind arith

length-split : (p : ℕ → Bool) (x : ℕ) (xs ys zs : List ℕ) (b : Bool)
    → length (filter p xs) + length (filter p ys) ≡ length (filter p zs)
    → length (filter p (cond b (x ∷ xs) xs)) + length (filter p (cond (not b) (x ∷ ys) ys)) ≡ length (filter p (x ∷ zs))
length-split p x xs ys zs b h1 = grind arith

-- a test and its opposite keep, together, as many as there are
pub length-filter-split : (p q : ℕ → Bool) (xs : List ℕ) → length (filter p (filter q xs)) + length (filter p (filter (λ s. not (q s)) xs)) ≡ length (filter p xs)
length-filter-split p q [] = refl
length-filter-split p q (x ∷ xs) = length-split p x (filter q xs) (filter (λ s. not (q s)) xs) xs (q x) (length-filter-split p q xs)

-- each element is at least low and below high, and greater than those before it
abbrev pub ascends : ℕ → ℕ → List ℕ → Bool
ascends low high [] = true
ascends low high (x ∷ xs) = leb low x && (ltb x high && ascends (suc x) high xs)

-- what `ascends` says of the first element
pub record Leads (low high x : ℕ) (xs : List ℕ) : Type 0 where
  pub above : low ≤ x
  pub below : x < high
  pub rest : ascends (suc x) high xs ≡ true

pub leads : (low high x : ℕ) (xs : List ℕ) → ascends low high (x ∷ xs) ≡ true → Leads low high x xs
leads low high x xs up = grind arith

-- two tests that agree from low up to high keep the same elements
pub filter-agree-between : (p q : ℕ → Bool) (low high : ℕ) (xs : List ℕ) → ascends low high xs ≡ true
    → ((s : ℕ) → low ≤ s → s < high → p s ≡ q s) → filter p xs ≡ filter q xs
filter-agree-between p q low high [] up agree = refl
filter-agree-between p q low high (x ∷ xs) up agree =
    let h = leads low high x xs up in
    ap (λ b. cond b (x ∷ filter p xs) (filter p xs)) (agree x h.above h.below)
    ∙ ap (λ l. cond (q x) (x ∷ l) l) (filter-agree-between p q (suc x) high xs h.rest (λ s a b. agree s (le-suc-below x low s h.above a) b))
  where
    le-suc-below : (x low s : ℕ) → low ≤ x → suc x ≤ s → low ≤ s
    le-suc-below x low s a b = omega arith

-- what is below all elements is not among them
pub ascends-not-among : (low high k : ℕ) (xs : List ℕ) → ascends low high xs ≡ true → k < low → is_among k xs ≡ true → ⊥
ascends-not-among low high k [] up below among = false≢true among
ascends-not-among low high k (x ∷ xs) up below among =
    let h = leads low high x xs up in
    let ne : eqb x k ≡ false = ne_eqb x k (λ e. absurd (omega arith)) in
    ascends-not-among (suc x) high k xs h.rest (omega arith) (sym (ap (λ b. b || is_among k xs) ne) ∙ among)

-- where k is the first that passes p, and r is p but for k, a filter by p is k and then the filter by r
pub filter-first : (p r : ℕ → Bool) (k low high : ℕ) (xs : List ℕ) → ascends low high xs ≡ true → is_among k xs ≡ true
    → p k ≡ true → r k ≡ false → ((s : ℕ) → s < k → p s ≡ false) → ((s : ℕ) → s < high → s ≢ k → r s ≡ p s)
    → filter p xs ≡ k ∷ filter r xs
filter-first p r k low high [] up among at off before other = absurd (false≢true among)
filter-first p r k low high (x ∷ xs) up among at off before other =
    let h = leads low high x xs up in
    let later : is_among k xs ≡ true → filter p xs ≡ k ∷ filter r xs =
    λ still. filter-first p r k (suc x) high xs h.rest still at off before other in
    ⊎_elim (here h) (λ o. ⊎_elim (earlier h later) (λ l. absurd (past h l)) o) (cases_order x k)
  where
    here : Leads low high x xs → x ≡ k → filter p (x ∷ xs) ≡ k ∷ filter r (x ∷ xs)
    here h e =
        cond-true (p x) (x ∷ filter p xs) (filter p xs) (ap p e ∙ at)
        ∙ ap (λ y. y ∷ filter p xs) e
        ∙ ap (λ l. k ∷ l) (filter-agree-between p r (suc x) high xs h.rest (λ s a b. sym (other s b (λ q. absurd (omega arith)))))
        ∙ ap (λ l. k ∷ l) (sym (cond-false (r x) (x ∷ filter r xs) (filter r xs) (ap r e ∙ off)))

    earlier : Leads low high x xs → (is_among k xs ≡ true → filter p xs ≡ k ∷ filter r xs) → x < k → filter p (x ∷ xs) ≡ k ∷ filter r (x ∷ xs)
    earlier h later l =
        let ne : eqb x k ≡ false = ne_eqb x k (λ e. absurd (omega arith)) in
        cond-false (p x) (x ∷ filter p xs) (filter p xs) (before x l)
        ∙ later (sym (ap (λ b. b || is_among k xs) ne) ∙ among)
        ∙ ap (λ m. k ∷ m) (sym (cond-false (r x) (x ∷ filter r xs) (filter r xs) (other x h.below (λ e. absurd (omega arith)) ∙ before x l)))

    past : Leads low high x xs → k < x → ⊥
    past h l =
        let ne : eqb x k ≡ false = ne_eqb x k (λ e. absurd (omega arith)) in
        ascends-not-among (suc x) high k xs h.rest (omega arith) (sym (ap (λ b. b || is_among k xs) ne) ∙ among)

-- Words of bits, and the lists of squares that they stand for.

-- ---- bits

is_one-cond : (b : Bool) → eqb (cond b 1 0) 1 ≡ b
is_one-cond b = grind arith

pub has-bits_of : (xs : List ℕ) (s : ℕ) → eqb (bit_at (bits_of xs) s) 1 ≡ is_among s xs
has-bits_of xs s = ap (λ n. eqb n 1) (bit_at-bits_of xs s) ∙ is_one-cond (is_among s xs)

-- ---- what is among the squares that pass a test

among-cond : (s x : ℕ) (xs : List ℕ) (b : Bool) → is_among s (cond b (x ∷ xs) xs) ≡ ((b && eqb x s) || is_among s xs)
among-cond s x xs b = grind arith

or-and : (b c q t : Bool) → (c ≡ true → b ≡ q) → ((b && c) || (q && t)) ≡ (q && (c || t))
or-and b c q t h1 = grind arith

pub is_among-filter : (p : ℕ → Bool) (xs : List ℕ) (s : ℕ) → is_among s (filter p xs) ≡ (p s && is_among s xs)
is_among-filter p [] s = and-false (p s)
  where
    and-false : (b : Bool) → false ≡ (b && false)
    and-false b = grind arith
is_among-filter p (x ∷ xs) s =
    among-cond s x (filter p xs) (p x)
    ∙ ap (λ b. (p x && eqb x s) || b) (is_among-filter p xs s)
    ∙ or-and (p x) (eqb x s) (p s) (is_among s xs) (λ e. ap p (eqb-true x s e))

-- ---- the 64 squares

pub squares-ascend : ascends 0 64 squares ≡ true
unfolding squares
squares-ascend = refl

pub is-square : (s : ℕ) → s < 64 → is_among s squares ≡ true
unfolding squares
is-square s lt = agree_below_at (λ k. is_among k squares) (λ k. true) 64 s refl lt

-- ---- how many bits are set

lowest-cond : (d : ℕ) → d < 2 → cond (eqb d 1) 1 0 ≡ d
lowest-cond d h1 = grind arith

ones-range : (k a n : ℕ) (p : ℕ → Bool) → n < 2 ^ k → ((i : ℕ) → i < k → p (a + i) ≡ eqb (bit_at n i) 1) → count_ones n ≡ length (filter p (range_with_len a k))
ones-range zero a n p fits same = omega (arith, ones-le 0 n fits)
ones-range (suc k) a n p fits same =
    let rest = ones-range k (a + 1) (n / 2) p (omega (arith, pow-suc 2 k)) (λ i l. ap p (shifted i) ∙ same (suc i) (omega arith) ∙ ap (λ d. eqb d 1) (bit_at-suc n i)) in
    let first : p a ≡ eqb (n % 2) 1 = ap p (omega arith) ∙ same 0 (omega arith) ∙ ap (λ d. eqb d 1) (bit_at_lowest n) in
    let here : cond (p a) 1 0 ≡ n % 2 = ap (λ b. cond b 1 0) first ∙ lowest-cond (n % 2) (omega arith) in
    omega (arith, ones_step n, rest, here, length-cond (p a) a (filter p (range_with_len (a + 1) k)))
  where
    shifted : (i : ℕ) → a + 1 + i ≡ a + suc i
    shifted i = omega arith

pub count_ones-squares : (n : ℕ) → n < 2 ^ 64 → count_ones n ≡ length (squares_of n)
unfolding squares
count_ones-squares n fits = ones-range 64 0 n (λ s. eqb (bit_at n s) 1) fits (λ i l. ap (λ j. eqb (bit_at n j) 1) (omega arith))

-- ---- the lowest bit

pub squares_of-zero : squares_of 0 ≡ []
unfolding squares
squares_of-zero = refl

-- the squares of a word that isn't 0 are the lowest, and then those of the word without it
pub squares_of-first : (n : ℕ) → 0 < n → n < 2 ^ 64
    → squares_of n ≡ trailing_zeros w64 n ∷ squares_of (bit_and n (bit_not w64 (1 * 2 ^ trailing_zeros w64 n % 2 ^ 64)))
squares_of-first n some fits =
    let lowest = bit_at-trailing_zeros w64 n some fits in
    let k = trailing_zeros w64 n in
    let m = bit_and n (bit_not w64 (1 * 2 ^ k % 2 ^ 64)) in
    filter-first (λ s. eqb (bit_at n s) 1) (λ s. eqb (bit_at m s) 1) k 0 64 squares squares-ascend (is-square k lowest.0)
    (ap (λ b. eqb b 1) lowest.1)
    (ap (λ b. eqb b 1) (bit_at_clear_same w64 n k lowest.0))
    (λ s l. ap (λ b. eqb b 1) (lowest.2 s l))
    (λ s l ne. ap (λ b. eqb b 1) (bit_at_clear_other w64 n k lowest.0 s l ne))

-- Legal squares in order, and choices, by words of bits.

-- ---- corners first, then the others

in_order-split : in_order ≡ filter (λ s. is_among s corners) squares ++ filter (λ s. not (is_among s corners)) squares
unfolding in_order squares
in_order-split = refl

pub filter-in_order : (p : ℕ → Bool) → filter p in_order ≡ filter p (filter (λ s. is_among s corners) squares) ++ filter p (filter (λ s. not (is_among s corners)) squares)
filter-in_order p = ap (filter p) in_order-split ∙ filter-append p (filter (λ s. is_among s corners) squares) (filter (λ s. not (is_among s corners)) squares)

-- as many squares pass a test in that order as by rising index
pub length-filter-in_order : (p : ℕ → Bool) → length (filter p in_order) ≡ length (filter p squares)
length-filter-in_order p = grind (arith, filter-in_order, length-append, length-filter-split)

-- ---- by words

pub and-true : (b : Bool) → (b && true) ≡ b
and-true b = grind arith

-- the squares of the word of the squares that pass a test are those squares
pub squares_of-bits_of : (p : ℕ → Bool) → squares_of (bits_of (filter p squares)) ≡ filter p squares
squares_of-bits_of p = grind (arith, filter-agree-between, squares-ascend, has-bits_of, is_among-filter, is-square, and-true)

one-min : (b c : Bool) → eqb (min (cond b 1 0) (cond c 1 0)) 1 ≡ (c && b)
one-min b c = grind arith

-- a mask keeps of such a word the squares that pass the test of the mask
squares_of-masked : (p q : ℕ → Bool) (mask : ℕ) → ((s : ℕ) → s < 64 → bit_at mask s ≡ cond (q s) 1 0)
    → squares_of (bit_and (bits_of (filter p squares)) mask) ≡ filter p (filter q squares)
squares_of-masked p q mask has =
    let w = bits_of (filter p squares) in
    filter-agree-between (λ s. eqb (bit_at (bit_and w mask) s) 1) (λ s. q s && p s) 0 64 squares squares-ascend
    (λ s a b. ap (λ n. eqb n 1) (bit_at_and w mask s ∙ ap₂ min (bit s b) (has s b)) ∙ one-min (p s) (q s))
    ∙ sym (filter-filter p q squares)
  where
    bit : (s : ℕ) → s < 64 → bit_at (bits_of (filter p squares)) s ≡ cond (p s) 1 0
    bit s b =
        bit_at-bits_of (filter p squares) s
        ∙ ap (λ t. cond t 1 0) (is_among-filter p squares s ∙ ap (λ t. p s && t) (is-square s b) ∙ and-true (p s))

corner-bits : (s : ℕ) → bit_at 0x8100_0000_0000_0081 s ≡ cond (is_among s corners) 1 0
corner-bits s = bit_at-bits_of corners s

less-cond : (b : Bool) → 1 - cond b 1 0 ≡ cond (not b) 1 0
less-cond b = grind arith

other-bits : (s : ℕ) → s < 64 → bit_at (bit_not w64 0x8100_0000_0000_0081) s ≡ cond (not (is_among s corners)) 1 0
other-bits s b = bit_at_not w64 0x8100_0000_0000_0081 s (lit< tt) b ∙ ap (λ n. 1 - n) (corner-bits s) ∙ less-cond (is_among s corners)

-- the squares that pass a test, in order, by two masks of their word
pub in_order-words : (p : ℕ → Bool) (w : ℕ) → w ≡ bits_of (filter p squares)
    → filter p in_order ≡ squares_of (bit_and w 0x8100_0000_0000_0081) ++ squares_of (bit_and w (bit_not w64 0x8100_0000_0000_0081))
in_order-words p w e =
    filter-in_order p
    ∙ ap₂ (λ xs ys. xs ++ ys)
    (sym (squares_of-masked p (λ s. is_among s corners) 0x8100_0000_0000_0081 (λ s b. corner-bits s)))
    (sym (squares_of-masked p (λ s. not (is_among s corners)) (bit_not w64 0x8100_0000_0000_0081) other-bits))
    ∙ ap (λ n. squares_of (bit_and n 0x8100_0000_0000_0081) ++ squares_of (bit_and n (bit_not w64 0x8100_0000_0000_0081))) (sym e)

-- how many squares pass a test is how many bits of their word are set
pub length-in_order : (p : ℕ → Bool) (w : ℕ) → w ≡ bits_of (filter p squares) → w < 2 ^ 64 → length (filter p in_order) ≡ count_ones w
length-in_order p w e fits = grind (arith, length-filter-in_order, squares_of-bits_of, count_ones-squares)

nil-length : (xs : List ℕ) → is_nil xs ≡ eqb (length xs) 0
nil-length xs = grind arith

no-ones : (w : ℕ) → eqb (count_ones w) 0 ≡ eqb w 0
no-ones w = ⊎_elim zero-word other (cases_eq w 0)
  where
    zero-word : w ≡ 0 → eqb (count_ones w) 0 ≡ eqb w 0
    zero-word e = eq-eqb (count_ones w) 0 (ap count_ones e ∙ omega (arith, ones-le 0 0 (omega arith))) ∙ sym (eq-eqb w 0 e)

    other : (w ≡ 0 → ⊥) → eqb (count_ones w) 0 ≡ eqb w 0
    other ne = ne_eqb (count_ones w) 0 (λ e. ne (zero_from_ones w e)) ∙ sym (ne_eqb w 0 ne)

-- none passes exactly where their word is 0
pub is_nil-in_order : (p : ℕ → Bool) (w : ℕ) → w ≡ bits_of (filter p squares) → w < 2 ^ 64 → is_nil (filter p in_order) ≡ eqb w 0
is_nil-in_order p w e fits = nil-length (filter p in_order) ∙ ap (λ n. eqb n 0) (length-in_order p w e fits) ∙ no-ones w

-- ---- choices

-- where the word of the legal squares isn't 0, the choices are its squares
pub choices-words : (board : List Cell) (w : ℕ) → w ≡ bits_of (filter (is_legal board) squares) → w < 2 ^ 64 → (w ≡ 0 → ⊥)
    → choices board ≡ sequence (bit_and w 0x8100_0000_0000_0081) (bit_and w (bit_not w64 0x8100_0000_0000_0081)) false
choices-words board w e fits some = grind (arith, cond-false, is_nil-in_order, in_order-words, append-nil)

pass-cond : (b : Bool) → cond b [] (Pass ∷ []) ≡ pass_if (not b)
pass-cond b = grind arith

zero-sequence : (passes : Bool) → sequence 0 0 passes ≡ pass_if passes
zero-sequence passes = ap (λ xs. map Square (xs ++ xs) ++ pass_if passes) squares_of-zero

-- where it is 0, the choices are a pass exactly where the word of the opponent's legal squares isn't 0
pub choices-pass : (board : List Cell) (w v : ℕ) → w ≡ bits_of (filter (is_legal board) squares) → w < 2 ^ 64 → w ≡ 0
    → v ≡ bits_of (filter (is_legal (exchanged board)) squares) → v < 2 ^ 64
    → choices board ≡ sequence (bit_and w 0x8100_0000_0000_0081) (bit_and w (bit_not w64 0x8100_0000_0000_0081)) (not (eqb v 0))
choices-pass board w v e fits none f fits' = grind (arith, cond-true, is_nil-in_order, pass-cond, zero-sequence)

-- there is no choice exactly where both words are 0
by-squares : (own opp : List ℕ) → cond (is_nil own) (cond (is_nil opp) [] (Pass ∷ [])) (map Square own) ≡ [] → (is_nil own ≡ true) × (is_nil opp ≡ true)
by-squares own opp h3 = grind arith

zero-words : (a b : ℕ) → bit_or a b ≡ 0 → (a ≡ 0) × (b ≡ 0)
zero-words a b none = (omega (arith, le_or_l a b), omega (arith, le_or_r a b))

pub over-exactly : (board : List Cell) (w v : ℕ) → w ≡ bits_of (filter (is_legal board) squares) → w < 2 ^ 64 → v ≡ bits_of (filter (is_legal (exchanged board)) squares) → v < 2 ^ 64
    → (bit_or w v ≡ 0) ↔ (choices board ≡ [])
over-exactly board w v e fits f fits' = grind (arith, zero-words, is_nil-in_order, by-squares)

-- Choices that are left, by two words and a flag.

-- a `bool` as a number
pub bool_byte-cond : (p : Bool) → bool_byte p ≡ cond p 1 0
bool_byte-cond p = grind arith

-- a word without its lowest bit
abbrev rest_of : ℕ → ℕ
rest_of n = bit_and n (bit_not w64 (1 * 2 ^ trailing_zeros w64 n % 2 ^ 64))

length-pass_if : (p : Bool) → length (pass_if p) ≡ cond p 1 0
length-pass_if p = grind arith

pub length-sequence : (a b : ℕ) (p : Bool) → a < 2 ^ 64 → b < 2 ^ 64 → length (sequence a b p) ≡ count_ones a + count_ones b + cond p 1 0
length-sequence a b p fits fits' =
    length-append (map Square (squares_of a ++ squares_of b)) (pass_if p)
    ∙ ap (λ n. n + length (pass_if p)) (length-map (squares_of a ++ squares_of b) Square ∙ length-append (squares_of a) (squares_of b))
    ∙ omega (arith, length-pass_if p, count_ones-squares a fits, count_ones-squares b fits')

pub sequence-first : (a b : ℕ) (p : Bool) → 0 < a → a < 2 ^ 64 → sequence a b p ≡ Square (trailing_zeros w64 a) ∷ sequence (rest_of a) b p
sequence-first a b p some fits = ap (λ xs. map Square (xs ++ squares_of b) ++ pass_if p) (squares_of-first a some fits)

zero-first : (a b : ℕ) (p : Bool) → a ≡ 0 → sequence a b p ≡ map Square (squares_of b) ++ pass_if p
zero-first a b p e = ap (λ n. sequence n b p) e ∙ ap (λ xs. map Square (xs ++ squares_of b) ++ pass_if p) squares_of-zero

zero-both : (a b : ℕ) (p : Bool) → a ≡ 0 → b ≡ 0 → sequence a b p ≡ pass_if p
zero-both a b p e f = zero-first a b p e ∙ ap (λ n. map Square (squares_of n) ++ pass_if p) f ∙ ap (λ xs. map Square xs ++ pass_if p) squares_of-zero

pub sequence-second : (a b : ℕ) (p : Bool) → a ≡ 0 → 0 < b → b < 2 ^ 64 → sequence a b p ≡ Square (trailing_zeros w64 b) ∷ sequence a (rest_of b) p
sequence-second a b p e some fits = grind (arith, zero-first, squares_of-first)

pub sequence-pass : (a b : ℕ) (p : Bool) → a ≡ 0 → b ≡ 0 → p ≡ true → sequence a b p ≡ Pass ∷ sequence a b false
sequence-pass a b p e f passes = zero-both a b p e f ∙ ap pass_if passes ∙ ap (λ l. Pass ∷ l) (sym (zero-both a b false e f))

pub sequence-none : (a b : ℕ) (p : Bool) → a ≡ 0 → b ≡ 0 → p ≡ false → sequence a b p ≡ []
sequence-none a b p e f stays = zero-both a b p e f ∙ ap pass_if stays

-- what taking the first choice says, of a list by its first
pub taken-first : {X : Type 0} (old new : List X) (x : X) → old ≡ x ∷ new → (Some x ≡ slice_get old 0) × (new ≡ drop 1 old)
taken-first old new x e = (sym (ap (λ l. slice_get l 0) e), sym (ap (drop 1) e))

pub taken-none : {X : Type 0} (old : List X) → old ≡ [] → (slice_get old 0 ≡ None) × (old ≡ drop 1 old)
taken-none old e = (ap (λ l. slice_get l 0) e, e ∙ sym (ap (drop 1) e))

-- the element at a place is the first of what is left from there on
pub slice_get-drop : {X : Type 0} (i : ℕ) (xs : List X) → slice_get (drop i xs) 0 ≡ slice_get xs i
slice_get-drop zero xs = refl
slice_get-drop (suc i) [] = refl
slice_get-drop (suc i) (x ∷ xs) = slice_get-drop i xs
