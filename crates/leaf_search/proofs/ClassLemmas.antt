-- For the ordered serial search: the choices of a board by classes of squares, which are a rearrangement of its
-- choices, and what is left when the first is taken.
use Rattle.leaf_search.proofs.Common.{append_assoc, ◌+◌, cond, length, length-append, length-map, bit_or, count_ones, zero_from_ones, le_or_l, le_or_r, ◌≡◌, ◌<◌, ◌-◌, ◌*◌, ◌%◌, ◌^◌, ℕ, Bool, true, false, not, ◌&&◌, eqb, min, [], ◌∷◌, ◌++◌, map, refl, sym, ◌∙◌, ap, ap₂, subst, arith, map-append, bit_and, bit_at, bit_not, trailing_zeros, w64, bit_at-lt, bit_at_and, bit_at_not, squares, squares_of, pass_if, sequence, classed, Pass, Square, IsPermutation, IsPermutation-map, IsPermutation-refl, IsPermutation-append, IsPermutation-filter_both}
use Rattle.std.specs.Int.Bits.{and_zero_r}
use Rattle.std.proofs.lemmas.Nat.{and_mask}
use Rattle.othello_moves.proofs.BitLemmas.{filter-filter, filter-agree-between, squares-ascend, squares_of-zero, squares_of-first, sequence-first, sequence-second, sequence-pass, sequence-none, length-sequence, count_ones-squares}

both-one : (x y : ℕ) → x < 2 → y < 2 → (eqb x 1 && eqb y 1) ≡ eqb (min x y) 1
both-one x y h1 h2 = grind arith

one-alone : (x y : ℕ) → x < 2 → y < 2 → (eqb x 1 && not (eqb y 1)) ≡ eqb (min x (1 - y)) 1
one-alone x y h1 h2 = grind arith

-- the squares of a word are those within a mask and those outside it
split-by : (n mask : ℕ) → mask < 2 ^ 64 → IsPermutation (squares_of n) (squares_of (bit_and n mask) ++ squares_of (bit_and n (bit_not w64 mask)))
split-by n mask fits =
    let has : ℕ → Bool = λ s. eqb (bit_at n s) 1 in
    let within : ℕ → Bool = λ s. eqb (bit_at mask s) 1 in
    let outside : ℕ → Bool = λ s. not (within s) in
    let first = filter-filter within has squares
    ∙ filter-agree-between (λ s. has s && within s) (λ s. eqb (bit_at (bit_and n mask) s) 1) 0 64 squares squares-ascend
    (λ s low high. both-one (bit_at n s) (bit_at mask s) (bit_at-lt n s) (bit_at-lt mask s) ∙ ap (λ d. eqb d 1) (sym (bit_at_and n mask s))) in
    let second = filter-filter outside has squares
    ∙ filter-agree-between (λ s. has s && outside s) (λ s. eqb (bit_at (bit_and n (bit_not w64 mask)) s) 1) 0 64 squares squares-ascend
    (λ s low high. one-alone (bit_at n s) (bit_at mask s) (bit_at-lt n s) (bit_at-lt mask s)
    ∙ ap (λ d. eqb d 1) (sym (bit_at_and n (bit_not w64 mask) s ∙ ap (min (bit_at n s)) (bit_at_not w64 mask s fits high)))) in
    subst (λ l. IsPermutation (squares_of n) l) (ap₂ (λ xs ys. xs ++ ys) first second) (IsPermutation-filter_both within outside (λ s. refl) (squares_of n))

-- two words, of which the second is taken by a class and the others
pub classed-rearranges : (a b class : ℕ) (passes : Bool) → class < 2 ^ 64 → IsPermutation (sequence a b passes) (classed a (bit_and b class) (bit_and b (bit_not w64 class)) passes)
classed-rearranges a b class passes fits =
    let corners = map Square (squares_of a) in
    let parts = squares_of (bit_and b class) ++ squares_of (bit_and b (bit_not w64 class)) in
    subst (λ l. IsPermutation l (classed a (bit_and b class) (bit_and b (bit_not w64 class)) passes))
    (sym (ap (λ l. l ++ pass_if passes) (map-append Square (squares_of a) (squares_of b)) ∙ append_assoc corners (map Square (squares_of b)) (pass_if passes)))
    (IsPermutation-append corners corners _ _ (IsPermutation-refl corners)
    (IsPermutation-append (map Square (squares_of b)) (map Square parts) (pass_if passes) (pass_if passes) (IsPermutation-map Square (squares_of b) parts (split-by b class fits))
    (IsPermutation-refl (pass_if passes))))

-- where the class is empty, the order is kept
pub classed-kept : (a b class : ℕ) (passes : Bool) → class ≡ 0 → b < 2 ^ 64 → classed a (bit_and b class) (bit_and b (bit_not w64 class)) passes ≡ sequence a b passes
classed-kept a b class passes none fits =
    let first : bit_and b class ≡ 0 = ap (bit_and b) none ∙ and_zero_r b in
    let mask : bit_and b (bit_not w64 0) ≡ b % 2 ^ 64 = and_mask b 64 in
    let second : bit_and b (bit_not w64 class) ≡ b = ap (λ n. bit_and b (bit_not w64 n)) none ∙ omega (arith, mask) in
    ap₂ (λ m n. classed a m n passes) first second
    ∙ ap (λ xs. map Square (squares_of a) ++ (map Square (xs ++ squares_of b) ++ pass_if passes)) squares_of-zero
    ∙ sym (append_assoc (map Square (squares_of a)) (map Square (squares_of b)) (pass_if passes))
    ∙ sym (ap (λ l. l ++ pass_if passes) (map-append Square (squares_of a) (squares_of b)))

-- a word without its lowest bit
abbrev rest_of : ℕ → ℕ
rest_of n = bit_and n (bit_not w64 (1 * 2 ^ trailing_zeros w64 n % 2 ^ 64))

pub classed-first : (a b c : ℕ) (p : Bool) → 0 < a → a < 2 ^ 64 → classed a b c p ≡ Square (trailing_zeros w64 a) ∷ classed (rest_of a) b c p
classed-first a b c p some fits = ap (λ xs. map Square xs ++ sequence b c p) (squares_of-first a some fits)

pub classed-later : (a b c : ℕ) (p : Bool) → a ≡ 0 → classed a b c p ≡ sequence b c p
classed-later a b c p none = ap (λ n. map Square (squares_of n) ++ sequence b c p) none ∙ ap (λ xs. map Square xs ++ sequence b c p) squares_of-zero

pub classed-second : (a b c : ℕ) (p : Bool) → a ≡ 0 → 0 < b → b < 2 ^ 64 → classed a b c p ≡ Square (trailing_zeros w64 b) ∷ classed a (rest_of b) c p
classed-second a b c p e some fits =
    classed-later a b c p e ∙ sequence-first b c p some fits ∙ ap (λ l. Square (trailing_zeros w64 b) ∷ l) (sym (classed-later a (rest_of b) c p e))

pub classed-third : (a b c : ℕ) (p : Bool) → a ≡ 0 → b ≡ 0 → 0 < c → c < 2 ^ 64 → classed a b c p ≡ Square (trailing_zeros w64 c) ∷ classed a b (rest_of c) p
classed-third a b c p e f some fits =
    classed-later a b c p e ∙ sequence-second b c p f some fits ∙ ap (λ l. Square (trailing_zeros w64 c) ∷ l) (sym (classed-later a b (rest_of c) p e))

pub classed-pass : (a b c : ℕ) (p : Bool) → a ≡ 0 → b ≡ 0 → c ≡ 0 → p ≡ true → classed a b c p ≡ Pass ∷ classed a b c false
classed-pass a b c p e f g passes = classed-later a b c p e ∙ sequence-pass b c p f g passes ∙ ap (λ l. Pass ∷ l) (sym (classed-later a b c false e))

pub classed-none : (a b c : ℕ) (p : Bool) → a ≡ 0 → b ≡ 0 → c ≡ 0 → p ≡ false → classed a b c p ≡ []
classed-none a b c p e f g stays = classed-later a b c p e ∙ sequence-none b c p f g stays

length-classed : (a b c : ℕ) (p : Bool) → a < 2 ^ 64 → b < 2 ^ 64 → c < 2 ^ 64 → length (classed a b c p) ≡ count_ones a + (count_ones b + count_ones c + cond p 1 0)
length-classed a b c p fa fb fc =
    length-append (map Square (squares_of a)) (sequence b c p)
    ∙ ap₂ (λ m n. m + n) (length-map (squares_of a) Square ∙ sym (count_ones-squares a fa)) (length-sequence b c p fb fc)

not-counted : (p : Bool) (n : ℕ) → n ≡ cond p 1 0 → n ≡ 0 → p ≡ false
not-counted p n is none = grind arith

-- none is left exactly where the words are 0 and there is no pass
pub nothing-left : (a b c : ℕ) (p : Bool) → a < 2 ^ 64 → b < 2 ^ 64 → c < 2 ^ 64 → classed a b c p ≡ [] → (bit_or (bit_or a b) c ≡ 0) × (p ≡ false)
nothing-left a b c p fa fb fc none =
    let total = sym (length-classed a b c p fa fb fc) ∙ ap length none in
    let za : a ≡ 0 = zero_from_ones a (omega (arith, total)) in
    let zb : b ≡ 0 = zero_from_ones b (omega (arith, total)) in
    let zc : c ≡ 0 = zero_from_ones c (omega (arith, total)) in
    (ap₂ bit_or (ap₂ bit_or za zb) zc, not-counted p (cond p 1 0) refl (omega (arith, total)))

pub all-zero : (a b c : ℕ) (p : Bool) → bit_or (bit_or a b) c ≡ 0 → p ≡ false → classed a b c p ≡ []
all-zero a b c p none stays =
    let za : a ≡ 0 = omega (arith, none, le_or_l (bit_or a b) c, le_or_l a b) in
    let zb : b ≡ 0 = omega (arith, none, le_or_l (bit_or a b) c, le_or_r a b) in
    let zc : c ≡ 0 = omega (arith, none, le_or_r (bit_or a b) c) in
    classed-none a b c p za zb zc stays
