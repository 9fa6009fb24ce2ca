-- The two words of an Othello board: the word of a list of squares, bit by bit; and the cells of two words, square by
-- square.
use Rattle.othello_board.proofs.Common.{◌≡◌, ℕ, ◌^◌, Bool, cond, eqb, ◌||◌, List, [], ◌∷◌, ◌++◌, bit_or, bit_and, min, max, refl, sym, ap, ◌∙◌, arith, ◌≢◌, zero, suc, ◌+◌, ◌/◌, ◌<◌, ◌≤◌, nat_eq, map, length, ◌⊎◌, inl, inr, ◌%◌, count_by, bit_at, eqb_tells, bit_at_and, bit_at_or, bit_at-zero, bit_at-pow_same, bit_at-pow_other, same_from_bits, shr_and_one, bit_at-lt, bit_at_lowest, bit_at-suc, is_among, squares, cell_at, exchanged_cell, exchanged, is_own_cell, is_opp_cell, bits_of, cell_of, cells_of, cases_lt, range_with_len, get_or-map-range_with_len, length-map-range_with_len, Cell, Empty, Own, Opp, ones, ones_step, ones-le, div_below, pow-suc, is_count_by}

-- the order and the grouping of `|` are free
pub or-assoc : (a b c : ℕ) → bit_or (bit_or a b) c ≡ bit_or a (bit_or b c)
or-assoc a b c =
    same_from_bits _ _ (λ i. rw (bit_at_or (bit_or a b) c i, bit_at_or a b i, bit_at_or a (bit_or b c) i, bit_at_or b c i) (omega arith))

pub or-zero : (a : ℕ) → bit_or a 0 ≡ a
or-zero a = same_from_bits _ _ (λ i. rw (bit_at_or a 0 i, bit_at-zero i) (omega arith))

pub zero-or : (a : ℕ) → bit_or 0 a ≡ a
zero-or a = same_from_bits _ _ (λ i. rw (bit_at_or 0 a i, bit_at-zero i) (omega arith))

pub bits_of-append : (xs ys : List ℕ) → bits_of (xs ++ ys) ≡ bit_or (bits_of xs) (bits_of ys)
bits_of-append [] ys = sym (zero-or (bits_of ys))
bits_of-append (x ∷ xs) ys = rw (bits_of-append xs ys, or-assoc (2 ^ x) (bits_of xs) (bits_of ys)) refl

-- two words share no bit
pub apart : (a b s : ℕ) → bit_and a b ≡ 0 → min (bit_at a s) (bit_at b s) ≡ 0
apart a b s h = sym (bit_at_and a b s) ∙ ap (λ n. bit_at n s) h ∙ bit_at-zero s

-- a power of two, bit by bit
pub bit_at-pow : (s i : ℕ) → bit_at (2 ^ s) i ≡ cond (eqb s i) 1 0
bit_at-pow s i = grind (arith, eqb_tells, bit_at-pow_same, bit_at-pow_other)

max-of-tests : (a b : Bool) → max (cond a 1 0) (cond b 1 0) ≡ cond (a || b) 1 0
max-of-tests a b = grind arith

-- the bits of a list of squares are set just at those squares
pub bit_at-bits_of : (xs : List ℕ) (i : ℕ) → bit_at (bits_of xs) i ≡ cond (is_among i xs) 1 0
bit_at-bits_of [] i = bit_at-zero i
bit_at-bits_of (x ∷ xs) i =
    rw (bit_at_or (2 ^ x) (bits_of xs) i, bit_at-pow x i, bit_at-bits_of xs i) (max-of-tests (eqb x i) (is_among i xs))

-- The cells of two words, square by square.

-- lists made by functions that agree below n are the same
pub map-range-same : {X : Type 0} (f g : ℕ → X) (a n : ℕ) → ((s : ℕ) → a ≤ s → s < a + n → f s ≡ g s) → map f (range_with_len a n) ≡ map g (range_with_len a n)
map-range-same f g a zero same = refl
map-range-same f g a (suc n) same =
    let first : f a ≡ g a = same a (omega arith) (omega arith) in
    let rest : map f (range_with_len (a + 1) n) ≡ map g (range_with_len (a + 1) n) = map-range-same f g (a + 1) n (λ s low high. same s (omega arith) (omega arith)) in
    rw (first, rest) refl

pub map-map : {X Y : Type 0} (f : X → Y) (g : ℕ → X) (xs : List ℕ) → map f (map g xs) ≡ map (λ s. f (g s)) xs
map-map f g [] = refl
map-map f g (x ∷ xs) = ap (λ more. f (g x) ∷ more) (map-map f g xs)

-- a board given by a function of the square
pub cell_at-map : (f : ℕ → Cell) (s : ℕ) → s < 64 → cell_at (map f squares) s ≡ f s
unfolding squares
cell_at-map f s below = get_or-map-range_with_len f 0 64 s s Empty below (omega arith)

pub map-squares-same : (f g : ℕ → Cell) → ((s : ℕ) → s < 64 → f s ≡ g s) → map f squares ≡ map g squares
unfolding squares
map-squares-same f g same = map-range-same f g 0 64 (λ s low high. same s (omega arith))

pub cell_at-cells_of : (own opp s : ℕ) → s < 64 → cell_at (cells_of own opp) s ≡ cell_of own opp s
cell_at-cells_of own opp s below = cell_at-map (cell_of own opp) s below

pub length-cells_of : (own opp : ℕ) → length (cells_of own opp) ≡ 64
unfolding squares
length-cells_of own opp = length-map-range_with_len (cell_of own opp) 0 64

-- what the tests of `cell` say
module _ (own opp s : ℕ) (below : s < 64) where
  pub reads_own : bit_and (own / 2 ^ s) 1 ≡ 1 → Own ≡ cell_at (cells_of own opp) s
  reads_own set = grind (arith, shr_and_one, cell_at-cells_of)

  pub reads_opp : bit_and (own / 2 ^ s) 1 ≢ 1 → bit_and (opp / 2 ^ s) 1 ≡ 1 → Opp ≡ cell_at (cells_of own opp) s
  reads_opp clear set = grind (arith, shr_and_one, bit_at-lt, cell_at-cells_of)

  pub reads_empty : bit_and (own / 2 ^ s) 1 ≢ 1 → bit_and (opp / 2 ^ s) 1 ≢ 1 → Empty ≡ cell_at (cells_of own opp) s
  reads_empty clear clear_too = grind (arith, shr_and_one, bit_at-lt, cell_at-cells_of)

  -- what stands on a square, by its bits
  pub empty-here : bit_at own s ≡ 0 → bit_at opp s ≡ 0 → Empty ≡ cell_at (cells_of own opp) s
  empty-here own_clear opp_clear = rw (cell_at-cells_of own opp s below, own_clear, opp_clear) refl

  pub own-here : bit_at own s ≡ 1 → Own ≡ cell_at (cells_of own opp) s
  own-here set = rw (cell_at-cells_of own opp s below, set) refl

  pub opp-here : bit_at own s ≡ 0 → bit_at opp s ≡ 1 → Opp ≡ cell_at (cells_of own opp) s
  opp-here own_clear set = rw (cell_at-cells_of own opp s below, own_clear, set) refl

-- the cells of the two words exchanged
pub bit-cases : (n : ℕ) → n < 2 → (n ≡ 0) ⊎ (n ≡ 1)
bit-cases n h = elim (cases_lt n 1) [ inl low ↦ inl (omega arith) | inr high ↦ inr (omega arith) ]

pub exchanged-cell_of-by : (a b : ℕ) → a < 2 → b < 2 → min a b ≡ 0 → cond (nat_eq b 1) Own (cond (nat_eq a 1) Opp Empty) ≡ exchanged_cell (cond (nat_eq a 1) Own (cond (nat_eq b 1) Opp Empty))
exchanged-cell_of-by a b p q h = grind (arith, bit-cases)

pub exchanged-cells_of : (own opp : ℕ) → bit_and own opp ≡ 0 → cells_of opp own ≡ exchanged (cells_of own opp)
exchanged-cells_of own opp disjoint =
    map-squares-same (cell_of opp own) (λ s. exchanged_cell (cell_of own opp s)) (λ s below.
    exchanged-cell_of-by (bit_at own s) (bit_at opp s) (bit_at-lt own s) (bit_at-lt opp s) (apart own opp s disjoint))
    ∙ sym (map-map exchanged_cell (cell_of own opp) squares)

-- The discs of a player are the set bits of that player's word.

-- how many pass, by recursion
abbrev pub tally : {X : Type 0} → (X → Bool) → List X → ℕ
tally p [] = 0
tally p (x ∷ xs) = cond (p x) (1 + tally p xs) (tally p xs)

tally-count_by : {X : Type 0} (p : X → Bool) (xs : List X) → tally p xs ≡ count_by p xs
tally-count_by p xs = is_count_by (tally p) p refl (λ y ys. refl) xs

abbrev pub count_in : (ℕ → Bool) → ℕ → ℕ → ℕ
count_in test a n = tally test (range_with_len a n)

count_in-same : (p q : ℕ → Bool) (a n : ℕ) → ((s : ℕ) → p s ≡ q s) → count_in p a n ≡ count_in q a n
count_in-same p q a zero same = refl
count_in-same p q a (suc n) same = ap (λ b. cond b (1 + count_in p (a + 1) n) (count_in p (a + 1) n)) (same a) ∙ ap (λ m. cond (q a) (1 + m) m) (count_in-same p q (a + 1) n same)

count_in-shifted : (p : ℕ → Bool) (a n : ℕ) → count_in p (a + 1) n ≡ count_in (λ s. p (s + 1)) a n
count_in-shifted p a zero = refl
count_in-shifted p a (suc n) = ap (λ m. cond (p (a + 1)) (1 + m) m) (count_in-shifted p (a + 1) n)

one-bit : (b : ℕ) → b < 2 → b ≡ cond (eqb b 1) 1 0
one-bit b h = elim (bit-cases b h) [ inl clear ↦ rw clear refl | inr set ↦ rw set refl ]

one-more : (b : Bool) (m : ℕ) → cond b 1 0 + m ≡ cond b (1 + m) m
one-more b m = grind arith

-- the set bits of a number of d bits
pub ones-by-bits : (d n : ℕ) → n < 2 ^ d → ones n ≡ count_in (λ s. eqb (bit_at n s) 1) 0 d
ones-by-bits zero n below = omega (arith, ones-le 0 n below)
ones-by-bits (suc d) n below =
    let half : n / 2 < 2 ^ d = div_below n 2 (2 ^ d) (omega arith) (omega (arith, pow-suc 2 d)) in
    let lowest : n % 2 ≡ cond (eqb (bit_at n 0) 1) 1 0 = sym (bit_at_lowest n) ∙ one-bit (bit_at n 0) (bit_at-lt n 0) in
    let rest : ones (n / 2) ≡ count_in (λ s. eqb (bit_at n s) 1) 1 d =
    ones-by-bits d (n / 2) half
    ∙ count_in-same _ _ 0 d (λ s. ap (λ b. eqb b 1) (sym (bit_at-suc n s) ∙ ap (bit_at n) (omega arith)))
    ∙ sym (count_in-shifted (λ s. eqb (bit_at n s) 1) 0 d) in
    ones_step n ∙ rw (rest, lowest) (one-more (eqb (bit_at n 0) 1) (count_in (λ s. eqb (bit_at n s) 1) 1 d))

tally-map : (p : Cell → Bool) (f : ℕ → Cell) (xs : List ℕ) → tally (λ s. p (f s)) xs ≡ tally p (map f xs)
tally-map p f [] = refl
tally-map p f (x ∷ xs) = ap (λ m. cond (p (f x)) (1 + m) m) (tally-map p f xs)

is-own-cell_of : (a b : Bool) → is_own_cell (cond a Own (cond b Opp Empty)) ≡ a
is-own-cell_of a b = grind arith

pub is-opp-cell_of : (a b : ℕ) → a < 2 → b < 2 → min a b ≡ 0 → is_opp_cell (cond (eqb a 1) Own (cond (eqb b 1) Opp Empty)) ≡ eqb b 1
is-opp-cell_of a b p q h = grind (arith, bit-cases)

pub ones-own : (own opp : ℕ) → own < 2 ^ 64 → ones own ≡ count_by is_own_cell (cells_of own opp)
unfolding squares
ones-own own opp fits =
    ones-by-bits 64 own fits
    ∙ count_in-same _ _ 0 64 (λ s. sym (is-own-cell_of (eqb (bit_at own s) 1) (eqb (bit_at opp s) 1)))
    ∙ tally-map is_own_cell (cell_of own opp) (range_with_len 0 64)
    ∙ tally-count_by is_own_cell (cells_of own opp)

pub ones-opp : (own opp : ℕ) → opp < 2 ^ 64 → bit_and own opp ≡ 0 → ones opp ≡ count_by is_opp_cell (cells_of own opp)
unfolding squares
ones-opp own opp fits disjoint =
    ones-by-bits 64 opp fits
    ∙ count_in-same _ _ 0 64 (λ s. sym (is-opp-cell_of (bit_at own s) (bit_at opp s) (bit_at-lt own s) (bit_at-lt opp s) (apart own opp s disjoint)))
    ∙ tally-map is_opp_cell (cell_of own opp) (range_with_len 0 64)
    ∙ tally-count_by is_opp_cell (cells_of own opp)

-- what the tactics try at counts and at a board after a pass
pub ruleset word_rules = (ones-own, ones-opp, exchanged-cells_of)
