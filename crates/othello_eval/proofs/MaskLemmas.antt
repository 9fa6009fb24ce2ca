-- The evaluation of an Othello board: the weights of discs, counted under one word of squares for each weight.
use Rattle.othello_eval.proofs.Common.{leb, leb-true, ◌≡◌, ℕ, zero, suc, ◌+◌, ◌^◌, ◌<◌, ◌≤◌, ◌*◌, Bool, ◌&&◌, cond, eqb, List, [], ◌∷◌, map, length, min, bit_and, ℤ, pos, negsuc, ◌+ℤ◌, ◌-ℤ◌, ◌*ℤ◌, neg_ℤ, refl, sym, ap, ◌∙◌, arith, to_z, of_z, w32, ◌≤ℤ◌, drop, get_or, ◌/◌, true, take, ap₂, count_ones, unsigned_abs, FitsSigned, bit_at, range_with_len, at_drop_more, at_drop_all, ints, unsigned_abs-mul, and_le_l, mul-le, and_le_r, bit_at_and, bit_at-lt, bit_at-zero, bit_at_ones, pred_ℤ, -ℤ_one, *ℤ_comm, pred_ℤ-*ℤ, *ℤ-zero, zero-*ℤ, common_steps, Empty, Own, Opp, squares, cell_of, cells_of, apart, bit-cases, count_in, ones-by-bits, weights, disc_value, discs_value, IsWithin, disc_difference, row_value, kind_of, eqb-true, Cell, all_below, holds-below, ROW_VALUES, bit_at-right}
use Rattle.othello_eval.proofs.ValueLemmas.{discs_value-within, abs_sum}

-- the sum of these differences, each at its weight
abbrev pub weighed_sum : ℕ → ℕ → List (ℤ × ℕ) → ℤ
weighed_sum own opp [] = pos 0
weighed_sum own opp (p ∷ more) = (p.0 *ℤ disc_difference own opp p.1) +ℤ weighed_sum own opp more

-- the weights, each with its squares
abbrev pub weight_table : List (ℤ × ℕ)
weight_table =
    (pos 100, 0x8100_0000_0000_0081) ∷ (pos 10, 0x2400_8100_0081_0024) ∷ (pos 5, 0x1800_0081_8100_0018) ∷ (negsuc 0, 0x0000_3c3c_3c3c_0000)
    ∷ (negsuc 1, 0x003c_4242_4242_3c00) ∷ (negsuc 19, 0x4281_0000_0000_8142) ∷ (negsuc 49, 0x0042_0000_0000_4200) ∷ []

-- what the set bits of a word are worth by these weights, of which the first is that of bit a
abbrev worth : ℕ → ℕ → List ℤ → ℤ
worth word a [] = pos 0
worth word a (w ∷ ws) = (cond (eqb (bit_at word a) 1) w (pos 0)) +ℤ worth word (a + 1) ws

-- one cell is worth its own bit, less its opposing one
cell-by : (a b : ℕ) (w : ℤ) → a < 2 → b < 2 → min a b ≡ 0
    → disc_value (cond (eqb a 1) Own (cond (eqb b 1) Opp Empty)) w ≡ cond (eqb a 1) w (pos 0) -ℤ cond (eqb b 1) w (pos 0)
cell-by a b w p q h = grind (arith, bit-cases)

joined-sums : (d x y u v : ℤ) → d ≡ x -ℤ y → d +ℤ (u -ℤ v) ≡ (x +ℤ u) -ℤ (y +ℤ v)
joined-sums d x y u v e = omega (arith, ints)

discs-worth : (own opp a n : ℕ) (ws : List ℤ) → bit_and own opp ≡ 0 → length ws ≡ n
    → discs_value (map (cell_of own opp) (range_with_len a n)) ws ≡ worth own a ws -ℤ worth opp a ws
discs-worth own opp a zero [] disjoint len = refl
discs-worth own opp a (suc n) (w ∷ ws) disjoint len =
    ap (λ m. disc_value (cell_of own opp a) w +ℤ m) (discs-worth own opp (a + 1) n ws disjoint (omega arith))
    ∙ joined-sums (disc_value (cell_of own opp a) w) (cond (eqb (bit_at own a) 1) w (pos 0)) (cond (eqb (bit_at opp a) 1) w (pos 0)) (worth own (a + 1) ws) (worth opp (a + 1) ws)
    (cell-by (bit_at own a) (bit_at opp a) w (bit_at-lt own a) (bit_at-lt opp a) (apart own opp a disjoint))
discs-worth own opp a n ws disjoint len = absurd (omega arith)

-- two lists of weights, added one by one
abbrev added : List ℤ → List ℤ → List ℤ
added [] vs = []
added (w ∷ ws) [] = []
added (w ∷ ws) (v ∷ vs) = (w +ℤ v) ∷ added ws vs

split-test : (t : Bool) (w v x y : ℤ) → (cond t (w +ℤ v) (pos 0)) +ℤ (x +ℤ y) ≡ (cond t w (pos 0) +ℤ x) +ℤ (cond t v (pos 0) +ℤ y)
split-test t w v x y = grind (arith, common_steps)

worth-added : (word a n : ℕ) (ws vs : List ℤ) → length ws ≡ n → length vs ≡ n → worth word a (added ws vs) ≡ worth word a ws +ℤ worth word a vs
worth-added word a n [] [] l m = refl
worth-added word a (suc n) (w ∷ ws) (v ∷ vs) l m = grind (arith, worth-added word (a + 1) n ws vs, split-test)
worth-added word a n ws vs l m = absurd (omega arith)

-- one weight on the squares of a word, and 0 elsewhere
abbrev on_squares : ℤ → ℕ → ℕ → ℕ → List ℤ
on_squares w mask a n = map (λ s. cond (eqb (bit_at mask s) 1) w (pos 0)) (range_with_len a n)

length-on_squares : (w : ℤ) (mask a n : ℕ) → length (on_squares w mask a n) ≡ n
length-on_squares w mask a zero = refl
length-on_squares w mask a (suc n) = ap suc (length-on_squares w mask (a + 1) n)

both-set : (a b : ℕ) → a < 2 → b < 2 → eqb (min a b) 1 ≡ (eqb a 1 && eqb b 1)
both-set a b h1 h2 = grind arith

one-more : (w : ℤ) (k : ℕ) → w +ℤ (w *ℤ pos k) ≡ w *ℤ pos (1 + k)
one-more w k = grind arith

counted-by : (t u : Bool) (w : ℤ) (k : ℕ) → (cond t (cond u w (pos 0)) (pos 0)) +ℤ (w *ℤ pos k) ≡ w *ℤ pos (cond (t && u) (1 + k) k)
counted-by t u w k = grind arith

worth-on_squares : (word mask : ℕ) (w : ℤ) (a n : ℕ) → worth word a (on_squares w mask a n) ≡ w *ℤ pos (count_in (λ s. eqb (bit_at (bit_and word mask) s) 1) a n)
worth-on_squares word mask w a zero = sym (*ℤ-zero w)
worth-on_squares word mask w a (suc n) = grind (arith, worth-on_squares word mask w (a + 1) n, bit_at_and, both-set, bit_at-lt, counted-by)

-- on the whole board
worth-under : (word mask : ℕ) (w : ℤ) → word < 2 ^ 64 → worth word 0 (on_squares w mask 0 64) ≡ w *ℤ pos (count_ones (bit_and word mask))
worth-under word mask w fits =
    worth-on_squares word mask w 0 64 ∙ ap (λ k. w *ℤ pos k) (sym (ones-by-bits 64 (bit_and word mask) (omega (arith, and_le_l word mask))))

-- ---- all weights

-- the weights on all squares that a table says
abbrev spread : List (ℤ × ℕ) → List ℤ
spread [] = on_squares (pos 0) 0 0 64
spread (p ∷ more) = added (on_squares p.0 p.1 0 64) (spread more)

length-added : (ws vs : List ℤ) (n : ℕ) → length ws ≡ n → length vs ≡ n → length (added ws vs) ≡ n
length-added [] vs n l m = l
length-added (w ∷ ws) [] n l m = m ∙ refl
length-added (w ∷ ws) (v ∷ vs) zero l m = absurd (omega arith)
length-added (w ∷ ws) (v ∷ vs) (suc n) l m = ap suc (length-added ws vs n (omega arith) (omega arith))

length-spread : (table : List (ℤ × ℕ)) → length (spread table) ≡ 64
length-spread [] = length-on_squares (pos 0) 0 0 64
length-spread (p ∷ more) = length-added (on_squares p.0 p.1 0 64) (spread more) 64 (length-on_squares p.0 p.1 0 64) (length-spread more)

less-none : (x y : ℤ) → y ≡ pos 0 → x ≡ x -ℤ y
less-none x y e = omega (arith, ints)

mul-difference : (w : ℤ) (a b : ℕ) → w *ℤ (pos a -ℤ pos b) ≡ (w *ℤ pos a) -ℤ (w *ℤ pos b)
mul-difference w a zero = grind (arith, less-none)
mul-difference w a (suc b) =
    let one_less : pos a -ℤ pos (suc b) ≡ (pos a -ℤ pos b) -ℤ pos (suc zero) = omega (arith, ints) in
    let back : pos a -ℤ pos (suc b) ≡ pred_ℤ (pos a -ℤ pos b) = one_less ∙ -ℤ_one (pos a -ℤ pos b) in
    let turned = *ℤ_comm w (pred_ℤ (pos a -ℤ pos b)) in
    let step = pred_ℤ-*ℤ (pos a -ℤ pos b) w in
    let again = *ℤ_comm (pos a -ℤ pos b) w in
    let more : w *ℤ pos (suc b) ≡ w +ℤ (w *ℤ pos b) = ap (λ n. w *ℤ pos n) (omega arith) ∙ sym (one-more w b) in
    let so_far = mul-difference w a b in
    ap (λ z. w *ℤ z) back ∙ omega (arith, ints, turned, step, again, more, so_far)

-- the two words, each at a weight
by-weight : (w : ℤ) (a b : ℕ) (x y s : ℤ) → x -ℤ y ≡ s → (w *ℤ pos a +ℤ x) -ℤ (w *ℤ pos b +ℤ y) ≡ (w *ℤ (pos a -ℤ pos b)) +ℤ s
by-weight w a b x y s e =
    let split = mul-difference w a b in
    omega (arith, ints, split)

nothing-both : (x y p q : ℤ) → x ≡ p → y ≡ q → p ≡ pos 0 → q ≡ pos 0 → x -ℤ y ≡ pos 0
nothing-both x y p q a b c d = omega (arith, ints)

weighed_sum-worth : (own opp : ℕ) (table : List (ℤ × ℕ)) → own < 2 ^ 64 → opp < 2 ^ 64 → worth own 0 (spread table) -ℤ worth opp 0 (spread table) ≡ weighed_sum own opp table
weighed_sum-worth own opp [] own_fits opp_fits =
    nothing-both (worth own 0 (on_squares (pos 0) 0 0 64)) (worth opp 0 (on_squares (pos 0) 0 0 64)) _ _
    (worth-under own 0 (pos 0) own_fits) (worth-under opp 0 (pos 0) opp_fits)
    (zero-*ℤ (pos (count_ones (bit_and own 0)))) (zero-*ℤ (pos (count_ones (bit_and opp 0))))
weighed_sum-worth own opp (p ∷ more) own_fits opp_fits =
    let word_of : (word : ℕ) → word < 2 ^ 64 → worth word 0 (spread (p ∷ more)) ≡ (p.0 *ℤ pos (count_ones (bit_and word p.1))) +ℤ worth word 0 (spread more) =
    λ word fits.
    worth-added word 0 64 (on_squares p.0 p.1 0 64) (spread more) (length-on_squares p.0 p.1 0 64) (length-spread more)
    ∙ ap (λ x. x +ℤ worth word 0 (spread more)) (worth-under word p.1 p.0 fits) in
    ap (λ x. x -ℤ worth opp 0 (spread (p ∷ more))) (word_of own own_fits)
    ∙ ap (λ y. (p.0 *ℤ pos (count_ones (bit_and own p.1)) +ℤ worth own 0 (spread more)) -ℤ y) (word_of opp opp_fits)
    ∙ by-weight p.0 (count_ones (bit_and own p.1)) (count_ones (bit_and opp p.1)) (worth own 0 (spread more)) (worth opp 0 (spread more)) (weighed_sum own opp more)
    (weighed_sum-worth own opp more own_fits opp_fits)

-- the table says the weights
spread-table : weights ≡ spread weight_table
unfolding weights
spread-table = refl

pub weighed_sum-discs_value : (own opp : ℕ) → own < 2 ^ 64 → opp < 2 ^ 64 → bit_and own opp ≡ 0 → weighed_sum own opp weight_table ≡ discs_value (cells_of own opp) weights
unfolding squares
weighed_sum-discs_value own opp own_fits opp_fits disjoint =
    sym (discs-worth own opp 0 64 weights disjoint (ap length spread-table ∙ length-spread weight_table)
    ∙ ap (λ ws. worth own 0 ws -ℤ worth opp 0 ws) spread-table
    ∙ weighed_sum-worth own opp weight_table own_fits opp_fits)

-- ---- bounds

abs-within : (n : ℕ) (z : ℤ) → IsWithin n z → unsigned_abs z ≤ n
abs-within n z h3 = grind arith

within-abs : (n : ℕ) (z : ℤ) → unsigned_abs z ≤ n → IsWithin n z
within-abs n z h3 = grind arith

pub product-within : (m n : ℕ) (x y : ℤ) → IsWithin m x → IsWithin n y → IsWithin (m * n) (x *ℤ y)
product-within m n x y p q =
    within-abs (m * n) (x *ℤ y) (omega (arith, unsigned_abs-mul x y, mul-le (unsigned_abs x) (unsigned_abs y) m n (abs-within m x p) (abs-within n y q)))

-- ---- the code's sums

in-range : (n : ℕ) (z : ℤ) → n ≤ 6400 → IsWithin n z → to_z w32 (of_z w32 z) ≡ z
in-range n z few h = omega (arith, ints)

pub product-is : (m n : ℕ) (x y : ℤ) → IsWithin m x → IsWithin n y → m * n ≤ 6400 → m ≤ 100 → n ≤ 100
    → to_z w32 (of_z w32 (to_z w32 (of_z w32 x) *ℤ to_z w32 (of_z w32 y))) ≡ x *ℤ y
product-is m n x y p q few m_few n_few =
    let h = product-within m n x y p q in
    let x_is : to_z w32 (of_z w32 x) ≡ x = omega (arith, ints) in
    let y_is : to_z w32 (of_z w32 y) ≡ y = omega (arith, ints) in
    ap (λ z. to_z w32 (of_z w32 (z *ℤ to_z w32 (of_z w32 y)))) x_is ∙ ap (λ z. to_z w32 (of_z w32 (x *ℤ z))) y_is ∙ in-range (m * n) (x *ℤ y) few h

pub sums-more : (sum v : ℤ) (i : ℕ) (rest more all : ℤ) → i < 7 → neg_ℤ (pos (6400 * i)) ≤ℤ sum → sum ≤ℤ pos (6400 * i) → IsWithin 6400 v
    → sum +ℤ rest ≡ all → rest ≡ v +ℤ more
    → (to_z w32 (of_z w32 (sum +ℤ to_z w32 (of_z w32 v))) +ℤ more ≡ all) × (neg_ℤ (pos (6400 * (i + 1))) ≤ℤ to_z w32 (of_z w32 (sum +ℤ to_z w32 (of_z w32 v)))) × (to_z w32 (of_z w32 (sum +ℤ to_z w32 (of_z w32 v))) ≤ℤ pos (6400 * (i + 1)))
sums-more sum v i rest more all l low high h e f = (omega (arith, ints), omega (arith, ints), omega (arith, ints))

pub sum-fits : (sum v : ℤ) (i : ℕ) → i < 7 → neg_ℤ (pos (6400 * i)) ≤ℤ sum → sum ≤ℤ pos (6400 * i) → IsWithin 6400 v → FitsSigned w32 (sum +ℤ to_z w32 (of_z w32 v))
sum-fits sum v i l low high h = omega (arith, ints)

-- the difference of the discs under one word of the table more
pub sums-next : (own opp i : ℕ) → i < 7 → weighed_sum own opp (drop i weight_table)
    ≡ ((get_or weight_table i (pos 0, 0)).0 *ℤ disc_difference own opp (get_or weight_table i (pos 0, 0)).1) +ℤ weighed_sum own opp (drop (i + 1) weight_table)
sums-next own opp i turn = at_drop_more (weighed_sum own opp) weight_table i (pos 0, 0) turn

pub sums-end : (own opp i : ℕ) → 7 ≤ i → weighed_sum own opp (drop i weight_table) ≡ pos 0
sums-end own opp i end = at_drop_all (weighed_sum own opp) weight_table i end

pub weight-fits : (i : ℕ) → (get_or weight_table i (pos 0, 0)).0 ≡ to_z w32 (of_z w32 (get_or weight_table i (pos 0, 0)).0)
weight-fits i = grind arith

-- The weights of the squares of a word, row by row.

-- ---- the rows of a sum

more-sums : (x y z : ℤ) → x +ℤ (y +ℤ z) ≡ (x +ℤ y) +ℤ z
more-sums x y z = omega (arith, ints)

no-sum : (z : ℤ) → z ≡ pos 0 +ℤ z
no-sum z = omega (arith, ints)

module _ (f : ℕ → Cell) where
  -- what cells are worth from this bit on, so many of them
  abbrev value_from : ℕ → ℕ → List ℤ → ℤ
  value_from a n ws = discs_value (map f (range_with_len a n)) ws

  discs-parts : (a n m : ℕ) (ws : List ℤ) → value_from a (n + m) ws ≡ value_from a n (take n ws) +ℤ value_from (a + n) m (drop n ws)
  discs-parts a zero m ws =
      let same : 0 + m ≡ m = omega arith in
      let after : a ≡ a + 0 = omega arith in
      ap (λ k. value_from a k ws) same ∙ no-sum (value_from a m ws) ∙ ap (λ k. pos 0 +ℤ value_from k m ws) after
  discs-parts a (suc n) m [] = none (map f (range_with_len a (suc n + m))) ∙ sym (ap (λ z. pos 0 +ℤ z) (none (map f (range_with_len (a + suc n) m))))
    where
      none : (cs : List Cell) → discs_value cs [] ≡ pos 0
      none [] = refl
      none (c ∷ cs) = refl
  discs-parts a (suc n) m (w ∷ ws) =
      let further : suc n + m ≡ suc (n + m) = omega arith in
      let first = disc_value (f a) w in
      ap (λ k. value_from a k (w ∷ ws)) further
      ∙ ap (λ z. first +ℤ z) (discs-parts (a + 1) n m ws)
      ∙ more-sums first (value_from (a + 1) n (take n ws)) (value_from (a + 1 + n) m (drop n ws))
      ∙ ap (λ k. (first +ℤ value_from (a + 1) n (take n ws)) +ℤ value_from k m (drop n ws)) (omega arith)

abbrev row_sum : (ℕ → Cell) → ℕ → ℕ → List ℤ → ℤ
row_sum f a zero ws = pos 0
row_sum f a (suc r) ws = discs_value (map f (range_with_len a 8)) (take 8 ws) +ℤ row_sum f (a + 8) r (drop 8 ws)

discs-rows : (f : ℕ → Cell) (a r : ℕ) (ws : List ℤ) → discs_value (map f (range_with_len a (8 * r))) ws ≡ row_sum f a r ws
discs-rows f a zero ws = refl
discs-rows f a (suc r) ws =
    let next : 8 * suc r ≡ 8 + 8 * r = omega arith in
    ap (λ n. discs_value (map f (range_with_len a n)) ws) next
    ∙ discs-parts f a 8 (8 * r) ws
    ∙ ap (λ z. discs_value (map f (range_with_len a 8)) (take 8 ws) +ℤ z) (discs-rows f (a + 8) r (drop 8 ws))

-- the rows of the board
abbrev eight : ℕ → ℤ
eight word = row_value word 0 +ℤ (row_value word 1 +ℤ (row_value word 2 +ℤ (row_value word 3 +ℤ (row_value word 4 +ℤ (row_value word 5 +ℤ (row_value word 6 +ℤ (row_value word 7 +ℤ pos 0)))))))

pub board-rows : (word : ℕ) → discs_value (cells_of word 0) weights ≡ eight word
unfolding weights squares
board-rows word = discs-rows (cell_of word 0) 0 8 weights

-- ---- a row of the table

abbrev byte_value : ℕ → ℕ → ℤ
byte_value byte row = discs_value (map (cell_of byte 0) (range_with_len 0 8)) (take 8 (drop (8 * row) weights))

maps-same : (f g : ℕ → Cell) (a b n : ℕ) → ((i : ℕ) → i < n → f (a + i) ≡ g (b + i)) → map f (range_with_len a n) ≡ map g (range_with_len b n)
maps-same f g a b zero same = refl
maps-same f g a b (suc n) same =
    let plain : (a : ℕ) → a ≡ a + 0 = λ a. omega arith in
    let first : f a ≡ g b = ap f (plain a) ∙ same 0 (omega arith) ∙ ap g (sym (plain b)) in
    let rest = maps-same f g (a + 1) (b + 1) n (λ i below. ap f (later a i) ∙ same (suc i) (omega arith) ∙ ap g (sym (later b i))) in
    ap₂ (λ c cs. c ∷ cs) first rest
  where
    later : (a i : ℕ) → a + 1 + i ≡ a + suc i
    later a i = omega arith

module _ (x k t : ℕ) where
  byte-bit : t < 8 → bit_at x (k + t) ≡ bit_at (bit_and (x / 2 ^ k) 255) t
  byte-bit below =
      let small = bit_at-lt (x / 2 ^ k) t in
      let set = bit_at_ones 8 t below in
      let all_set : bit_at (x / 2 ^ k) t ≡ min (bit_at (x / 2 ^ k) t) (bit_at 255 t) = omega (arith, small, set) in
      ap (bit_at x) (omega arith) ∙ sym (bit_at-right x k t) ∙ all_set ∙ sym (bit_at_and (x / 2 ^ k) 255 t)

  byte-cell : t < 8 → cell_of x 0 (k + t) ≡ cell_of (bit_and (x / 2 ^ k) 255) 0 (0 + t)
  byte-cell below =
      ap (λ n. cond (eqb n 1) Own (cond (eqb (bit_at 0 (k + t)) 1) Opp Empty)) (byte-bit below ∙ ap (bit_at (bit_and (x / 2 ^ k) 255)) (omega arith))
      ∙ ap (λ n. cond (eqb (bit_at (bit_and (x / 2 ^ k) 255) (0 + t)) 1) Own (cond (eqb n 1) Opp Empty)) (bit_at-zero (k + t) ∙ sym (bit_at-zero (0 + t)))

row-of-byte : (word row : ℕ) → row_value word row ≡ byte_value (bit_and (word / 2 ^ (8 * row)) 255) row
row-of-byte word row =
    let byte = bit_and (word / 2 ^ (8 * row)) 255 in
    ap (λ cs. discs_value cs (take 8 (drop (8 * row) weights))) (maps-same (cell_of word 0) (cell_of byte 0) (8 * row) 0 8 (byte-cell word (8 * row)))

abbrev in_table : ℕ → ℕ → Bool
in_table row byte = eqb (of_z w32 (get_or (get_or ROW_VALUES (kind_of row) []) byte (pos 0))) (of_z w32 (byte_value byte row))

row-in_table : (row : ℕ) → row < 8 → all_below 256 (in_table row) ≡ true
unfolding weights
row-in_table row below = holds-below 8 (λ r. all_below 256 (in_table r)) refl row below

abs-of-row : (row : ℕ) → row < 8 → abs_sum (take 8 (drop (8 * row) weights)) ≤ 300
unfolding weights
abs-of-row row below = leb-true _ 300 (holds-below 8 (λ r. leb (abs_sum (take 8 (drop (8 * r) weights))) 300) refl row below)

pub row-within : (word row : ℕ) → row < 8 → IsWithin 300 (row_value word row)
row-within word row below =
    let h = discs_value-within (map (cell_of word 0) (range_with_len (8 * row) 8)) (take 8 (drop (8 * row) weights)) in
    let few = abs-of-row row below in
    (omega (arith, ints, h.0), omega (arith, ints, h.1))

kept-bits : (z : ℤ) → IsWithin 300 z → to_z w32 (of_z w32 z) ≡ z
kept-bits z h = omega (arith, ints)

pub row-read : (word row byte kind : ℕ) → row < 8 → byte ≡ bit_and (word / 2 ^ (8 * row)) 255 → kind ≡ kind_of row
    → to_z w32 (of_z w32 (get_or (get_or ROW_VALUES kind []) byte (pos 0))) ≡ row_value word row
row-read word row byte kind below byte_is kind_is =
    let small : bit_and (word / 2 ^ (8 * row)) 255 < 256 = omega (arith, and_le_r (word / 2 ^ (8 * row)) 255) in
    ap₂ (λ k b. to_z w32 (of_z w32 (get_or (get_or ROW_VALUES k []) b (pos 0)))) kind_is byte_is
    ∙ ap (to_z w32) (eqb-true _ _ (holds-below 256 (in_table row) (row-in_table row below) (bit_and (word / 2 ^ (8 * row)) 255) small))
    ∙ ap (λ z. to_z w32 (of_z w32 z)) (sym (row-of-byte word row))
    ∙ kept-bits (row_value word row) (row-within word row below)
