-- The values of an Othello board: how large they are, that 32 bits hold them, and how a move changes that of the
-- discs.
use Rattle.othello_eval.proofs.Common.{◌≡◌, ℕ, ◌+◌, ◌<◌, ◌≤◌, List, [], ◌∷◌, length, count_by, ℤ, pos, ◌+ℤ◌, ◌-ℤ◌, ◌*ℤ◌, ◌<ℤ◌, nat_abs, refl, arith, w32, to_z, of_z, FitsSigned, zero, suc, ◌-◌, Bool, true, false, ◌&&◌, ◌||◌, cond, eqb, ◌++◌, map, bit_and, min, Option, Some, unwrap_or, inl, inr, neg_ℤ, leb, sym, ap, ◌∙◌, subst, get_or, eq-eqb, ints, count_by-le-length, Cell, exchanged, is_own_cell, is_opp_cell, squares, cell_at, is_among, is_empty_cell, is_legal, exchanged_cell, played, outflanked, led_by, ray, run, flips, directions, legal_squares, legal_squares-fit, weights, disc_value, discs_value, eval, final_value, IsWithin, bit_at, range_with_len, flat_map, list_all, and_parts, cases_lt, ne_eqb, or_cases, eqb-true, false≢true, bit_at_and, bit_at-lt, bit_at-zero, common_steps, Empty, Own, Opp, Direction, cell_of, cells_of, apart, map-map, cell_at-map, cell_at-cells_of, is-opp-cell_of, SQUARE_WEIGHTS, weight_at}
use Rattle.std.proofs.lemmas.Bool.{leb-true}

-- the sum of the absolute values
abbrev pub abs_sum : List ℤ → ℕ
abs_sum [] = 0
abs_sum (w ∷ ws) = nat_abs w + abs_sum ws

within-abs : (w : ℤ) → IsWithin (nat_abs w) w
within-abs w = grind arith

disc_value-within : (c : Cell) (w : ℤ) → IsWithin (nat_abs w) (disc_value c w)
disc_value-within c w = grind (arith, within-abs)

pub discs_value-within : (cs : List Cell) (ws : List ℤ) → IsWithin (abs_sum ws) (discs_value cs ws)
discs_value-within [] ws = (omega (arith, ints), omega (arith, ints))
discs_value-within (c ∷ cs) [] = (omega (arith, ints), omega (arith, ints))
discs_value-within (c ∷ cs) (w ∷ ws) =
    let h = disc_value-within c w in
    let more = discs_value-within cs ws in
    (omega (arith, ints), omega (arith, ints))

abs_sum-weights : abs_sum weights ≡ 928
unfolding weights
abs_sum-weights = refl

pub weighed-within : (cs : List Cell) → IsWithin 928 (discs_value cs weights)
weighed-within cs =
    let h = discs_value-within cs weights in
    let e = abs_sum-weights in
    (omega (arith, ints), omega (arith, ints))

eval-by : (d : ℤ) (a b : ℕ) → IsWithin 928 d → a ≤ 64 → b ≤ 64 → IsWithin 1184 (d +ℤ (pos 4 *ℤ (pos a -ℤ pos b)))
eval-by d a b h l m = (omega (arith, ints), omega (arith, ints))

-- an evaluation lies within -1,184 and 1,184
pub eval-within : (board : List Cell) → IsWithin 1184 (eval board)
eval-within board =
    eval-by (discs_value board weights) (length (legal_squares board)) (length (legal_squares (exchanged board)))
    (weighed-within board) (legal_squares-fit board) (legal_squares-fit (exchanged board))

final-by : (a b : ℕ) → a ≤ 64 → b ≤ 64 → IsWithin 128000 (pos 2000 *ℤ (pos a -ℤ pos b))
final-by a b l m = (omega (arith, ints), omega (arith, ints))

-- the value of a finished game on a board of 64 cells lies within -128,000 and 128,000
pub final_value-within : (board : List Cell) → length board ≡ 64 → IsWithin 128000 (final_value board)
final_value-within board e =
    final-by (count_by is_own_cell board) (count_by is_opp_cell board)
    (omega (arith, count_by-le-length is_own_cell board, e)) (omega (arith, count_by-le-length is_opp_cell board, e))

outranks-by : (a b : ℕ) (v : ℤ) → b < a → IsWithin 1184 v → v <ℤ (pos 2000 *ℤ (pos a -ℤ pos b))
outranks-by a b v l h = omega (arith, ints)

outranked-by : (a b : ℕ) (v : ℤ) → a < b → IsWithin 1184 v → (pos 2000 *ℤ (pos a -ℤ pos b)) <ℤ v
outranked-by a b v l h = omega (arith, ints)

-- one disc of difference in a finished game outranks every evaluation
pub win_outranks : (board other : List Cell) → count_by is_opp_cell board < count_by is_own_cell board → eval other <ℤ final_value board
win_outranks board other l = outranks-by (count_by is_own_cell board) (count_by is_opp_cell board) (eval other) l (eval-within other)

pub loss_outranked : (board other : List Cell) → count_by is_own_cell board < count_by is_opp_cell board → final_value board <ℤ eval other
loss_outranked board other l = outranked-by (count_by is_own_cell board) (count_by is_opp_cell board) (eval other) l (eval-within other)

-- The arithmetic of the code, in 32 bits.

pub small-fits : (n : ℕ) → n ≤ 64 → FitsSigned w32 (pos n)
small-fits n l = omega (arith, ints)

module _ (a b : ℕ) (l : a ≤ 64) (m : b ≤ 64) where
  pub difference-fits : FitsSigned w32 (to_z w32 a -ℤ to_z w32 b)
  difference-fits = omega (arith, ints)

  pub final-fits : FitsSigned w32 (pos 2000 *ℤ to_z w32 (of_z w32 (to_z w32 a -ℤ to_z w32 b)))
  final-fits = omega (arith, ints)

  pub final-is : to_z w32 (of_z w32 (pos 2000 *ℤ to_z w32 (of_z w32 (to_z w32 a -ℤ to_z w32 b)))) ≡ pos 2000 *ℤ (pos a -ℤ pos b)
  final-is = omega (arith, ints)

  pub mobility-fits : FitsSigned w32 (pos 4 *ℤ to_z w32 (of_z w32 (to_z w32 a -ℤ to_z w32 b)))
  mobility-fits = omega (arith, ints)

pub eval-fits : (d : ℤ) (a b : ℕ) → IsWithin 928 d → a ≤ 64 → b ≤ 64
    → FitsSigned w32 (to_z w32 (of_z w32 d) +ℤ to_z w32 (of_z w32 (pos 4 *ℤ to_z w32 (of_z w32 (to_z w32 a -ℤ to_z w32 b)))))
eval-fits d a b h l m = omega (arith, ints)

pub eval-is : (d : ℤ) (a b : ℕ) → IsWithin 928 d → a ≤ 64 → b ≤ 64
    → to_z w32 (of_z w32 (to_z w32 (of_z w32 d) +ℤ to_z w32 (of_z w32 (pos 4 *ℤ to_z w32 (of_z w32 (to_z w32 a -ℤ to_z w32 b)))))) ≡ d +ℤ (pos 4 *ℤ (pos a -ℤ pos b))
eval-is d a b h l m = omega (arith, ints)

-- The value of a board's discs after a move, from the value before it.

-- ---- what is flipped was the opponent's

outflanked-opposing : (board : List Cell) (xs : List ℕ) (i : ℕ) → is_among i (unwrap_or (outflanked board xs) []) ≡ true → is_opp_cell (cell_at board i) ≡ true
outflanked-opposing board [] i among = absurd (false≢true among)
outflanked-opposing board (s ∷ xs) i among = by-cell (cell_at board s) refl (outflanked board xs) (outflanked-opposing board xs i) among
  where
    later : (ys : List ℕ) → is_opp_cell (cell_at board s) ≡ true → (is_among i ys ≡ true → is_opp_cell (cell_at board i) ≡ true) → (eqb s i || is_among i ys) ≡ true →
        is_opp_cell (cell_at board i) ≡ true
    later ys opposing below h =
        elim (or_cases (eqb s i) (is_among i ys) h) [
          | inl same ↦ ap (λ k. is_opp_cell (cell_at board k)) (sym (eqb-true s i same)) ∙ opposing
          | inr more ↦ below more
        ]

    by-cell : (c : Cell) → cell_at board s ≡ c → (beyond : Option (List ℕ)) → (is_among i (unwrap_or beyond []) ≡ true → is_opp_cell (cell_at board i) ≡ true) →
        is_among i (unwrap_or (led_by c s beyond) []) ≡ true → is_opp_cell (cell_at board i) ≡ true
    by-cell Opp e (Some ys) below h = later ys (ap is_opp_cell e) below h
    by-cell _ e beyond below h = absurd (false≢true h)

among-append : (i : ℕ) (xs ys : List ℕ) → is_among i (xs ++ ys) ≡ (is_among i xs || is_among i ys)
among-append i [] ys = refl
among-append i (x ∷ xs) ys = grind (arith, among-append i xs ys)

flat-opposing : (board : List Cell) (s i : ℕ) (ds : List Direction) → is_among i (flat_map (run board s) ds) ≡ true → is_opp_cell (cell_at board i) ≡ true
flat-opposing board s i [] among = absurd (false≢true among)
flat-opposing board s i (d ∷ ds) among =
    elim (or_cases (is_among i (run board s d)) (is_among i (flat_map (run board s) ds)) (sym (among-append i (run board s d) (flat_map (run board s) ds)) ∙ among)) [
      | inl here ↦ outflanked-opposing board (ray d s) i here
      | inr later ↦ flat-opposing board s i ds later
    ]

pub flips-opposing : (board : List Cell) (s i : ℕ) → is_among i (flips board s) ≡ true → is_opp_cell (cell_at board i) ≡ true
flips-opposing board s i among = flat-opposing board s i directions among

-- ---- one square

-- the worth of a square after a move, where it is the move's, or among the flipped ones, or neither
turned : (c : Cell) (w : ℤ) (here among : Bool) → (here ≡ true → is_empty_cell c ≡ true) → (among ≡ true → is_opp_cell c ≡ true)
    → disc_value (exchanged_cell (cond (here || among) Own c)) w
    ≡ neg_ℤ (disc_value c w +ℤ (pos 2 *ℤ (cond (is_opp_cell c && is_opp_cell (exchanged_cell (cond (here || among) Own c))) w (pos 0)) +ℤ cond here w (pos 0)))
turned Empty w true true empty opposing = absurd (false≢true (opposing refl))
turned Empty w true false empty opposing = omega (arith, ints)
turned Empty w false true empty opposing = absurd (false≢true (opposing refl))
turned Empty w false false empty opposing = omega (arith, ints)
turned Own w true among empty opposing = absurd (false≢true (empty refl))
turned Own w false true empty opposing = absurd (false≢true (opposing refl))
turned Own w false false empty opposing = omega (arith, ints)
turned Opp w true among empty opposing = absurd (false≢true (empty refl))
turned Opp w false true empty opposing = omega (arith, ints)
turned Opp w false false empty opposing = omega (arith, ints)

both-set : (a b : ℕ) → a < 2 → b < 2 → (eqb a 1 && eqb b 1) ≡ eqb (min a b) 1
both-set a b h1 h2 = grind arith

lone-disc : (a z : ℕ) (w : ℤ) → z ≡ 0 → cond (eqb a 1) w (pos 0) ≡ disc_value (cond (eqb a 1) Own (cond (eqb z 1) Opp Empty)) w
lone-disc a z w h = grind (arith, common_steps)

-- what was the opponent's before and is so after is set in both words
turned-bit : (own opp next_own next_opp i : ℕ) (w : ℤ) → bit_and own opp ≡ 0 → bit_and next_own next_opp ≡ 0
    → cond (is_opp_cell (cell_of own opp i) && is_opp_cell (cell_of next_own next_opp i)) w (pos 0) ≡ disc_value (cell_of (bit_and opp next_opp) 0 i) w
turned-bit own opp next_own next_opp i w apart_before apart_after =
    ap (λ t. cond (t && is_opp_cell (cell_of next_own next_opp i)) w (pos 0)) (is-opp-cell_of (bit_at own i) (bit_at opp i) (bit_at-lt own i) (bit_at-lt opp i) (apart own opp i apart_before))
    ∙ ap (λ t. cond (eqb (bit_at opp i) 1 && t) w (pos 0)) (is-opp-cell_of (bit_at next_own i) (bit_at next_opp i) (bit_at-lt next_own i) (bit_at-lt next_opp i) (apart next_own next_opp i apart_after))
    ∙ ap (λ t. cond t w (pos 0)) (both-set (bit_at opp i) (bit_at next_opp i) (bit_at-lt opp i) (bit_at-lt next_opp i) ∙ ap (λ n. eqb n 1) (sym (bit_at_and opp next_opp i)))
    ∙ lone-disc (bit_at (bit_and opp next_opp) i) (bit_at 0 i) w (bit_at-zero i)

-- what one square tells
abbrev TurnsAt : ℕ → ℕ → ℕ → ℕ → ℕ → ℕ → Type 0
TurnsAt own opp next_own next_opp s i = (w : ℤ) → disc_value (cell_of next_own next_opp i) w
    ≡ neg_ℤ (disc_value (cell_of own opp i) w +ℤ (pos 2 *ℤ disc_value (cell_of (bit_and opp next_opp) 0 i) w +ℤ cond (eqb s i) w (pos 0)))

-- ---- all squares

-- the weight of square s among weights of which the first is that of square a
abbrev weight_from : ℕ → ℕ → List ℤ → ℤ
weight_from s a [] = pos 0
weight_from s a (w ∷ ws) = cond (eqb s a) w (pos 0) +ℤ weight_from s (a + 1) ws

sums : (x y z e v m k t : ℤ) → e ≡ neg_ℤ (x +ℤ (pos 2 *ℤ y +ℤ z)) → v ≡ neg_ℤ (m +ℤ (pos 2 *ℤ k +ℤ t)) → e +ℤ v ≡ neg_ℤ ((x +ℤ m) +ℤ (pos 2 *ℤ (y +ℤ k) +ℤ (z +ℤ t)))
sums x y z e v m k t h1 h2 = omega (arith, ints)

turned-sum : (own opp next_own next_opp s a n : ℕ) (ws : List ℤ) → ((i : ℕ) → i < a + n → TurnsAt own opp next_own next_opp s i) → length ws ≡ n
    → discs_value (map (cell_of next_own next_opp) (range_with_len a n)) ws
    ≡ neg_ℤ (discs_value (map (cell_of own opp) (range_with_len a n)) ws +ℤ (pos 2 *ℤ discs_value (map (cell_of (bit_and opp next_opp) 0) (range_with_len a n)) ws +ℤ weight_from s a ws))
turned-sum own opp next_own next_opp s a zero [] each len = refl
turned-sum own opp next_own next_opp s a (suc n) (w ∷ ws) each len =
    sums (disc_value (cell_of own opp a) w) (disc_value (cell_of (bit_and opp next_opp) 0 a) w) (cond (eqb s a) w (pos 0)) _ _ _ _ _
    (each a (omega arith) w)
    (turned-sum own opp next_own next_opp s (a + 1) n ws (λ i below. each i (omega arith)) (omega arith))
turned-sum own opp next_own next_opp s a n ws each len = absurd (omega arith)

-- a weight among these is the weight of the square
weight-found : (s a : ℕ) (ws : List ℤ) → a ≤ s → weight_from s a ws ≡ get_or ws (s - a) (pos 0)
weight-found s a [] low = refl
weight-found s a (w ∷ ws) low = elim (cases_lt a s) [
  | inl later ↦
      let one_later : s - a ≡ suc (s - (a + 1)) = omega arith in
      ap (λ b. cond b w (pos 0) +ℤ weight_from s (a + 1) ws) (ne_eqb s a (λ e. absurd (omega arith)))
      ∙ none-first (weight_from s (a + 1) ws)
      ∙ weight-found s (a + 1) ws (omega arith)
      ∙ sym (ap (λ k. get_or (w ∷ ws) k (pos 0)) one_later)
  | inr at ↦
      let same : s ≡ a = omega arith in
      let none_before : s - a ≡ 0 = omega arith in
      ap (λ b. cond b w (pos 0) +ℤ weight_from s (a + 1) ws) (eq-eqb s a same)
      ∙ ap (λ z. w +ℤ z) (none-left s (a + 1) ws (omega arith))
      ∙ none-last w
      ∙ sym (ap (λ k. get_or (w ∷ ws) k (pos 0)) none_before)
]
  where
    none-first : (z : ℤ) → pos 0 +ℤ z ≡ z
    none-first z = omega (arith, ints)

    none-last : (z : ℤ) → z +ℤ pos 0 ≡ z
    none-last z = omega (arith, ints)

    none-left : (s a : ℕ) (ws : List ℤ) → s < a → weight_from s a ws ≡ pos 0
    none-left s a [] l = refl
    none-left s a (w ∷ ws) l =
        ap (λ b. cond b w (pos 0) +ℤ weight_from s (a + 1) ws) (ne_eqb s a (λ e. absurd (omega arith)))
        ∙ none-first (weight_from s (a + 1) ws)
        ∙ none-left s (a + 1) ws (omega arith)

-- the cells after a move, one by one
played-at : (own opp next_own next_opp s i : ℕ) → cells_of next_own next_opp ≡ played (cells_of own opp) s → i < 64
    → cell_of next_own next_opp i ≡ exchanged_cell (cond (is_among i (s ∷ flips (cells_of own opp) s)) Own (cell_of own opp i))
played-at own opp next_own next_opp s i is below =
    let made = s ∷ flips (cells_of own opp) s in
    sym (cell_at-cells_of next_own next_opp i below)
    ∙ ap (λ b. cell_at b i) (is ∙ map-map exchanged_cell (λ t. cond (is_among t made) Own (cell_at (cells_of own opp) t)) squares)
    ∙ cell_at-map (λ t. exchanged_cell (cond (is_among t made) Own (cell_at (cells_of own opp) t))) i below
    ∙ ap (λ c. exchanged_cell (cond (is_among i made) Own c)) (cell_at-cells_of own opp i below)

empty-of-legal : (a b : Bool) → (a && b) ≡ true → a ≡ true
empty-of-legal a b h = grind arith

turns-at : (own opp next_own next_opp s i : ℕ) → bit_and own opp ≡ 0 → bit_and next_own next_opp ≡ 0 → is_legal (cells_of own opp) s ≡ true
    → cells_of next_own next_opp ≡ played (cells_of own opp) s → i < 64 → TurnsAt own opp next_own next_opp s i
turns-at own opp next_own next_opp s i before after legal is below w =
    let board = cells_of own opp in
    let c = cell_of own opp i in
    let here = eqb s i in
    let among = is_among i (flips board s) in
    let next : cell_of next_own next_opp i ≡ exchanged_cell (cond (here || among) Own c) = played-at own opp next_own next_opp s i is below in
    ap (λ x. disc_value x w) next
    ∙ turned c w here among
    (λ same. ap is_empty_cell (sym (cell_at-cells_of own opp i below)) ∙ ap (λ t. is_empty_cell (cell_at board t)) (sym (eqb-true s i same)) ∙ empty-of-legal _ _ legal)
    (λ flipped. ap is_opp_cell (sym (cell_at-cells_of own opp i below)) ∙ flips-opposing board s i flipped)
    ∙ ap (λ x. neg_ℤ (disc_value c w +ℤ (pos 2 *ℤ (cond (is_opp_cell c && is_opp_cell x) w (pos 0)) +ℤ cond here w (pos 0)))) (sym next)
    ∙ ap (λ z. neg_ℤ (disc_value c w +ℤ (pos 2 *ℤ z +ℤ cond here w (pos 0)))) (turned-bit own opp next_own next_opp i w before after)

weights-length : length weights ≡ 64
unfolding weights
weights-length = refl

-- the value of the discs after a move: the negative of what it was, twice the weights of the flipped discs, and the
-- weight of the square
pub after-move : (own opp next_own next_opp s : ℕ) → bit_and own opp ≡ 0 → bit_and next_own next_opp ≡ 0 → is_legal (cells_of own opp) s ≡ true
    → cells_of next_own next_opp ≡ played (cells_of own opp) s
    → discs_value (cells_of next_own next_opp) weights
    ≡ neg_ℤ (discs_value (cells_of own opp) weights +ℤ (pos 2 *ℤ discs_value (cells_of (bit_and opp next_opp) 0) weights +ℤ weight_at s))
unfolding squares
after-move own opp next_own next_opp s before after legal is =
    let whole : s - 0 ≡ s = omega arith in
    let weight = weight-found s 0 weights (omega arith) ∙ ap (λ k. get_or weights k (pos 0)) whole in
    turned-sum own opp next_own next_opp s 0 64 weights (λ i below. turns-at own opp next_own next_opp s i before after legal is below) weights-length
    ∙ ap (λ z. neg_ℤ (discs_value (cells_of own opp) weights +ℤ (pos 2 *ℤ discs_value (cells_of (bit_and opp next_opp) 0) weights +ℤ z))) weight

-- after a pass the sign turns
exchanged-value : (c : Cell) (w : ℤ) → disc_value (exchanged_cell c) w ≡ neg_ℤ (disc_value c w)
exchanged-value c w = grind (arith, ints)

pub after-pass : (cs : List Cell) (ws : List ℤ) → discs_value (exchanged cs) ws ≡ neg_ℤ (discs_value cs ws)
after-pass [] ws = refl
after-pass (c ∷ cs) [] = refl
after-pass (c ∷ cs) (w ∷ ws) =
    negated-sum (disc_value (exchanged_cell c) w) (disc_value c w) (discs_value (exchanged cs) ws) (discs_value cs ws) (exchanged-value c w) (after-pass cs ws)
  where
    negated-sum : (x y u v : ℤ) → x ≡ neg_ℤ y → u ≡ neg_ℤ v → x +ℤ u ≡ neg_ℤ (y +ℤ v)
    negated-sum x y u v e f = omega (arith, ints)

-- ---- the code's table

pub table-weights : SQUARE_WEIGHTS ≡ weights
unfolding weights
table-weights = refl

some-within : (ws : List ℤ) (s : ℕ) → list_all (λ w. leb (nat_abs w) 100) ws ≡ true → nat_abs (get_or ws s (pos 0)) ≤ 100
some-within [] s all = omega arith
some-within (w ∷ ws) zero all = leb-true (nat_abs w) 100 (and_parts (leb (nat_abs w) 100) (list_all (λ w. leb (nat_abs w) 100) ws) all).0
some-within (w ∷ ws) (suc s) all = some-within ws s (and_parts (leb (nat_abs w) 100) (list_all (λ w. leb (nat_abs w) 100) ws) all).1

all-small : list_all (λ w. leb (nat_abs w) 100) weights ≡ true
unfolding weights
all-small = refl

within-by : (w : ℤ) → nat_abs w ≤ 100 → IsWithin 100 w
within-by w h = grind arith

pub weight-within : (s : ℕ) → IsWithin 100 (weight_at s)
weight-within s = within-by (weight_at s) (some-within weights s all-small)

kept-bits : (z : ℤ) → IsWithin 100 z → to_z w32 (of_z w32 z) ≡ z
kept-bits z h = omega (arith, ints)

pub weight-read : (s : ℕ) → to_z w32 (of_z w32 (get_or SQUARE_WEIGHTS s (pos 0))) ≡ weight_at s
weight-read s = ap (λ ws. to_z w32 (of_z w32 (get_or ws s (pos 0)))) table-weights ∙ kept-bits (weight_at s) (weight-within s)

-- ---- the code's sums

pub known-within : (z : ℤ) (cs : List Cell) → z ≡ discs_value cs weights → IsWithin 928 z
known-within z cs known = subst (IsWithin 928) (sym known) (weighed-within cs)

pub known-bits : (z : ℤ) → IsWithin 928 z → IsWithin 928 (to_z w32 (of_z w32 z))
known-bits z h = (omega (arith, ints), omega (arith, ints))

pub negated-fits : (z : ℤ) → IsWithin 928 z → FitsSigned w32 (pos 0 -ℤ to_z w32 (of_z w32 z))
negated-fits z h = omega (arith, ints)

pub negated-is : (z v : ℤ) → IsWithin 928 z → z ≡ v → to_z w32 (of_z w32 (pos 0 -ℤ to_z w32 (of_z w32 z))) ≡ neg_ℤ v
negated-is z v h e = omega (arith, ints)
