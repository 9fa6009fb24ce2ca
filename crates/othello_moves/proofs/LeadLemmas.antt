-- Representation: which squares of an Othello board may stand inside a run of discs that a move outflanks.
use Rattle.othello_moves.proofs.Common.{Direction, North, NorthEast, East, SouthEast, South, SouthWest, West, NorthWest, ◌≡◌, zero, suc, ◌+◌, ◌-◌, ◌^◌, ◌<◌, ◌≤◌, false, ◌||◌, cond, eqb, ltb, List, [], ◌++◌, filter, Option, Some, None, unwrap_or, bit_and, bit_or, min, max, inl, inr, refl, sym, ap, ap₂, ◌∙◌, arith, w64, ℕ, ◌%◌, ◌==◌, Bool, true, not, ◌&&◌, if◌then◌else◌, is_some, flat_map, range_with_len, bit_at, cases_lt, ne_eqb, eqb-true, ltb-true, and_parts, or_cases, not-true, and_right, or_lt, bit_at_and, bit_at_or, bit_at_not, bit_at_above, bit_at-lt, same_from_bits, and_comm, Cell, Empty, Own, Opp, step, squares_beside, outflanked, led_by, cell_at, run, flips, directions, is_legal, squares, is_among, is_own_cell, is_opp_cell, is_empty_cell, is_nil, cells_of, bits_of, opposite, slid_from, bit_there, all_below, holds-below, step-back, beside-edge, beside-next, apart, bit_at-bits_of, cell_at-cells_of, bit-cases}
use Rattle.othello_moves.proofs.BitLemmas.{is_among-filter, is-square, and-true}

-- 1 where a test holds, else 0
abbrev pub bit_of : Bool → ℕ
bit_of test = if test then 1 else 0

-- whether a square lies in columns b to g
abbrev pub has_both_sides : ℕ → Bool
has_both_sides s = not (s % 8 == 0) && not (s % 8 == 7)

-- whether an opposing disc on this square is counted as inside a run in this direction: on any square for north and
-- south, else only in columns b to g, so that no shift of a word leads around the left or the right edge
abbrev pub is_inner : Direction → ℕ → Bool
is_inner North s = true
is_inner NorthEast s = has_both_sides s
is_inner East s = has_both_sides s
is_inner SouthEast s = has_both_sides s
is_inner South s = true
is_inner SouthWest s = has_both_sides s
is_inner West s = has_both_sides s
is_inner NorthWest s = has_both_sides s

-- The spread of a word from the mover's discs over opposing ones, bit by bit and round by round.

-- the next n squares beside a square in a direction begin with opposing discs, or none, and then a disc of the mover
abbrev pub goes_on : ℕ → List Cell → Direction → ℕ → Bool
goes_on n board d s = is_some (outflanked board (squares_beside n d s))

-- an opposing disc stands on the square, and at most n more lie between it and a disc of the mover
abbrev pub leads : ℕ → List Cell → Direction → ℕ → Bool
leads n board d s = is_opp_cell (cell_at board s) && goes_on (suc n) board d s

-- ---- the bits of a square

own-of : (a b : ℕ) → a < 2 → b < 2 → a ≡ bit_of (is_own_cell (cond (eqb a 1) Own (cond (eqb b 1) Opp Empty)))
own-of a b p q = grind (arith, bit-cases)

opp-of : (a b : ℕ) → a < 2 → b < 2 → min a b ≡ 0 → b ≡ bit_of (is_opp_cell (cond (eqb a 1) Own (cond (eqb b 1) Opp Empty)))
opp-of a b p q h = grind (arith, bit-cases)

empty-of : (a b : ℕ) → a < 2 → b < 2 → 1 - max a b ≡ bit_of (is_empty_cell (cond (eqb a 1) Own (cond (eqb b 1) Opp Empty)))
empty-of a b p q = grind (arith, bit-cases)

pub own-bit : (own opp t : ℕ) → t < 64 → bit_at own t ≡ bit_of (is_own_cell (cell_at (cells_of own opp) t))
own-bit own opp t below = grind (arith, own-of, bit_at-lt, cell_at-cells_of)

pub opp-bit : (own opp t : ℕ) → bit_and own opp ≡ 0 → t < 64 → bit_at opp t ≡ bit_of (is_opp_cell (cell_at (cells_of own opp) t))
opp-bit own opp t disjoint below = grind (arith, opp-of, bit_at-lt, apart, cell_at-cells_of)

pub empty-bit : (own opp t : ℕ) → t < 64 → 1 - max (bit_at own t) (bit_at opp t) ≡ bit_of (is_empty_cell (cell_at (cells_of own opp) t))
empty-bit own opp t below = grind (arith, empty-of, bit_at-lt, cell_at-cells_of)

pub min-of-tests : (a b : Bool) → min (bit_of a) (bit_of b) ≡ bit_of (a && b)
min-of-tests a b = grind arith

pub max-of-tests : (a b : Bool) → max (bit_of a) (bit_of b) ≡ bit_of (a || b)
max-of-tests a b = grind arith

-- ---- one square ahead

-- whether the run goes on from the next square, where there is one
abbrev ahead : ℕ → List Cell → Direction → Option ℕ → Bool
ahead n board d None = false
ahead n board d (Some u) = is_own_cell (cell_at board u) || (is_opp_cell (cell_at board u) && goes_on n board d u)

some-led_by : (c : Cell) (u : ℕ) (beyond : Option (List ℕ)) → is_some (led_by c u beyond) ≡ (is_own_cell c || (is_opp_cell c && is_some beyond))
some-led_by c u beyond = grind arith

goes_on-next : (n : ℕ) (board : List Cell) (d : Direction) (t : ℕ) (next : Option ℕ) → step d t ≡ next → goes_on (suc n) board d t ≡ ahead n board d next
goes_on-next n board d t next h6 = grind (arith, beside-edge, beside-next, some-led_by)

nothing-beside : (board : List Cell) (d : Direction) (t : ℕ) → goes_on 0 board d t ≡ false
unfolding squares_beside
nothing-beside board d t = refl

-- a run that goes on within n squares does so within one more
or-keeps : (w p g h : Bool) → (g ≡ true → h ≡ true) → (w || (p && g)) ≡ true → (w || (p && h)) ≡ true
or-keeps w p g h h1 h2 = grind arith

keeps-ahead : (n : ℕ) (board : List Cell) (d : Direction) (next : Option ℕ) → ((u : ℕ) → goes_on n board d u ≡ true → goes_on (suc n) board d u ≡ true) → ahead n board d next ≡ true → ahead (suc n) board d next ≡ true
keeps-ahead n board d next h5 h6 = grind (arith, or-keeps)

keeps-on : (n : ℕ) (board : List Cell) (d : Direction) (t : ℕ) → goes_on n board d t ≡ true → goes_on (suc n) board d t ≡ true
keeps-on zero board d t e = let no = nothing-beside board d t in cc
keeps-on (suc n) board d t e =
    goes_on-next (suc n) board d t (step d t) refl
    ∙ keeps-ahead n board d (step d t) (λ u. keeps-on n board d u) (sym (goes_on-next n board d t (step d t) refl) ∙ e)

-- ---- a word slid back, bit by bit

-- whether the next square, where there is one, passes a test
abbrev pub there_is : (ℕ → Bool) → Option ℕ → Bool
there_is test None = false
there_is test (Some u) = test u

abbrev same_square : Option ℕ → Option ℕ → Bool
same_square None None = true
same_square None (Some u) = false
same_square (Some s) None = false
same_square (Some s) (Some u) = eqb s u

same_square-true : (o p : Option ℕ) → same_square o p ≡ true → o ≡ p
same_square-true o p h3 = grind arith

-- on an inner square the slide is a step
abbrev inner_test : Direction → ℕ → Bool
inner_test d t = not (is_inner d t) || same_square (slid_from (opposite d) t) (step d t)

inner-everywhere : (d : Direction) → all_below 64 (inner_test d) ≡ true
inner-everywhere d = grind arith

not-both : (a : Bool) → a ≡ true → not a ≡ true → ⊥
not-both a h1 h2 = grind arith

inner-step : (d : Direction) (t : ℕ) → t < 64 → is_inner d t ≡ true → slid_from (opposite d) t ≡ step d t
inner-step d t below inner =
    elim (or_cases (not (is_inner d t)) (same_square (slid_from (opposite d) t) (step d t)) (holds-below 64 (inner_test d) (inner-everywhere d) t below)) [
      | inl outer ↦ absurd (not-both (is_inner d t) inner outer)
      | inr same ↦ same_square-true (slid_from (opposite d) t) (step d t) same
    ]

-- on any square it is, or there is no step, and what comes there stood at a side
abbrev at_side : Direction → Option ℕ → Option ℕ → Bool
at_side d (Some s) None = ltb s 64 && not (is_inner d s)
at_side d (Some s) (Some u) = false
at_side d None next = false

abbrev slide_test : Direction → ℕ → Bool
slide_test d t = same_square (slid_from (opposite d) t) (step d t) || at_side d (slid_from (opposite d) t) (step d t)

slide-everywhere : (d : Direction) → all_below 64 (slide_test d) ≡ true
slide-everywhere d = grind arith

-- a square with one before it and one after it is an inner one
abbrev between_by : Direction → ℕ → Option ℕ → Bool
between_by d u None = true
between_by d u (Some v) = is_inner d u

abbrev between_test : Direction → Option ℕ → Bool
between_test d None = true
between_test d (Some u) = between_by d u (step d u)

between-everywhere : (d : Direction) → all_below 64 (λ t. between_test d (step d t)) ≡ true
between-everywhere d = grind arith

between : (d : Direction) (t u : ℕ) → t < 64 → step d t ≡ Some u → between_by d u (step d u) ≡ true
between d t u below next = sym (ap (between_test d) next) ∙ holds-below 64 (λ s. between_test d (step d s)) (between-everywhere d) t below

-- under a word of inner squares: the squares of it whose next square is in the word that was slid
bit_there-test : (word : ℕ) (test : ℕ → Bool) (d : Direction) (t : ℕ) (next : Option ℕ) → t < 64 → step d t ≡ next → ((u : ℕ) → u < 64 → bit_at word u ≡ bit_of (test u)) → bit_there word next ≡ bit_of (there_is test next)
bit_there-test word test d t None below e bits = refl
bit_there-test word test d t (Some u) below e bits = bits u (step-back d t u below e).0

and-inner : (w b y : Bool) (n : ℕ) → (w ≡ true → b ≡ true) → (b ≡ true → n ≡ bit_of y) → n < 2 → min (bit_of w) n ≡ bit_of (w && y)
and-inner true b y n within here few =
    let is : n ≡ bit_of y = here (within refl) in
    omega (arith, is)
and-inner false b y n within here few = omega arith

pub slid-under : (under from slid : ℕ) (w test : ℕ → Bool) (d : Direction) → ((t : ℕ) → t < 64 → bit_at under t ≡ bit_of (w t)) → ((t : ℕ) → w t ≡ true → is_inner d t ≡ true)
    → ((t : ℕ) → t < 64 → bit_at slid t ≡ bit_there from (slid_from (opposite d) t)) → ((u : ℕ) → u < 64 → bit_at from u ≡ bit_of (test u))
    → (t : ℕ) → t < 64 → bit_at (bit_and under slid) t ≡ bit_of (w t && there_is test (step d t))
slid-under under from slid w test d under_bits within slides bits t below = grind (arith, bit_at_and, and-inner, inner-step, bit_there-test, bit_at-lt)

-- ---- the word of the inner discs that lead on

abbrev pub led : ℕ → List Cell → Direction → ℕ → Bool
led n board d t = is_inner d t && leads n board d t

-- a disc that leads on, and isn't the first, is an inner one
nothing-ahead : (n : ℕ) (board : List Cell) (d : Direction) (u : ℕ) → step d u ≡ None → leads n board d u ≡ false
nothing-ahead n board d u edge = ap (λ g. is_opp_cell (cell_at board u) && g) (goes_on-next n board d u None edge) ∙ and_right (is_opp_cell (cell_at board u)) false refl

led-by-next : (n : ℕ) (board : List Cell) (d : Direction) (u : ℕ) (next : Option ℕ) → step d u ≡ next → between_by d u next ≡ true → led n board d u ≡ leads n board d u
led-by-next n board d u next h6 h7 = grind (arith, nothing-ahead, and_right)

led-there : (n : ℕ) (board : List Cell) (d : Direction) (t : ℕ) (next : Option ℕ) → t < 64 → step d t ≡ next → there_is (led n board d) next ≡ there_is (leads n board d) next
led-there n board d t next h6 h7 = grind (arith, led-by-next, between)

-- the word of these discs, slid back whole
side-bit : (found n : ℕ) (board : List Cell) (d : Direction) (from next : Option ℕ) → ((u : ℕ) → u < 64 → bit_at found u ≡ bit_of (led n board d u)) → at_side d from next ≡ true
    → bit_there found from ≡ bit_of (there_is (leads n board d) next)
side-bit found n board d None next bits side = cc
side-bit found n board d (Some s) (Some u) bits side = cc
side-bit found n board d (Some s) None bits side =
    let parts = and_parts (ltb s 64) (not (is_inner d s)) side in
    bits s (ltb-true s 64 parts.0) ∙ ap (λ b. bit_of (b && leads n board d s)) (not-true (is_inner d s) parts.1)

pub slid-led : (found slid n : ℕ) (board : List Cell) (d : Direction) → ((t : ℕ) → t < 64 → bit_at slid t ≡ bit_there found (slid_from (opposite d) t))
    → ((u : ℕ) → u < 64 → bit_at found u ≡ bit_of (led n board d u)) → (t : ℕ) → t < 64 → bit_at slid t ≡ bit_of (there_is (leads n board d) (step d t))
slid-led found slid n board d slides bits t below =
    slides t below
    ∙ elim (or_cases (same_square (slid_from (opposite d) t) (step d t)) (at_side d (slid_from (opposite d) t) (step d t)) (holds-below 64 (slide_test d) (slide-everywhere d) t below)) [
      | inl same ↦
          ap (bit_there found) (same_square-true (slid_from (opposite d) t) (step d t) same)
          ∙ bit_there-test found (led n board d) d t (step d t) below refl bits
          ∙ ap bit_of (led-there n board d t (step d t) below refl)
      | inr side ↦ side-bit found n board d (slid_from (opposite d) t) (step d t) bits side
    ]

pub middle-bit : (t : ℕ) → t < 64 → bit_at 0x7e7e_7e7e_7e7e_7e7e t ≡ bit_of (has_both_sides t)
middle-bit t below = eqb-true (bit_at 0x7e7e_7e7e_7e7e_7e7e t) (bit_of (has_both_sides t)) (holds-below 64 (λ s. eqb (bit_at 0x7e7e_7e7e_7e7e_7e7e s) (bit_of (has_both_sides s))) refl t below)

-- the opposing discs that may stand inside a run
abbrev pub inside : List Cell → Direction → ℕ → Bool
inside board d t = is_opp_cell (cell_at board t) && is_inner d t

pub inside-inner : (board : List Cell) (d : Direction) (t : ℕ) → inside board d t ≡ true → is_inner d t ≡ true
inside-inner board d t e = (and_parts (is_opp_cell (cell_at board t)) (is_inner d t) e).1

pub inside-bit : (own opp mask : ℕ) (d : Direction) → bit_and own opp ≡ 0 → ((t : ℕ) → t < 64 → bit_at mask t ≡ bit_of (is_inner d t))
    → (t : ℕ) → t < 64 → bit_at (bit_and opp mask) t ≡ bit_of (inside (cells_of own opp) d t)
inside-bit own opp mask d disjoint bits t below =
    bit_at_and opp mask t ∙ ap₂ min (opp-bit own opp t disjoint below) (bits t below) ∙ min-of-tests (is_opp_cell (cell_at (cells_of own opp) t)) (is_inner d t)

-- before the first round: opposing discs beside one of the mover
first-by : (board : List Cell) (d : Direction) (o : Bool) (next : Option ℕ) → (there_is (λ u. is_own_cell (cell_at board u)) next && o) ≡ (o && ahead 0 board d next)
first-by board d o next = grind (arith, nothing-beside)

turned : (o b x : Bool) → ((o && b) && x) ≡ (b && (x && o))
turned o b x = grind arith

-- runs of one disc
pub led-one : (own opp over slid : ℕ) (d : Direction) → ((t : ℕ) → t < 64 → bit_at over t ≡ bit_of (inside (cells_of own opp) d t))
    → ((t : ℕ) → t < 64 → bit_at slid t ≡ bit_there own (slid_from (opposite d) t))
    → (t : ℕ) → t < 64 → bit_at (bit_and over slid) t ≡ bit_of (led 0 (cells_of own opp) d t)
led-one own opp over slid d over_bits slides t below =
    let board = cells_of own opp in
    let o = is_opp_cell (cell_at board t) in
    slid-under over own slid (inside board d) (λ u. is_own_cell (cell_at board u)) d over_bits (inside-inner board d) slides (λ u u_below. own-bit own opp u u_below) t below
    ∙ ap bit_of
    (turned o (is_inner d t) (there_is (λ u. is_own_cell (cell_at board u)) (step d t))
    ∙ ap (λ g. is_inner d t && g) (first-by board d o (step d t) ∙ ap (λ g. o && g) (sym (goes_on-next 0 board d t (step d t) refl))))

-- one round
round-by : (board : List Cell) (d : Direction) (n : ℕ) (o : Bool) (next : Option ℕ)
    → ((o && ahead n board d next) || (there_is (leads n board d) next && o)) ≡ (o && ahead (suc n) board d next)
round-by board d n o next = grind (arith, keeps-on)

spread : (b x o y : Bool) → ((b && x) || ((o && b) && y)) ≡ (b && (x || (y && o)))
spread b x o y = grind arith

-- one disc more
pub led-more : (own opp over found slid n : ℕ) (d : Direction) → ((t : ℕ) → t < 64 → bit_at over t ≡ bit_of (inside (cells_of own opp) d t))
    → ((t : ℕ) → t < 64 → bit_at slid t ≡ bit_there found (slid_from (opposite d) t)) → ((u : ℕ) → u < 64 → bit_at found u ≡ bit_of (led n (cells_of own opp) d u))
    → (t : ℕ) → t < 64 → bit_at (bit_or found (bit_and over slid)) t ≡ bit_of (led (suc n) (cells_of own opp) d t)
led-more own opp over found slid n d over_bits slides bits t below =
    let board = cells_of own opp in
    let o = is_opp_cell (cell_at board t) in
    let next = step d t in
    bit_at_or found (bit_and over slid) t
    ∙ ap₂ max (bits t below) (slid-under over found slid (inside board d) (led n board d) d over_bits (inside-inner board d) slides bits t below)
    ∙ max-of-tests (led n board d t) (inside board d t && there_is (led n board d) next)
    ∙ ap bit_of
    (ap (λ g. led n board d t || (inside board d t && g)) (led-there n board d t next below refl)
    ∙ spread (is_inner d t) (leads n board d t) o (there_is (leads n board d) next)
    ∙ ap (λ g. is_inner d t && g)
    (ap (λ g. (o && g) || (there_is (leads n board d) next && o)) (goes_on-next n board d t next refl)
    ∙ round-by board d n o next
    ∙ ap (λ g. o && g) (sym (goes_on-next (suc n) board d t next refl))))

-- pairs of such discs
abbrev pub paired : List Cell → Direction → ℕ → Bool
paired board d t = inside board d t && there_is (inside board d) (step d t)

pub paired-inner : (board : List Cell) (d : Direction) (t : ℕ) → paired board d t ≡ true → is_inner d t ≡ true
paired-inner board d t e = inside-inner board d t (and_parts (inside board d t) (there_is (inside board d) (step d t)) e).0

pub paired-bit : (over slid : ℕ) (board : List Cell) (d : Direction) → ((t : ℕ) → t < 64 → bit_at over t ≡ bit_of (inside board d t))
    → ((t : ℕ) → t < 64 → bit_at slid t ≡ bit_there over (slid_from (opposite d) t))
    → (t : ℕ) → t < 64 → bit_at (bit_and over slid) t ≡ bit_of (paired board d t)
paired-bit over slid board d bits slides t below = slid-under over over slid (inside board d) (inside board d) d bits (inside-inner board d) slides bits t below

-- two discs more
nothing-more : (x y : Bool) → (x || (y && false)) ≡ x
nothing-more x y = grind arith

joins : (b o w p w2 p2 g h : Bool) → (g ≡ true → h ≡ true)
    → ((b && (o && (w || (p && (w2 || (p2 && g)))))) || (((o && b) && (p && true)) && (p2 && h))) ≡ (b && (o && (w || (p && (w2 || (p2 && h))))))
joins b o w p w2 p2 g h h1 = grind arith

-- the second square
module _ (board : List Cell) (d : Direction) (m : ℕ) (b o : Bool) where
  two-by : (u : ℕ) (next : Option ℕ) → between_by d u next ≡ true → ((b && (o && (is_own_cell (cell_at board u) || (is_opp_cell (cell_at board u) && ahead m board d next)))) || (((o && b) && inside board d u) && there_is (leads (suc m) board d) next)) ≡ (b && (o && (is_own_cell (cell_at board u) || (is_opp_cell (cell_at board u) && ahead (suc (suc m)) board d next))))
  two-by u next h8 = grind (arith, nothing-more, joins, keeps-on)

  -- the first square
  pair-by : (t : ℕ) (next : Option ℕ) → t < 64 → step d t ≡ next → ((b && (o && ahead (suc m) board d next)) || (((o && b) && there_is (inside board d) next) && there_is (λ u. there_is (leads (suc m) board d) (step d u)) next)) ≡ (b && (o && ahead (suc (suc (suc m))) board d next))
  pair-by t None below e = nothing-more (b && (o && false)) ((o && b) && false)
  pair-by t (Some u) below e =
      let w = is_own_cell (cell_at board u) in
      let p = is_opp_cell (cell_at board u) in
      ap (λ g. (b && (o && (w || (p && g)))) || (((o && b) && inside board d u) && there_is (leads (suc m) board d) (step d u))) (goes_on-next m board d u (step d u) refl)
      ∙ two-by u (step d u) (between d t u below e)
      ∙ ap (λ g. b && (o && (w || (p && g)))) (sym (goes_on-next (suc (suc m)) board d u (step d u) refl))

pub led-two-more : (found pairs slid twice m : ℕ) (board : List Cell) (d : Direction) → ((t : ℕ) → t < 64 → bit_at pairs t ≡ bit_of (paired board d t))
    → ((t : ℕ) → t < 64 → bit_at slid t ≡ bit_there found (slid_from (opposite d) t)) → ((t : ℕ) → t < 64 → bit_at twice t ≡ bit_there slid (slid_from (opposite d) t))
    → ((u : ℕ) → u < 64 → bit_at found u ≡ bit_of (led (suc m) board d u))
    → (t : ℕ) → t < 64 → bit_at (bit_or found (bit_and pairs twice)) t ≡ bit_of (led (suc (suc (suc m))) board d t)
led-two-more found pairs slid twice m board d pair_bits slides slides_again bits t below =
    let o = is_opp_cell (cell_at board t) in
    let b = is_inner d t in
    let next = step d t in
    let beyond = λ (u : ℕ). there_is (leads (suc m) board d) (step d u) in
    bit_at_or found (bit_and pairs twice) t
    ∙ ap₂ max (bits t below) (slid-under pairs slid twice (paired board d) beyond d pair_bits (paired-inner board d) slides_again (slid-led found slid (suc m) board d slides bits) t below)
    ∙ max-of-tests (led (suc m) board d t) (paired board d t && there_is beyond next)
    ∙ ap bit_of
    (ap (λ g. (b && (o && g)) || (((o && b) && there_is (inside board d) next) && there_is beyond next)) (goes_on-next (suc m) board d t next refl)
    ∙ pair-by board d m b o t next below refl
    ∙ ap (λ g. b && (o && g)) (sym (goes_on-next (suc (suc (suc m))) board d t next refl)))

-- ---- from the discs that lead on to the runs

-- a run is there where its first disc leads on
nil-led_by : (c : Cell) (u : ℕ) (beyond : Option (List ℕ)) → not (is_nil (unwrap_or (led_by c u beyond) [])) ≡ (is_opp_cell c && is_some beyond)
nil-led_by c u beyond = grind arith

pub run-by : (board : List Cell) (d : Direction) (t : ℕ) (next : Option ℕ) → step d t ≡ next → there_is (leads 5 board d) next ≡ not (is_nil (run board t d))
run-by board d t next h5 = grind (arith, beside-edge, beside-next, nil-led_by)

-- the squares from which a run begins
pub start-bit : (found slid : ℕ) (board : List Cell) (d : Direction) → ((t : ℕ) → t < 64 → bit_at slid t ≡ bit_there found (slid_from (opposite d) t))
    → ((u : ℕ) → u < 64 → bit_at found u ≡ bit_of (led 5 board d u)) → (t : ℕ) → t < 64 → bit_at slid t ≡ bit_of (not (is_nil (run board t d)))
start-bit found slid board d slides bits t below = slid-led found slid 5 board d slides bits t below ∙ ap bit_of (run-by board d t (step d t) refl)

-- ---- all directions

not-nil-append : (xs ys : List ℕ) → not (is_nil (xs ++ ys)) ≡ (not (is_nil xs) || not (is_nil ys))
not-nil-append xs ys = grind arith

abbrev starts_in : (Direction → List ℕ) → Direction → Bool
starts_in f d = not (is_nil (f d))

-- the directions in order, and the four lines that they make
in_order : (f : Direction → List ℕ) → not (is_nil (flat_map f directions))
    ≡ (starts_in f North || (starts_in f NorthEast || (starts_in f East || (starts_in f SouthEast || (starts_in f South || (starts_in f SouthWest || (starts_in f West || (starts_in f NorthWest || false))))))))
in_order f = simp not-nil-append

by-lines : (a b c d e f g h : Bool) → (((a || e) || (b || f)) || ((c || g) || (d || h))) ≡ (a || (b || (c || (d || (e || (f || (g || (h || false))))))))
by-lines a b c d e f g h = grind arith

either-bit : (x y t : ℕ) (a b : Bool) → bit_at x t ≡ bit_of a → bit_at y t ≡ bit_of b → bit_at (bit_or x y) t ≡ bit_of (a || b)
either-bit x y t a b first second = bit_at_or x y t ∙ ap₂ max first second ∙ max-of-tests a b

pub starts-bit : (f : Direction → List ℕ) (n ne e se s sw w nw t : ℕ)
    → bit_at n t ≡ bit_of (starts_in f North) → bit_at ne t ≡ bit_of (starts_in f NorthEast) → bit_at e t ≡ bit_of (starts_in f East) → bit_at se t ≡ bit_of (starts_in f SouthEast)
    → bit_at s t ≡ bit_of (starts_in f South) → bit_at sw t ≡ bit_of (starts_in f SouthWest) → bit_at w t ≡ bit_of (starts_in f West) → bit_at nw t ≡ bit_of (starts_in f NorthWest)
    → bit_at (bit_or (bit_or (bit_or n s) (bit_or ne sw)) (bit_or (bit_or e w) (bit_or se nw))) t ≡ bit_of (not (is_nil (flat_map f directions)))
starts-bit f n ne e se s sw w nw t is_n is_ne is_e is_se is_s is_sw is_w is_nw =
    either-bit _ _ t _ _
    (either-bit _ _ t _ _ (either-bit n s t _ _ is_n is_s) (either-bit ne sw t _ _ is_ne is_sw))
    (either-bit _ _ t _ _ (either-bit e w t _ _ is_e is_w) (either-bit se nw t _ _ is_se is_nw))
    ∙ ap bit_of
    (by-lines (starts_in f North) (starts_in f NorthEast) (starts_in f East) (starts_in f SouthEast) (starts_in f South) (starts_in f SouthWest) (starts_in f West) (starts_in f NorthWest)
    ∙ sym (in_order f))

-- the empty ones of these squares are the legal ones
pub legal-bit : (own opp reached t : ℕ) → own < 2 ^ 64 → opp < 2 ^ 64 → t < 64
    → bit_at reached t ≡ bit_of (not (is_nil (flips (cells_of own opp) t)))
    → bit_at (bit_and reached (2 ^ 64 - 1 - bit_or own opp)) t ≡ bit_of (is_legal (cells_of own opp) t)
legal-bit own opp reached t own_fits opp_fits below here =
    let board = cells_of own opp in
    bit_at_and reached (2 ^ 64 - 1 - bit_or own opp) t
    ∙ ap₂ min here (bit_at_not w64 (bit_or own opp) t (or_lt 64 own opp own_fits opp_fits) below ∙ ap (λ b. 1 - b) (bit_at_or own opp t) ∙ empty-bit own opp t below)
    ∙ min-of-tests (not (is_nil (flips board t))) (is_empty_cell (cell_at board t))
    ∙ ap bit_of (and_comm (not (is_nil (flips board t))) (is_empty_cell (cell_at board t)))

among-range : (i a n : ℕ) → a + n ≤ i → is_among i (range_with_len a n) ≡ false
among-range i a zero over = refl
among-range i a (suc n) over =
    ap (λ b. b || is_among i (range_with_len (a + 1) n)) (ne_eqb a i (λ e. omega arith)) ∙ among-range i (a + 1) n (omega arith)

pub no-square : (i : ℕ) → 64 ≤ i → is_among i squares ≡ false
unfolding squares
no-square i over = among-range i 0 64 over

-- a word of 64 bits is the word of the squares that pass a test, where its bits are the test
pub word-of-passing : (word : ℕ) (test : ℕ → Bool) → word < 2 ^ 64 → ((t : ℕ) → t < 64 → bit_at word t ≡ bit_of (test t)) → word ≡ bits_of (filter test squares)
word-of-passing word test fits bits =
    same_from_bits word (bits_of (filter test squares)) (λ i. elim (cases_lt i 64) [
      | inl below ↦ bits i below ∙ ap bit_of (sym (is_among-filter test squares i ∙ ap (λ a. test i && a) (is-square i below) ∙ and-true (test i))) ∙ sym (bit_at-bits_of (filter test squares) i)
      | inr over ↦ bit_at_above word 64 i fits over ∙ sym (bit_at-bits_of (filter test squares) i ∙ ap (λ a. bit_of a) (is_among-filter test squares i ∙ ap (λ a. test i && a) (no-square i over) ∙ and_right (test i) false refl))
    ])
