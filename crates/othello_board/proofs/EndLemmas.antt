-- The flips of an Othello board: where a run ends (the first square of a ray that isn't opposing), found in a list and
-- in a word.
use Rattle.othello_board.proofs.Common.{◌≡◌, ◌≢◌, ℕ, zero, suc, ◌+◌, ◌-◌, ◌*◌, ◌/◌, ◌%◌, ◌^◌, ◌<◌, ◌≤◌, Bool, true, false, cond, ◌||◌, eqb, ltb, List, [], ◌∷◌, ◌++◌, Some, None, unwrap_or, bit_and, bit_or, min, max, ◌⊎◌, inl, inr, refl, sym, ap, ap₂, ◌∙◌, arith, w64, add-one, bit_at, list_all, option_map, eqb-true, eq-eqb, and_from, cases_lt, and_parts, eqb_tells, and_comm, and_le_l, le_or_l, or_lt, shr_le, div-add-mod', mod_below, pow_pos, pow_below, and_pow, bit_at_and, bit_at_or, bit_at_not, bit_at-lt, bit_at-zero, bit_at-pow_same, bit_at-pow_other, bit_at_above, bit_at_ones, bit_at_ones_above, bit_at_cat_low, bit_at_cat_high, bit_at_mask_inside, bit_at_mask_below, same_from_bits_below, pow-suc, mul_comm, pow_mono, common_steps, Opp, cell_at, led_by, outflanked, is_among, cells_of, bits_of, negated, others, rising_run, lowered_to, falling_run}
use Rattle.std.proofs.lemmas.Bool.{ltb-true}
use Rattle.othello_board.proofs.CellLemmas.{apart, bit_at-bits_of, bits_of-append, bit-cases, own-here, opp-here, empty-here}
use Rattle.othello_board.proofs.ShiftLemmas.{comes, ordered, falls_to, falls_by, bit_at-right}

-- ---- in a list

abbrev set_in : ℕ → ℕ → Bool
set_in word s = eqb (bit_at word s) 1

-- a ray has a square that isn't opposing: those before the first one are
pub record Stops (opp : ℕ) (ray : List ℕ) : Type 0 where
  pub before : List ℕ
  pub stop : ℕ
  pub after : List ℕ
  pub split : ray ≡ before ++ stop ∷ after
  pub opposing : list_all (set_in opp) before ≡ true
  pub other : bit_at opp stop ≡ 0

stops-more : (opp s : ℕ) (more : List ℕ) → bit_at opp s ≡ 1 → (list_all (set_in opp) more ≡ true) ⊎ Stops opp more → (list_all (set_in opp) (s ∷ more) ≡ true) ⊎ Stops opp (s ∷ more)
stops-more opp s more set (inl all) = inl (and_from (set_in opp s) (list_all (set_in opp) more) (eq-eqb (bit_at opp s) 1 set) all)
stops-more opp s more set (inr st) = inr (record {
  before = s ∷ st.before;
  stop = st.stop;
  after = st.after;
  split = ap (λ l. s ∷ l) st.split;
  opposing = and_from (set_in opp s) (list_all (set_in opp) st.before) (eq-eqb (bit_at opp s) 1 set) st.opposing;
  other = st.other;
})

pub stops : (opp : ℕ) (ray : List ℕ) → (list_all (set_in opp) ray ≡ true) ⊎ Stops opp ray
stops opp [] = inl refl
stops opp (s ∷ more) =
    elim (bit-cases (bit_at opp s) (bit_at-lt opp s)) [
      | inl clear ↦ inr (record { before = []; stop = s; after = more; split = refl; opposing = refl; other = clear })
      | inr set ↦ stops-more opp s more set (stops opp more)
    ]

opposing-cell : (own opp s : ℕ) → bit_and own opp ≡ 0 → ltb s 64 ≡ true → set_in opp s ≡ true → Opp ≡ cell_at (cells_of own opp) s
opposing-cell own opp s disjoint below set =
    let is_set : bit_at opp s ≡ 1 = eqb-true (bit_at opp s) 1 set in
    opp-here own opp s (ltb-true s 64 below) (omega (arith, apart own opp s disjoint, bit_at-lt own s)) is_set

-- what an order says of its first square
pub record Leads (up : Bool) (s : ℕ) (more : List ℕ) : Type 0 where
  pub below : ltb s 64 ≡ true
  pub first : list_all (comes up s) more ≡ true
  pub rest : ordered up more ≡ true

leads : (up : Bool) (s : ℕ) (more : List ℕ) → ordered up (s ∷ more) ≡ true → Leads up s more
leads up s more order = grind arith

-- a ray of opposing discs alone outflanks nothing
pub outflanked-all : (up : Bool) (own opp : ℕ) (ray : List ℕ) → bit_and own opp ≡ 0 → ordered up ray ≡ true → list_all (set_in opp) ray ≡ true → outflanked (cells_of own opp) ray ≡ None
outflanked-all up own opp [] disjoint order all = refl
outflanked-all up own opp (s ∷ more) disjoint order all =
    let h = leads up s more order in
    let parts = and_parts (set_in opp s) (list_all (set_in opp) more) all in
    ap₂ (λ c o. led_by c s o) (sym (opposing-cell own opp s disjoint h.below parts.0)) (outflanked-all up own opp more disjoint h.rest parts.1)

-- else the squares before the stop are outflanked, where an own disc stands there
longer : (s : ℕ) (before : List ℕ) (t : Bool) → option_map (λ run. s ∷ run) (cond t (Some before) None) ≡ cond t (Some (s ∷ before)) None
longer s before t = grind arith

pub outflanked-stop : (up : Bool) (own opp : ℕ) (before : List ℕ) (stop : ℕ) (after : List ℕ) → bit_and own opp ≡ 0 → ordered up (before ++ stop ∷ after) ≡ true
    → list_all (set_in opp) before ≡ true → bit_at opp stop ≡ 0 → outflanked (cells_of own opp) (before ++ stop ∷ after) ≡ cond (set_in own stop) (Some before) None
outflanked-stop up own opp [] stop after disjoint order all other =
    let below = ltb-true stop 64 (leads up stop after order).below in
    let beyond = outflanked (cells_of own opp) after in
    elim (bit-cases (bit_at own stop) (bit_at-lt own stop)) [
      | inl clear ↦
          ap (λ c. led_by c stop beyond) (sym (empty-here own opp stop below clear other))
          ∙ ap (λ b. cond (eqb b 1) (Some []) None) (sym clear)
      | inr set ↦
          ap (λ c. led_by c stop beyond) (sym (own-here own opp stop below set))
          ∙ ap (λ b. cond (eqb b 1) (Some []) None) (sym set)
    ]
outflanked-stop up own opp (s ∷ before) stop after disjoint order all other =
    let h = leads up s (before ++ stop ∷ after) order in
    let parts = and_parts (set_in opp s) (list_all (set_in opp) before) all in
    ap₂ (λ c o. led_by c s o) (sym (opposing-cell own opp s disjoint h.below parts.0)) (outflanked-stop up own opp before stop after disjoint h.rest parts.1 other)
    ∙ longer s before (set_in own stop)

-- ---- from a list to its word

among-all : (p : ℕ → Bool) (xs : List ℕ) (i : ℕ) → list_all p xs ≡ true → is_among i xs ≡ true → p i ≡ true
among-all p [] i all among = cc
among-all p (x ∷ xs) i all among =
    let parts = and_parts (p x) (list_all p xs) all in
    elim (eqb_tells x i) [
      | inl same ↦ ap p (sym same.1) ∙ parts.0
      | inr other ↦ among-all p xs i parts.1 (sym (ap (λ b. b || is_among i xs) other.0) ∙ among)
    ]

one-cond : (b : Bool) (n : ℕ) → n ≡ cond b 1 0 → n ≡ 1 → b ≡ true
one-cond b n h1 h2 = grind arith

-- a set bit is that of a square of the list
pub bits-all : (p : ℕ → Bool) (xs : List ℕ) (i : ℕ) → list_all p xs ≡ true → bit_at (bits_of xs) i ≡ 1 → p i ≡ true
bits-all p xs i all set = among-all p xs i all (one-cond (is_among i xs) (bit_at (bits_of xs) i) (bit_at-bits_of xs i) set)

all-middle : (p : ℕ → Bool) (xs : List ℕ) (x : ℕ) (ys : List ℕ) → list_all p (xs ++ x ∷ ys) ≡ true → p x ≡ true
all-middle p xs x ys h1 = grind (arith, common_steps)

-- around the stop
pub record Around (up : Bool) (before : List ℕ) (stop : ℕ) (after : List ℕ) : Type 0 where
  pub below : stop < 64
  pub earlier : list_all (λ s. comes up s stop) before ≡ true
  pub later : list_all (comes up stop) after ≡ true

pub around : (up : Bool) (before : List ℕ) (stop : ℕ) (after : List ℕ) → ordered up (before ++ stop ∷ after) ≡ true → Around up before stop after
around up [] stop after order =
    let h = leads up stop after order in
    record { below = ltb-true stop 64 h.below; earlier = refl; later = h.first }
around up (s ∷ before) stop after order =
    let h = leads up s (before ++ stop ∷ after) order in
    let more = around up before stop after h.rest in
    record {
      below = more.below;
      earlier = and_from (comes up s stop) (list_all (λ t. comes up t stop) before) (all-middle (comes up s) before stop after h.first) more.earlier;
      later = more.later;
    }

-- ---- in a word

pow-twice : (k : ℕ) → 2 ^ (k + 1) ≡ 2 * 2 ^ k
pow-twice k = ap (λ m. 2 ^ m) (add-one k) ∙ pow-suc 2 k ∙ mul_comm (2 ^ k) 2

by-order : (i k : ℕ) → (i < k) ⊎ ((i ≡ k) ⊎ (k < i))
by-order i k = grind arith

-- a number and its negation share just the lowest bit
and-negated-by : (x k neg : ℕ) → x < 2 ^ 64 → k < 64 → bit_at x k ≡ 1 → ((i : ℕ) → i < k → bit_at x i ≡ 0) → neg ≡ (2 ^ 64 - 1 - x) + 1 → (i : ℕ) → i < 64 → bit_at (bit_and x neg) i ≡ bit_at (2 ^ k) i
and-negated-by x k neg fits k_below set lower is i below =
    let nx = 2 ^ 64 - 1 - x in
    let b = nx / 2 ^ (k + 1) in
    let inverse : (j : ℕ) → j < 64 → bit_at nx j ≡ 1 - bit_at x j = λ j j_below. bit_at_not w64 x j fits j_below in
    let whole : nx ≡ b * 2 ^ (k + 1) + nx % 2 ^ (k + 1) = sym (div-add-mod' nx (2 ^ (k + 1))) in
    let mod_fits : nx % 2 ^ (k + 1) < 2 ^ (k + 1) = mod_below nx (2 ^ (k + 1)) (pow_pos (k + 1)) in
    let ones_fit : 2 ^ k - 1 < 2 ^ (k + 1) = omega (arith, pow_pos k, pow-twice k) in
    let pow_fits : 2 ^ k < 2 ^ (k + 1) = omega (arith, pow_pos k, pow-twice k) in
    let low : nx % 2 ^ (k + 1) ≡ 2 ^ k - 1 =
    same_from_bits_below (k + 1) (nx % 2 ^ (k + 1)) (2 ^ k - 1) mod_fits ones_fit (λ j j_below.
    sym (ap (λ n. bit_at n j) whole ∙ bit_at_cat_low b (k + 1) (nx % 2 ^ (k + 1)) j j_below)
    ∙ inverse j (omega arith)
    ∙ low-bit j j_below) in
    let neg_is : neg ≡ b * 2 ^ (k + 1) + 2 ^ k = omega (arith, is, whole, low, pow_pos k) in
    let nx_is : nx ≡ b * 2 ^ (k + 1) + (2 ^ k - 1) = whole ∙ ap (λ m. b * 2 ^ (k + 1) + m) low in
    bit_at_and x neg i
    ∙ elim (by-order i k) [
      | inl lower_bit ↦ omega (arith, lower i lower_bit, bit_at-pow_other k i (λ e. omega arith))
      | inr rest ↦ elim rest [
        | inl same ↦
            let here : bit_at neg i ≡ 1 = ap₂ bit_at neg_is same ∙ bit_at_cat_low b (k + 1) (2 ^ k) k (omega arith) ∙ bit_at-pow_same k in
            let there : bit_at x i ≡ 1 = ap (bit_at x) same ∙ set in
            omega (arith, here, there, ap (bit_at (2 ^ k)) same ∙ bit_at-pow_same k)
        | inr above ↦
            let here : bit_at neg i ≡ bit_at nx i =
            ap (λ n. bit_at n i) neg_is ∙ bit_at_cat_high b (k + 1) (2 ^ k) i pow_fits (omega arith)
            ∙ sym (ap (λ n. bit_at n i) nx_is ∙ bit_at_cat_high b (k + 1) (2 ^ k - 1) i ones_fit (omega arith)) in
            omega (arith, here, inverse i below, bit_at-lt x i, bit_at-pow_other k i (λ e. omega arith))
      ]
    ]
  where
    low-bit : (j : ℕ) → j < k + 1 → 1 - bit_at x j ≡ bit_at (2 ^ k - 1) j
    low-bit j below =
        elim (eqb_tells j k) [
          | inl same ↦
              let is_set : bit_at x j ≡ 1 = ap (bit_at x) same.1 ∙ set in
              let above : bit_at (2 ^ k - 1) j ≡ 0 = bit_at_ones_above k j (omega (arith, same.1)) in
              omega (arith, is_set, above)
          | inr other ↦
              let under : j < k = omega (arith, other.1) in
              omega (arith, lower j under, bit_at_ones k j under)
        ]

pub and-negated : (x k neg : ℕ) → x < 2 ^ 64 → k < 64 → bit_at x k ≡ 1 → ((i : ℕ) → i < k → bit_at x i ≡ 0) → neg < 2 ^ 64 → (neg + x) % 2 ^ 64 ≡ 0 → bit_and x neg ≡ 2 ^ k
and-negated x k neg fits k_below set lower neg_fits is =
    let some : 0 < x = positive x set in
    same_from_bits_below 64 (bit_and x neg) (2 ^ k) (omega (arith, and_le_l x neg)) (pow_below k 64 k_below)
    (and-negated-by x k neg fits k_below set lower (omega arith))
  where
    positive : (x : ℕ) → bit_at x k ≡ 1 → 0 < x
    positive zero e = absurd (omega (arith, e, bit_at-zero k))
    positive (suc x) e = omega arith

-- ---- the run of a ray with a stop: the words of the squares before it and after it, bit by bit

abbrev joined : ℕ → ℕ → ℕ → ℕ
joined before stop after = bit_or before (bit_or (2 ^ stop) after)

joined-bit : (before stop after i : ℕ) → bit_at (joined before stop after) i ≡ max (bit_at before i) (max (bit_at (2 ^ stop) i) (bit_at after i))
joined-bit before stop after i = bit_at_or before (bit_or (2 ^ stop) after) i ∙ ap (max (bit_at before i)) (bit_at_or (2 ^ stop) after i)

clear-bit : (n i : ℕ) → (bit_at n i ≡ 1 → ⊥) → bit_at n i ≡ 0
clear-bit n i denied = elim (bit-cases (bit_at n i) (bit_at-lt n i)) [ inl clear ↦ clear | inr set ↦ absurd (denied set) ]

-- those that aren't opposing
other-bit : (ray opp i : ℕ) → opp < 2 ^ 64 → i < 64 → bit_at (bit_and ray (2 ^ 64 - 1 - opp)) i ≡ min (bit_at ray i) (1 - bit_at opp i)
other-bit ray opp i fits below = bit_at_and ray (2 ^ 64 - 1 - opp) i ∙ ap (min (bit_at ray i)) (bit_at_not w64 opp i fits below)

stop-bit : (before stop after opp : ℕ) → opp < 2 ^ 64 → stop < 64 → bit_at opp stop ≡ 0 → bit_at (bit_and (joined before stop after) (2 ^ 64 - 1 - opp)) stop ≡ 1
stop-bit before stop after opp fits below other = grind (arith, joined-bit, other-bit, bit_at-pow_same, bit_at-lt)

before-bit : (before stop after opp i : ℕ) → opp < 2 ^ 64 → i < 64 → (bit_at before i ≡ 1 → bit_at opp i ≡ 1) → bit_at after i ≡ 0 → i ≢ stop → bit_at (bit_and (joined before stop after) (2 ^ 64 - 1 - opp)) i ≡ 0
before-bit before stop after opp i fits below opposing no_after other = grind (arith, joined-bit, other-bit, bit_at-pow_other, bit-cases, bit_at-lt)

own-end : (own stop : ℕ) → bit_and (2 ^ stop) own ≡ bit_at own stop * 2 ^ stop
own-end own stop = and_comm (2 ^ stop) own ∙ and_pow own stop

and-none : (n m : ℕ) → m ≡ 0 → bit_and n m ≡ 0
and-none n m none = ap (bit_and n) none ∙ and_comm n 0

-- rising: the bits below the end
rising-kept : (before stop after : ℕ) → joined before stop after < 2 ^ 64 → stop < 64 → ((i : ℕ) → bit_at before i ≡ 1 → i < stop) → ((i : ℕ) → bit_at after i ≡ 1 → stop < i)
    → bit_and (joined before stop after) (2 ^ stop - 1) ≡ before
rising-kept before stop after fits stop_below under over =
    same_from_bits_below 64 _ _ (omega (arith, and_le_l (joined before stop after) (2 ^ stop - 1))) (omega (arith, le_or_l before (bit_or (2 ^ stop) after))) (λ i below.
    let here = joined-bit before stop after i in
    bit_at_and (joined before stop after) (2 ^ stop - 1) i
    ∙ elim (cases_lt i stop) [
      | inl low ↦
          let no_after = clear-bit after i (λ set. omega (arith, over i set)) in
          let no_stop = bit_at-pow_other stop i (λ e. omega arith) in
          omega (arith, here, no_after, no_stop, bit_at_ones stop i low, bit_at-lt before i)
      | inr high ↦
          let no_before = clear-bit before i (λ set. omega (arith, under i set)) in
          omega (arith, no_before, bit_at_ones_above stop i high)
    ])

rising-end : (ray before stop own_bit end : ℕ) → own_bit < 2 → end ≡ own_bit * 2 ^ stop → bit_and ray (2 ^ stop - 1) ≡ before
    → bit_and ray (end - 1) ≡ cond (eqb own_bit 1) before 0
rising-end ray before stop zero end few is kept = and-none ray (end - 1) (omega (arith, is))
rising-end ray before stop (suc zero) end few is kept =
    let one : end ≡ 2 ^ stop = omega (arith, is) in
    ap (λ n. bit_and ray (n - 1)) one ∙ kept
rising-end ray before stop (suc (suc n)) end few is kept = absurd (omega arith)

negated-sum : (x : ℕ) → x < 2 ^ 64 → (negated x + x) % 2 ^ 64 ≡ 0
negated-sum x fits = omega arith

negated-fits : (x : ℕ) → negated x < 2 ^ 64
negated-fits x = mod_below (0 + (2 ^ 64 - x)) (2 ^ 64) (omega arith)

module _ (own opp before : ℕ) where
  rising-stop : (stop after : ℕ) → joined before stop after < 2 ^ 64 → opp < 2 ^ 64 → stop < 64 → bit_at opp stop ≡ 0 → ((i : ℕ) → bit_at before i ≡ 1 → bit_at opp i ≡ 1) → ((i : ℕ) → bit_at before i ≡ 1 → i < stop) → ((i : ℕ) → bit_at after i ≡ 1 → stop < i) → rising_run own opp (joined before stop after) ≡ cond (set_in own stop) before 0
  rising-stop stop after fits opp_fits below other opposing under over =
      let ray = joined before stop after in
      let rest = others opp ray in
      let rest_fits : rest < 2 ^ 64 = omega (arith, and_le_l ray (2 ^ 64 - 1 - opp)) in
      let lowest : bit_and rest (negated rest) ≡ 2 ^ stop =
      and-negated rest stop (negated rest) rest_fits below (stop-bit before stop after opp opp_fits below other)
      (λ i low. before-bit before stop after opp i opp_fits (omega arith) (opposing i) (clear-bit after i (λ set. omega (arith, over i set))) (λ e. omega arith))
      (negated-fits rest) (negated-sum rest rest_fits) in
      rising-end ray before stop (bit_at own stop) (bit_and (bit_and rest (negated rest)) own) (bit_at-lt own stop)
      (ap (λ n. bit_and n own) lowest ∙ own-end own stop) (rising-kept before stop after fits below under over)

  -- falling: the bits above the end
  falling-kept : joined own opp before < 2 ^ 64 → opp < 64 → ((i : ℕ) → bit_at own i ≡ 1 → opp < i) → ((i : ℕ) → bit_at before i ≡ 1 → i < opp) → bit_and (joined own opp before) (2 ^ 64 - 2 ^ (opp + 1)) ≡ own
  falling-kept fits stop_below over under =
      same_from_bits_below 64 _ _ (omega (arith, and_le_l (joined own opp before) (2 ^ 64 - 2 ^ (opp + 1)))) (omega (arith, le_or_l own (bit_or (2 ^ opp) before))) (λ i below.
      let here = joined-bit own opp before i in
      bit_at_and (joined own opp before) (2 ^ 64 - 2 ^ (opp + 1)) i
      ∙ elim (cases_lt opp i) [
        | inl high ↦
            let no_after = clear-bit before i (λ set. omega (arith, under i set)) in
            let no_stop = bit_at-pow_other opp i (λ e. omega arith) in
            omega (arith, here, no_after, no_stop, bit_at_mask_inside (opp + 1) 64 i (omega arith) below, bit_at-lt own i)
        | inr low ↦
            let no_before = clear-bit own i (λ set. omega (arith, over i set)) in
            omega (arith, no_before, bit_at_mask_below (opp + 1) 64 i (omega arith))
      ])

pow-most : (stop : ℕ) → stop < 64 → 2 ^ (stop + 1) ≤ 2 ^ 64
pow-most stop below = omega (arith, pow-twice stop, pow-half stop below)
  where
    pow-half : (k : ℕ) → k < 64 → 2 ^ k ≤ 2 ^ 63
    pow-half k below = let most : k ≤ 63 = omega arith in pow_mono most

falling-end : (ray before stop own_bit end neg : ℕ) → stop < 64 → own_bit < 2 → end ≡ own_bit * 2 ^ stop → neg < 2 ^ 64 → (neg + end) % 2 ^ 64 ≡ 0 → bit_and ray (2 ^ 64 - 2 ^ (stop + 1)) ≡ before
    → bit_and ray (neg * 2 ^ 1 % 2 ^ 64) ≡ cond (eqb own_bit 1) before 0
falling-end ray before stop zero end neg below few is fits negated kept =
    let none : neg ≡ 0 = omega (arith, is, negated) in
    and-none ray (neg * 2 ^ 1 % 2 ^ 64) (omega (arith, none))
falling-end ray before stop (suc zero) end neg below few is fits negated kept =
    let one : end ≡ 2 ^ stop = omega (arith, is) in
    let rest : neg ≡ 2 ^ 64 - 2 ^ stop = omega (arith, one, negated, pow_pos stop, pow_below stop 64 below) in
    ap (bit_and ray) (omega (arith, rest, pow-twice stop, pow_pos stop, pow-most stop below)) ∙ kept
falling-end ray before stop (suc (suc n)) end neg below few is fits negated kept = absurd (omega arith)

-- falling: the one of the others that no other one lies beyond
half-bit : (x k t : ℕ) (f : ℕ → ℕ) → ((i : ℕ) → bit_at x i ≡ f i) → bit_at (x / 2 ^ k) t ≡ f (t + k)
half-bit x k t f bits = bit_at-right x k t ∙ bits (t + k)

abbrev two_at : (ℕ → ℕ) → ℕ → ℕ → ℕ
two_at f k t = max (f t) (f (t + k))

abbrev four_at : (ℕ → ℕ) → ℕ → ℕ → ℕ
four_at f k t = max (two_at f k t) (two_at f k (t + k + k))

abbrev eight_at : (ℕ → ℕ) → ℕ → ℕ → ℕ
eight_at f k t = max (four_at f k t) (four_at f k (t + k + k + k + k))

lowered-bit : (word k t : ℕ) → bit_at (lowered_to k word) t ≡ eight_at (bit_at word) k t
lowered-bit word k t =
    let two = bit_or word (word / 2 ^ k) in
    let four = bit_or two (two / 2 ^ k / 2 ^ k) in
    let two_bit : (i : ℕ) → bit_at two i ≡ two_at (bit_at word) k i =
    λ i. bit_at_or word (word / 2 ^ k) i ∙ ap (max (bit_at word i)) (bit_at-right word k i) in
    let four_bit : (i : ℕ) → bit_at four i ≡ four_at (bit_at word) k i =
    λ i. bit_at_or two (two / 2 ^ k / 2 ^ k) i
    ∙ ap₂ max (two_bit i) (bit_at-right (two / 2 ^ k) k i ∙ half-bit two k (i + k) (two_at (bit_at word) k) two_bit) in
    bit_at_or four (four / 2 ^ k / 2 ^ k / 2 ^ k / 2 ^ k) t
    ∙ ap₂ max (four_bit t)
    (bit_at-right (four / 2 ^ k / 2 ^ k / 2 ^ k) k t
    ∙ bit_at-right (four / 2 ^ k / 2 ^ k) k (t + k)
    ∙ bit_at-right (four / 2 ^ k) k (t + k + k)
    ∙ half-bit four k (t + k + k + k) (four_at (bit_at word) k) four_bit)

lowered-fits : (k x : ℕ) → x < 2 ^ 64 → lowered_to k x / 2 ^ k < 2 ^ 64
lowered-fits k x fits =
    let two = bit_or x (x / 2 ^ k) in
    let four = bit_or two (two / 2 ^ k / 2 ^ k) in
    let two_fits : two < 2 ^ 64 = or_lt 64 x (x / 2 ^ k) fits (omega (arith, shr_le x k)) in
    let four_fits : four < 2 ^ 64 = or_lt 64 two (two / 2 ^ k / 2 ^ k) two_fits (omega (arith, shr_le two k, shr_le (two / 2 ^ k) k)) in
    let eight_fits : lowered_to k x < 2 ^ 64 =
    or_lt 64 four (four / 2 ^ k / 2 ^ k / 2 ^ k / 2 ^ k) four_fits
    (omega (arith, shr_le four k, shr_le (four / 2 ^ k) k, shr_le (four / 2 ^ k / 2 ^ k) k, shr_le (four / 2 ^ k / 2 ^ k / 2 ^ k) k)) in
    omega (arith, shr_le (lowered_to k x) k)

none-beyond : (f : ℕ → ℕ) (k t : ℕ) → ((i : ℕ) → t ≤ i → f i ≡ 0) → eight_at f k t ≡ 0
none-beyond f k t none =
    omega (arith, none t (omega arith), none (t + k) (omega arith), none (t + k + k) (omega arith), none (t + k + k + k) (omega arith), none (t + k + k + k + k) (omega arith), none (t + k + k + k + k + k) (omega arith), none (t + k + k + k + k + k + k) (omega arith), none (t + k + k + k + k + k + k + k) (omega arith))

some-beyond : (f : ℕ → ℕ) (k t s : ℕ) → ((i : ℕ) → f i < 2) → f s ≡ 1 → falls_to k s t ≡ true → eight_at f k (t + k) ≡ 1
some-beyond f k t s few set falls = grind arith

pub falling-stop : (own opp before stop after k : ℕ) → joined before stop after < 2 ^ 64 → opp < 2 ^ 64 → stop < 64 → 0 < k → bit_at opp stop ≡ 0
    → ((i : ℕ) → bit_at before i ≡ 1 → bit_at opp i ≡ 1) → ((i : ℕ) → bit_at before i ≡ 1 → stop < i) → ((i : ℕ) → bit_at after i ≡ 1 → i < stop)
    → ((i : ℕ) → bit_at after i ≡ 1 → falls_to k stop i ≡ true)
    → falling_run k own opp (joined before stop after) ≡ cond (set_in own stop) before 0
falling-stop own opp before stop after k fits opp_fits below some other opposing over under falls =
    let ray = joined before stop after in
    let rest = others opp ray in
    let rest_fits : rest < 2 ^ 64 = omega (arith, and_le_l ray (2 ^ 64 - 1 - opp)) in
    let set : bit_at rest stop ≡ 1 = stop-bit before stop after opp opp_fits below other in
    let none : (i : ℕ) → stop < i → bit_at rest i ≡ 0 =
    λ i above. elim (cases_lt i 64) [
      | inl i_below ↦ before-bit before stop after opp i opp_fits i_below (opposing i) (clear-bit after i (λ there. omega (arith, under i there))) (λ e. omega arith)
      | inr beyond ↦ bit_at_above rest 64 i rest_fits beyond
    ] in
    let lower = lowered_to k rest / 2 ^ k in
    let in_after : (i : ℕ) → i < stop → bit_at rest i ≡ 1 → bit_at after i ≡ 1 =
    λ i low there.
    let no_before = clear-bit before i (λ h. omega (arith, over i h)) in
    omega (arith, there, other-bit ray opp i opp_fits (omega arith), joined-bit before stop after i, no_before, bit_at-pow_other stop i (λ e. omega arith), bit_at-lt after i) in
    let lower_fits : lower < 2 ^ 64 = lowered-fits k rest rest_fits in
    let lower_bit : (i : ℕ) → bit_at lower i ≡ eight_at (bit_at rest) k (i + k) = λ i. bit_at-right (lowered_to k rest) k i ∙ lowered-bit rest k (i + k) in
    let lower_case : (i : ℕ) → i < stop → min (bit_at rest i) (1 - bit_at lower i) ≡ 0 =
    λ i low. elim (bit-cases (bit_at rest i) (bit_at-lt rest i)) [
      | inl clear ↦ omega (arith, clear)
      | inr there ↦
          let hit : bit_at lower i ≡ 1 = lower_bit i ∙ some-beyond (bit_at rest) k i stop (bit_at-lt rest) set (falls i (in_after i low there)) in
          omega (arith, hit)
    ] in
    let last : bit_and rest (2 ^ 64 - 1 - lower) ≡ 2 ^ stop =
    same_from_bits_below 64 (bit_and rest (2 ^ 64 - 1 - lower)) (2 ^ stop) (omega (arith, and_le_l rest (2 ^ 64 - 1 - lower))) (pow_below stop 64 below) (λ i i_below.
    other-bit rest lower i lower_fits i_below
    ∙ elim (by-order i stop) [
      | inl low ↦ omega (arith, bit_at-pow_other stop i (λ e. omega arith), bit_at-lt rest i, lower_case i low)
      | inr more ↦ elim more [
        | inl same ↦
            let here : bit_at rest i ≡ 1 = ap (bit_at rest) same ∙ set in
            let no_lower : bit_at lower i ≡ 0 = lower_bit i ∙ none-beyond (bit_at rest) k (i + k) (λ j le. none j (omega arith)) in
            omega (arith, here, no_lower, ap (bit_at (2 ^ stop)) same ∙ bit_at-pow_same stop)
        | inr high ↦ omega (arith, bit_at-pow_other stop i (λ e. omega arith), none i high)
      ]
    ]) in
    let end = bit_and (bit_and rest (2 ^ 64 - 1 - lower)) own in
    let end_is : end ≡ bit_at own stop * 2 ^ stop = ap (λ n. bit_and n own) last ∙ own-end own stop in
    let end_fits : end < 2 ^ 64 = omega (arith, and_le_l (bit_and rest (2 ^ 64 - 1 - lower)) own, and_le_l rest (2 ^ 64 - 1 - lower)) in
    falling-end ray before stop (bit_at own stop) end (negated end) below (bit_at-lt own stop) end_is (negated-fits end) (negated-sum end end_fits) (falling-kept before stop after fits below over under)

-- ---- a ray of opposing discs alone

nothing-other : (ray opp : ℕ) → ray < 2 ^ 64 → opp < 2 ^ 64 → ((i : ℕ) → bit_at ray i ≡ 1 → bit_at opp i ≡ 1) → bit_and ray (2 ^ 64 - 1 - opp) ≡ 0
nothing-other ray opp fits opp_fits all =
    same_from_bits_below 64 _ _ (omega (arith, and_le_l ray (2 ^ 64 - 1 - opp))) (pow_pos 64) (λ i below.
    other-bit ray opp i opp_fits below
    ∙ elim (bit-cases (bit_at ray i) (bit_at-lt ray i)) [
      | inl clear ↦ omega (arith, clear, bit_at-zero i)
      | inr set ↦ omega (arith, all i set, bit_at-zero i)
    ])

none-and : (n m : ℕ) → n ≡ 0 → bit_and n m ≡ 0
none-and n m none = and_comm n m ∙ and-none m n none

rising-none : (own opp ray : ℕ) → others opp ray ≡ 0 → rising_run own opp ray ≡ 0
rising-none own opp ray none =
    let end : bit_and (bit_and (others opp ray) (negated (others opp ray))) own ≡ 0 = none-and _ own (none-and (others opp ray) _ none) in
    and-none ray _ (omega (arith, end))

falling-none : (k own opp ray : ℕ) → others opp ray ≡ 0 → falling_run k own opp ray ≡ 0
falling-none k own opp ray none =
    let end : bit_and (bit_and (others opp ray) (2 ^ 64 - 1 - lowered_to k (others opp ray) / 2 ^ k)) own ≡ 0 = none-and _ own (none-and (others opp ray) _ none) in
    and-none ray _ (ap (λ n. negated n * 2 ^ 1 % 2 ^ 64) end)

-- ---- a run, by its ray

at-least : (own : ℕ) (before : List ℕ) (t : Bool) → bits_of (unwrap_or (cond t (Some before) None) []) ≡ cond t (bits_of before) 0
at-least own before t = grind arith

-- what the words of a ray's parts say
pub record Parts (opp : ℕ) (up : Bool) (ray : List ℕ) : Type 0 where
  pub before : List ℕ
  pub stop : ℕ
  pub after : List ℕ
  pub split : ray ≡ before ++ stop ∷ after
  pub word : bits_of ray ≡ joined (bits_of before) stop (bits_of after)
  pub below : stop < 64
  pub other : bit_at opp stop ≡ 0
  pub opposing : (i : ℕ) → bit_at (bits_of before) i ≡ 1 → bit_at opp i ≡ 1
  pub earlier : (i : ℕ) → bit_at (bits_of before) i ≡ 1 → comes up i stop ≡ true
  pub later : (i : ℕ) → bit_at (bits_of after) i ≡ 1 → comes up stop i ≡ true
  pub run : (own : ℕ) → bit_and own opp ≡ 0 → bits_of (unwrap_or (outflanked (cells_of own opp) ray) []) ≡ cond (set_in own stop) (bits_of before) 0

parts-of : (opp : ℕ) (up : Bool) (ray : List ℕ) → ordered up ray ≡ true → Stops opp ray → Parts opp up ray
parts-of opp up ray order st =
    let here : ordered up (st.before ++ st.stop ∷ st.after) ≡ true = ap (ordered up) (sym st.split) ∙ order in
    let h = around up st.before st.stop st.after here in
    record {
      before = st.before;
      stop = st.stop;
      after = st.after;
      split = st.split;
      word = ap bits_of st.split ∙ bits_of-append st.before (st.stop ∷ st.after);
      below = h.below;
      other = st.other;
      opposing = λ i set. eqb-true (bit_at opp i) 1 (bits-all (set_in opp) st.before i st.opposing set);
      earlier = λ i set. bits-all (λ s. comes up s st.stop) st.before i h.earlier set;
      later = λ i set. bits-all (comes up st.stop) st.after i h.later set;
      run = λ own disjoint.
          ap (λ l. bits_of (unwrap_or (outflanked (cells_of own opp) l) [])) st.split
          ∙ ap (λ o. bits_of (unwrap_or o [])) (outflanked-stop up own opp st.before st.stop st.after disjoint here st.opposing st.other)
          ∙ at-least own st.before (set_in own st.stop);
    }

-- a ray of opposing discs alone, or one with a stop
pub record Whole (opp : ℕ) (ray : List ℕ) : Type 0 where
  pub opposing : (i : ℕ) → bit_at (bits_of ray) i ≡ 1 → bit_at opp i ≡ 1
  pub run : (own : ℕ) → bit_and own opp ≡ 0 → bits_of (unwrap_or (outflanked (cells_of own opp) ray) []) ≡ 0

pub whole-or-parts : (opp : ℕ) (up : Bool) (ray : List ℕ) → ordered up ray ≡ true → Whole opp ray ⊎ Parts opp up ray
whole-or-parts opp up ray order =
    elim (stops opp ray) [
      | inl all ↦ inl (record {
        opposing = λ i set. eqb-true (bit_at opp i) 1 (bits-all (set_in opp) ray i all set);
        run = λ own disjoint. ap (λ o. bits_of (unwrap_or o [])) (outflanked-all up own opp ray disjoint order all);
      })
      | inr st ↦ inr (parts-of opp up ray order st)
    ]

pub rising : (own opp ray : ℕ) (squares : List ℕ) → ray ≡ bits_of squares → ordered true squares ≡ true → ray < 2 ^ 64 → opp < 2 ^ 64 → bit_and own opp ≡ 0
    → rising_run own opp ray ≡ bits_of (unwrap_or (outflanked (cells_of own opp) squares) [])
rising own opp ray squares is order fits opp_fits disjoint =
    elim (whole-or-parts opp true squares order) [
      | inl w ↦ rising-none own opp ray (nothing-other ray opp fits opp_fits (λ i set. w.opposing i (ap (λ n. bit_at n i) (sym is) ∙ set))) ∙ sym (w.run own disjoint)
      | inr p ↦
          let word : ray ≡ joined (bits_of p.before) p.stop (bits_of p.after) = is ∙ p.word in
          ap (rising_run own opp) word
          ∙ rising-stop own opp (bits_of p.before) p.stop (bits_of p.after) (omega (arith, word)) opp_fits p.below p.other p.opposing
          (λ i set. ltb-true i p.stop (p.earlier i set)) (λ i set. ltb-true p.stop i (p.later i set))
          ∙ sym (p.run own disjoint)
    ]

falls-after : (k : ℕ) (before : List ℕ) (stop : ℕ) (after : List ℕ) → falls_by k (before ++ stop ∷ after) ≡ true → list_all (falls_to k stop) after ≡ true
falls-after k [] stop after falls = (and_parts (list_all (falls_to k stop) after) (falls_by k after) falls).0
falls-after k (s ∷ before) stop after falls =
    falls-after k before stop after (and_parts (list_all (falls_to k s) (before ++ stop ∷ after)) (falls_by k (before ++ stop ∷ after)) falls).1

pub falling : (k own opp ray : ℕ) (squares : List ℕ) → 0 < k → ray ≡ bits_of squares → ordered false squares ≡ true → falls_by k squares ≡ true → ray < 2 ^ 64 → opp < 2 ^ 64 → bit_and own opp ≡ 0
    → falling_run k own opp ray ≡ bits_of (unwrap_or (outflanked (cells_of own opp) squares) [])
falling k own opp ray squares some is order falls fits opp_fits disjoint =
    elim (whole-or-parts opp false squares order) [
      | inl w ↦ falling-none k own opp ray (nothing-other ray opp fits opp_fits (λ i set. w.opposing i (ap (λ n. bit_at n i) (sym is) ∙ set))) ∙ sym (w.run own disjoint)
      | inr p ↦
          let word : ray ≡ joined (bits_of p.before) p.stop (bits_of p.after) = is ∙ p.word in
          let after_falls = falls-after k p.before p.stop p.after (ap (falls_by k) (sym p.split) ∙ falls) in
          ap (falling_run k own opp) word
          ∙ falling-stop own opp (bits_of p.before) p.stop (bits_of p.after) k (omega (arith, word)) opp_fits p.below some p.other p.opposing
          (λ i set. ltb-true p.stop i (p.earlier i set)) (λ i set. ltb-true i p.stop (p.later i set))
          (λ i set. bits-all (falls_to k p.stop) p.after i after_falls set)
          ∙ sym (p.run own disjoint)
    ]
