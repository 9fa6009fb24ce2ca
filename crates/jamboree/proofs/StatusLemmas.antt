-- The entries of a frame's choices in the search, segment (16 words) by segment.
use Rattle.jamboree.proofs.Common.{◌≡◌, ℕ, zero, suc, ◌+◌, ◌-◌, ◌*◌, ◌<◌, ◌≤◌, ◌==◌, ◌&&◌, nat_lt, Bool, true, false, List, [], ◌∷◌, ◌++◌, drop, length, map, slice_get, slice_index, Option, Some, None, unwrap_or, refl, sym, ◌∙◌, ap, subst, arith, add-one, ⊎_elim, and_assoc, get_or-map, lt-ltb, le-ltb, cases_lt, take-append-drop, drop-take, drop-drop, length-append, length-drop, length-take, length-map, map-append, get_or-drop, slice_get_within, unwrap_or-slice_get, slice_get-get_or, status_of, entry_rest, is_entry, are_entries, first_open, statuses_in, rests_in, entries_in, ◌≢◌, if◌then◌else◌, zero-add, eqb-true, eq-eqb, nat_tests}
use Rattle.std.specs.Prelude.{take}

-- all before a place are settled, and what stands there isn't
pub open-at : (st : List ℕ) (i : ℕ) → ((k : ℕ) → k < i → slice_index st k ≡ 2) → i < length st → slice_index st i ≢ 2 → i ≡ first_open st
open-at (s ∷ st) (suc i) before inside other =
    grind (arith, nat_tests, before 0 (omega arith), open-at st i (λ k below. before (suc k) (omega arith)) (omega arith) other)
open-at st i before inside other = grind (arith, nat_tests)

-- all are settled
pub open-none : (st : List ℕ) → ((k : ℕ) → k < length st → slice_index st k ≡ 2) → length st ≡ first_open st
open-none [] before = refl
open-none (s ∷ st) before = grind (arith, nat_tests, before 0 (omega arith), open-none st (λ k below. before (suc k) (omega arith)))

-- the first that isn't settled stands in the front, or behind it
early-step : (b : Bool) (n m k : ℕ) → (n < m → k ≡ n) → (if b then suc n else 0) < suc m → (if b then suc k else 0) ≡ (if b then suc n else 0)
early-step b n m k rest inside = grind arith

later-step : (b : Bool) (n m k y : ℕ) → (m ≤ n → k ≡ m + y) → suc m ≤ (if b then suc n else 0) → (if b then suc k else 0) ≡ suc m + y
later-step b n m k y rest past = grind arith

pub open-early : (xs ys : List ℕ) → first_open xs < length xs → first_open (xs ++ ys) ≡ first_open xs
open-early [] ys inside = absurd (omega arith)
open-early (x ∷ xs) ys inside = early-step (x == 2) (first_open xs) (length xs) (first_open (xs ++ ys)) (open-early xs ys) inside

pub open-later : (xs ys : List ℕ) → length xs ≤ first_open xs → first_open (xs ++ ys) ≡ length xs + first_open ys
open-later [] ys past = sym (zero-add (first_open ys))
open-later (x ∷ xs) ys past = later-step (x == 2) (first_open xs) (length xs) (first_open (xs ++ ys)) (first_open ys) (open-later xs ys) past

-- the status of the entry at a place
pub settled-at : (entries : List ℕ) (i : ℕ) → true ≡ (status_of (slice_index entries i) == 2) → slice_index (map status_of entries) i ≡ 2
settled-at entries i h = get_or-map status_of entries i 0 ∙ eqb-true (status_of (slice_index entries i)) 2 (sym h)

pub open-entry : (entries : List ℕ) (i : ℕ) → false ≡ (status_of (slice_index entries i) == 2) → slice_index (map status_of entries) i ≢ 2
open-entry entries i h = λ e. absurd (cc (h, eq-eqb (status_of (slice_index entries i)) 2 (sym (get_or-map status_of entries i 0) ∙ e)))

-- words that are entries, segment by segment
entries-append : (xs ys : List ℕ) → are_entries (xs ++ ys) ≡ (are_entries xs && are_entries ys)
entries-append [] ys = refl
entries-append (x ∷ xs) ys = ap (λ (b : Bool). is_entry x && b) (entries-append xs ys) ∙ sym (and_assoc (is_entry x) (are_entries xs) (are_entries ys))

pub few-entries : (w : List ℕ) (k : ℕ) → length (entries_in w k) ≤ 16
few-entries w k = grind (arith, length-drop, length-take)

-- the entries from a segment on
abbrev pub left : List ℕ → ℕ → List ℕ
left words zero = drop 12 words
left words (suc number) = drop (16 * suc number) words

-- they begin with those of the segment
left-step : (w : List ℕ) (k : ℕ) → left w k ≡ entries_in w k ++ left w (suc k)
left-step w zero = grind (arith, take-append-drop, drop-take, drop-drop)
left-step w (suc k) =
    let rest : List ℕ = drop (16 * suc k) w in
    sym (take-append-drop 16 rest) ∙ ap (λ (ys : List ℕ). take 16 rest ++ ys) (drop-drop 16 (16 * suc k) w ∙ ap (λ (n : ℕ). drop n w) (omega arith))

left-next : (w : List ℕ) (k : ℕ) → left w k ≡ entries_in w k ++ left w (k + 1)
left-next w k = subst (λ (n : ℕ). left w k ≡ entries_in w k ++ left w n) (sym (add-one k)) (left-step w k)

length-left : (w : List ℕ) (k : ℕ) → 0 < length (left w k) → 12 ≤ length w → length (left w k) + 12 + (16 * k - 12) ≡ length w
length-left w zero some long = omega (arith, length-drop 12 w)
length-left w (suc k) some long = omega (arith, length-drop (16 * suc k) w, some)

-- all choices before a segment are settled
abbrev pub AreSettledBefore : List ℕ → ℕ → Type 0
AreSettledBefore w k = first_open (statuses_in w) + length (left w k) ≡ length (drop 12 w) + first_open (map status_of (left w k))

-- the entries of a segment
module _ (w entries : List ℕ) (k : ℕ) (is : entries ≡ entries_in w k) where
  pub left-good : true ≡ are_entries entries → are_entries (drop 12 w) ≡ are_entries (left w k) → are_entries (drop 12 w) ≡ are_entries (left w (k + 1))
  left-good good so_far = grind (arith, left-next, entries-append)

  pub left-bad : false ≡ are_entries entries → are_entries (drop 12 w) ≡ are_entries (left w k) → false ≡ are_entries (drop 12 w)
  left-bad bad so_far = grind (arith, left-next, entries-append)

  open-split : map status_of (left w k) ≡ map status_of entries ++ map status_of (left w (k + 1))
  open-split = grind (arith, left-next, map-append)

  length-split : length (left w k) ≡ length entries + length (left w (k + 1))
  length-split = grind (arith, left-next, length-append)

  pub open-found : (found : ℕ) → found ≡ first_open (map status_of entries) → found < length entries → 12 ≤ length w → AreSettledBefore w k →
      16 * k - 12 + found ≡ first_open (statuses_in w)
  open-found found first inside long before =
      let here : first_open (map status_of entries) < length (map status_of entries) = omega (arith, first, length-map entries status_of) in
      let same = ap first_open open-split ∙ open-early (map status_of entries) (map status_of (left w (k + 1))) here in
      omega (arith, before, same, first, length-left w k (omega (arith, length-split)) long, length-drop 12 w)

  pub open-passed : (found : ℕ) → found ≡ first_open (map status_of entries) → length entries ≤ found → AreSettledBefore w k → AreSettledBefore w (k + 1)
  open-passed found first all before =
      let past : length (map status_of entries) ≤ first_open (map status_of entries) = omega (arith, length-map entries status_of, first) in
      let same = ap first_open open-split ∙ open-later (map status_of entries) (map status_of (left w (k + 1))) past in
      omega (arith, before, same, length-split, length-map entries status_of)

-- the status of a choice, by its entry
module _ (w : List ℕ) (n : ℕ) where
  status-at : slice_index (statuses_in w) n ≡ status_of (slice_index w (12 + n))
  status-at = get_or-map status_of (drop 12 w) n 0 ∙ ap status_of (get_or-drop 12 w n 0)

  counted : length (statuses_in w) ≡ length w - 12
  counted = omega (arith, length-map (drop 12 w) status_of, length-drop 12 w)

  pub entry-some : (entry status : ℕ) → Some entry ≡ slice_get w (12 + n) →
      (status_of entry == status) ≡ (nat_lt n (length (statuses_in w)) && (slice_index (statuses_in w) n == status))
  entry-some entry status got =
      let inside : 12 + n < length w = slice_get_within w (12 + n) entry (sym got) in
      let is : entry ≡ slice_index w (12 + n) = ap (λ (o : Option ℕ). unwrap_or o 0) got ∙ unwrap_or-slice_get w (12 + n) 0 in
      ap (λ (x : ℕ). x == status) (ap status_of is ∙ sym status-at)
      ∙ ap (λ (b : Bool). b && (slice_index (statuses_in w) n == status)) (sym (lt-ltb n (length (statuses_in w)) (omega (arith, counted))))

  pub entry-none : (status : ℕ) → None ≡ slice_get w (12 + n) → false ≡ (nat_lt n (length (statuses_in w)) && (slice_index (statuses_in w) n == status))
  entry-none status got =
      let past : length w ≤ 12 + n = ⊎_elim (λ (inside : 12 + n < length w). absurd (cc (got, slice_get-get_or w (12 + n) 0 inside)))
      (λ (beyond : length w ≤ 12 + n). beyond) (cases_lt (12 + n) (length w)) in
      ap (λ (b : Bool). b && (slice_index (statuses_in w) n == status)) (sym (le-ltb n (length (statuses_in w)) (omega (arith, counted))))

-- the rest of its entry, and 0 where there is no entry
pub rest-is : (w : List ℕ) (n : ℕ) → entry_rest (slice_index w (12 + n)) ≡ slice_index (rests_in w) n
rest-is w n = sym (get_or-map entry_rest (drop 12 w) n 0 ∙ ap entry_rest (get_or-drop 12 w n 0))
