-- The numbers in the first twelve words of a search's frame, where these have a frame's form.
use Rattle.jamboree.proofs.Common.{◌≡◌, ℕ, ◌+◌, ◌<◌, ◌≤◌, Bool, true, ℤ, pos, negsuc, ◌≤ℤ◌, ◌<ℤ◌, List, [], drop, length, slice_index, ◌==◌, ◌&&◌, bit_and, to_z, of_z, w32, sym, ap, ◌∙◌, subst, take, arith, ⊎_elim, get_or-take, ints, cases_lt, and_parts, eqb-true, eq-eqb, least, greatest, unscored, is_frame, score_of, frame_of, are_entries, is_formed, IsFrame, frame-told, Head, head_of, frame_from, greatest_depth}

-- the ranges of these words
pub record AreRanged (h : Head) : Type 0 where
  pub disjoint : bit_and h.own h.opp ≡ 0
  pub depth : h.depth ≤ greatest_depth
  pub alpha_low : 800000 ≤ h.alpha
  pub alpha_high : h.alpha ≤ 1200000
  pub beta_low : 800000 ≤ h.beta
  pub beta_high : h.beta ≤ 1200000
  pub window : h.alpha < h.beta
  pub role : h.role ≤ 3
  pub phase : h.phase ≤ 4
  pub best : h.best ≤ 1200000
  pub choice : h.choice ≤ 65
  pub spawned : h.spawned ≤ h.count

word-low : (w : ℕ) → least ≤ℤ score_of w → 800000 ≤ w
word-low w h = omega (arith, ints)

pub word-high : (w : ℕ) → score_of w ≤ℤ greatest → w ≤ 1200000
word-high w h = omega (arith, ints)

word-none : (w : ℕ) → score_of w ≡ unscored → w ≤ 1200000
word-none w h = omega (arith, ints)

pub ranged : (h : Head) → is_frame (frame_from h []) ≡ true → AreRanged h
ranged h e =
    let f : IsFrame (frame_from h []) = frame-told (frame_from h []) e in
    let window : score_of h.alpha <ℤ score_of h.beta = f.leaf.window in
    record {
      disjoint = f.leaf.disjoint;
      depth = f.leaf.shallow;
      alpha_low = word-low h.alpha f.leaf.low;
      alpha_high = word-high h.alpha (omega (arith, ints));
      beta_low = word-low h.beta (omega (arith, ints));
      beta_high = word-high h.beta f.leaf.high;
      window = omega (arith, ints);
      role = f.role;
      phase = f.phase;
      best = ⊎_elim (λ (early : h.phase < 2). word-none h.best (f.early (omega arith)).0)
          (λ (late : 2 ≤ h.phase). word-high h.best (f.late (omega arith)).1) (cases_lt h.phase 2);
      choice = f.choice;
      spawned = f.spawned;
    }

-- a score survives 32 bits
pub as-wide : (w : ℕ) (s : ℤ) → s ≡ score_of w → w ≤ 1200000 → to_z w32 (of_z w32 s) ≡ score_of w
as-wide w s e small = omega (arith, ints)

-- the first words stand in the first segment
front-word : (w front : List ℕ) → front ≡ take 16 w → (k : ℕ) → k < 16 → slice_index front k ≡ slice_index w k
front-word w front is k inside = ap (λ (xs : List ℕ). slice_index xs k) is ∙ get_or-take 16 w k 0 inside

pub front-head : (w front : List ℕ) → front ≡ take 16 w → head_of front ≡ head_of w
front-head w front is = grind (arith, front-word)

-- words that have the form of a frame, part by part
and-true : (a : Bool) → a ≡ (a && true)
and-true a = grind arith

-- the rest of the test of the form
pub formed-rest : (w : List ℕ) (h : Head) → h ≡ head_of w → length w ≡ 12 + h.count → is_frame (frame_from h []) ≡ true → are_entries (drop 12 w) ≡ is_formed w
formed-rest w h e places frame =
    subst (λ (k : Head). length w ≡ 12 + k.count → is_frame (frame_from k []) ≡ true → are_entries (drop 12 w) ≡ is_formed w) (sym e)
    (λ at test.
    and-true (are_entries (drop 12 w)) ∙ ap (λ (b : Bool). are_entries (drop 12 w) && b) (sym test)
    ∙ ap (λ (b : Bool). b && (are_entries (drop 12 w) && is_frame (frame_of w))) (sym (eq-eqb (length w) (12 + slice_index w 10) at)))
    places frame

pub formed-parts : (w : List ℕ) (h : Head) → h ≡ head_of w → is_formed w ≡ true →
    ((length w ≡ 12 + h.count) × (are_entries (drop 12 w) ≡ true)) × (is_frame (frame_from h []) ≡ true)
formed-parts w h e formed =
    let a = and_parts (length w == 12 + slice_index w 10) (are_entries (drop 12 w) && is_frame (frame_of w)) formed in
    let b = and_parts (are_entries (drop 12 w)) (is_frame (frame_of w)) a.1 in
    subst (λ (k : Head). ((length w ≡ 12 + k.count) × (are_entries (drop 12 w) ≡ true)) × (is_frame (frame_from k []) ≡ true)) (sym e)
    ((eqb-true (length w) (12 + slice_index w 10) a.0, b.0), b.1)

-- the scores of a head in 32 bits
pub alpha-low : (h : Head) (s : ℤ) → AreRanged h → s ≡ score_of h.alpha → negsuc 199999 ≤ℤ to_z w32 (of_z w32 s)
alpha-low h s r e = omega (arith, ints)

pub below-beta : (h : Head) (s t : ℤ) → AreRanged h → s ≡ score_of h.alpha → t ≡ score_of h.beta → to_z w32 (of_z w32 s) <ℤ to_z w32 (of_z w32 t)
below-beta h s t r es et = omega (arith, ints)

pub beta-high : (h : Head) (s : ℤ) → AreRanged h → s ≡ score_of h.beta → to_z w32 (of_z w32 s) ≤ℤ pos 200000
beta-high h s r e = omega (arith, ints)

pub best-low : (h : Head) (s : ℤ) → AreRanged h → s ≡ score_of h.best → negsuc 999999 ≤ℤ to_z w32 (of_z w32 s)
best-low h s r e = omega (arith, ints)

pub best-high : (h : Head) (s : ℤ) → AreRanged h → s ≡ score_of h.best → to_z w32 (of_z w32 s) ≤ℤ pos 200000
best-high h s r e = omega (arith, ints)
