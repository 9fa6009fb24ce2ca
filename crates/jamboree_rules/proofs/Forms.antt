-- The words of a search's frame: what is packed into an entry is read again; stores, the form of a frame, and the
-- codes of choices.
use Rattle.jamboree_rules.proofs.Common.{◌≡◌, ◌≢◌, ℕ, zero, suc, ◌+◌, ◌<◌, ◌≤◌, ◌==◌, true, ℤ, ◌≤ℤ◌, if◌then◌else◌, List, [], ◌∷◌, map, refl, slice_index, ◌++◌, drop, replicate, length, slice_set, ◌⊎◌, ◌&&◌, nat_le, nat_lt, Bool, Option, Some, None, IfSome, Contains, ◌∙◌, ap, arith, sym, subst, and_parts, le-leb, and_from, eqb-true, eq-eqb, leb-true, nat_tests, ints, BoundKind, least, greatest, is_score, Frame, board, unscored, is_leaf, is_searching, counts_choices, is_frame, may_be_child, code_of, code_at, coded, score_of, word_of, status_of, entry_rest, entry_of, kind_number, kind_in, score_in, rest_with, is_rest, is_entry, are_entries, frame_of, Change, Best, Status, pair_of, pairs_of, changed, is_formed, common_steps, get_or-set_other, get_or-set_same, map-set, drop-set-lt, drop-set-add, get_or_past, and_set, drop-append_seam, stored, int_eq, choices, IsAllowed, IsLeaf, leaf-told, All-get_or, Cell, Choice, choices_allowed, contained-allowed, length-stored}

-- the word of a score holds it
pub held : (s : ℤ) → least ≤ℤ s → score_of (word_of s) ≡ s
held s low = omega (arith, ints)

pub status-read : (b k : ℕ) → b ≤ 4 → status_of (entry_of b k) ≡ b
status-read b k small = omega arith

pub rest-read : (b k : ℕ) → b ≤ 4 → entry_rest (entry_of b k) ≡ k
rest-read b k small = omega arith

module _ (kind : BoundKind) where
  kind-small : kind_number kind < 4
  kind-small = grind arith

  pub kind-some : kind_number kind ≢ 0
  kind-some = grind arith

  pub kind-read : (score : ℤ) → kind_in (rest_with kind score) ≡ kind_number kind
  kind-read score = omega (arith, kind-small)

  pub score-read : (score : ℤ) → least ≤ℤ score → score_in (rest_with kind score) ≡ score
  score-read score low = omega (arith, ints, kind-small)

-- two kinds of one number are one
pub same-kind : (P : BoundKind → Type 0) (one other : BoundKind) → kind_number one ≡ kind_number other → P one → P other
same-kind P one other h4 h5 = grind arith

scored-by : (kind rest : ℕ) (s : ℤ) → kind ≢ 0 → least ≤ℤ s → s ≤ℤ greatest → (if kind == 0 then rest == 0 else is_score s) ≡ true
scored-by kind rest s some low high = grind (arith, ints, nat_tests)

-- the rest of a score is one
pub rest-passes : (kind : BoundKind) (score : ℤ) → least ≤ℤ score → score ≤ℤ greatest → is_rest (rest_with kind score) ≡ true
rest-passes kind score low high = grind (arith, kind-read, score-read, scored-by, kind-some)

-- an entry of a status and a rest is one
pub entry-passes : (status rest : ℕ) → status ≤ 4 → is_rest rest ≡ true → is_entry (entry_of status rest) ≡ true
entry-passes status rest small is = grind (arith, status-read, le-leb, rest-read)

-- each rest among entries is one
pub rests-are : (entries : List ℕ) (i : ℕ) → are_entries entries ≡ true → is_rest (slice_index (map entry_rest entries) i) ≡ true
rests-are (entry ∷ entries) (suc i) all = rests-are entries i (and_parts (is_entry entry) (are_entries entries) all).1
rests-are entries i all = grind arith

-- Stores by what they set: the frame in the words after them, and the form of these words.

-- a word among others changed
abbrev pub put : (ℕ → ℕ) → ℕ → ℕ → ℕ → ℕ
put g k x j = if j == k then x else g j

-- the frame of these first words and entries
abbrev pub frame_with : (ℕ → ℕ) → List ℕ → Frame
frame_with g entries = record {
  own = g 0;
  opp = g 1;
  depth = g 2;
  alpha = score_of (g 3);
  beta = score_of (g 4);
  role = g 5;
  number = g 6;
  phase = g 7;
  best = score_of (g 8);
  choice = g 9;
  count = g 10;
  spawned = g 11;
  statuses = map status_of entries;
  rests = map entry_rest entries;
}

put-is : (w : List ℕ) (k x j : ℕ) → k < length w → slice_index (slice_set w k x) j ≡ put (slice_index w) k x j
put-is w k x j inside = grind (arith, common_steps, get_or-set_same w k x 0, get_or-set_other w k j x 0)

set-first : (w : List ℕ) (k x : ℕ) → k < 12 → 12 ≤ length w → frame_of (slice_set w k x) ≡ frame_with (put (slice_index w) k x) (drop 12 w)
set-first w k x early long = grind (arith, put-is, drop-set-lt)

-- words with the same first places have the same frame but for its entries
frame-alike : (w v : List ℕ) → ((j : ℕ) → j < 12 → slice_index v j ≡ slice_index w j) → frame_of v ≡ frame_with (slice_index w) (drop 12 v)
frame-alike w v same = grind arith

set-entry : (w : List ℕ) (i x : ℕ) → frame_of (slice_set w (12 + i) x) ≡ record (frame_of w) {
  statuses = slice_set (map status_of (drop 12 w)) i (status_of x);
  rests = slice_set (map entry_rest (drop 12 w)) i (entry_rest x);
}
set-entry w i x =
    frame-alike w (slice_set w (12 + i) x) (λ j below. get_or-set_other w (12 + i) j x 0 (λ e. absurd (omega (arith, e))))
    ∙ ap (frame_with (slice_index w)) (drop-set-add 12 w i x)
    ∙ (λ j. record (frame_of w) { statuses = map-set status_of (drop 12 w) i x j; rests = map-set entry_rest (drop 12 w) i x j })

-- an entry that is set is read again
set-both : (w : List ℕ) (i status rest : ℕ) → status ≤ 4 → frame_of (slice_set w (12 + i) (entry_of status rest)) ≡ changed (Status i status rest) (frame_of w)
set-both w i status rest small = grind (arith, set-entry, status-read, rest-read)

-- what is stored can be read again: a score is one, and a status and a rest are
abbrev pub IsSafe : Change → Type 0
IsSafe (Best score) = least ≤ℤ score
IsSafe (Status i status rest) = (status ≤ 4) × (is_rest rest ≡ true)
IsSafe _ = Unit {0}

abbrev pub AreSafe : List Change → Type 0
AreSafe [] = Unit {0}
AreSafe (change ∷ changes) = IsSafe change × AreSafe changes

-- one store changes the frame so
set-one : (change : Change) (w : List ℕ) → IsSafe change → 12 ≤ length w → frame_of (stored (pair_of change ∷ []) w) ≡ changed change (frame_of w)
set-one (Best score) w safe long = set-first w 8 (word_of score) (omega arith) long ∙ ap (λ (b : ℤ). record (frame_of w) { best = b }) (held score safe)
set-one (Status i status rest) w safe long = set-both w i status rest safe.0
set-one change w safe long = set-first w (pair_of change).0 (pair_of change).1 (omega arith) long

-- the words after these changes, and the frame
abbrev pub written : List Change → List ℕ → List ℕ
written changes words = stored (pairs_of changes) words

abbrev pub changed_by : List Change → Frame → Frame
changed_by [] f = f
changed_by (change ∷ changes) f = changed_by changes (changed change f)

-- the frame in the words after changes, read off the frame before
pub frame-stored : (changes : List Change) (w : List ℕ) → AreSafe changes → 12 ≤ length w → frame_of (written changes w) ≡ changed_by changes (frame_of w)
frame-stored [] w safe long = refl
frame-stored (change ∷ changes) w safe long =
    frame-stored changes _ safe.1 (omega (arith, length-stored (pair_of change ∷ []) w)) ∙ ap (changed_by changes) (set-one change w safe.0 long)

-- entries stay entries
abbrev pub HasEntries : List ℕ → Type 0
HasEntries w = are_entries (drop 12 w) ≡ true

entries-front : (w : List ℕ) (k x : ℕ) → k < 12 → HasEntries w → HasEntries (slice_set w k x)
entries-front w k x early h = ap are_entries (drop-set-lt 12 w k x early) ∙ h

entries-one : (change : Change) (w : List ℕ) → IsSafe change → HasEntries w → HasEntries (stored (pair_of change ∷ []) w)
entries-one (Status i status rest) w safe h =
    ap are_entries (drop-set-add 12 w i (entry_of status rest))
    ∙ and_set are_entries is_entry refl (λ entry entries. refl) (drop 12 w) i (entry_of status rest) (entry-passes status rest safe.0 safe.1) h
entries-one change w safe h = entries-front w (pair_of change).0 (pair_of change).1 (omega arith) h

entries-stored : (changes : List Change) (w : List ℕ) → AreSafe changes → HasEntries w → HasEntries (written changes w)
entries-stored [] w safe h = h
entries-stored (change ∷ changes) w safe h = entries-stored changes _ safe.1 (entries-one change w safe.0 h)

-- words that grow by zeros
first-grown : (w zeros : List ℕ) (j : ℕ) → 12 ≤ length w → j < 12 → slice_index (w ++ zeros) j ≡ slice_index w j
first-grown w zeros j long below = let inside : j < length w = omega arith in grind (arith, common_steps)

pub drop-grown : (w zeros : List ℕ) → length w ≡ 12 → drop 12 (w ++ zeros) ≡ zeros
drop-grown w zeros len = ap (λ (n : ℕ). drop n (w ++ zeros)) (sym len) ∙ drop-append_seam w zeros

statuses-zeros : (n : ℕ) → map status_of (replicate n 0) ≡ replicate n 0
statuses-zeros zero = refl
statuses-zeros (suc n) = ap (λ rest. 0 ∷ rest) (statuses-zeros n)

rests-zeros : (n : ℕ) → map entry_rest (replicate n 0) ≡ replicate n 0
rests-zeros zero = refl
rests-zeros (suc n) = ap (λ rest. 0 ∷ rest) (rests-zeros n)

pub entries-zeros : (n : ℕ) → are_entries (replicate n 0) ≡ true
entries-zeros zero = refl
entries-zeros (suc n) = entries-zeros n

pub frame-grown : (w : List ℕ) (n : ℕ) → length w ≡ 12 → frame_of (w ++ replicate n 0) ≡ record (frame_of w) { statuses = replicate n 0; rests = replicate n 0 }
frame-grown w n len = grind (arith, frame-alike, first-grown, drop-grown, statuses-zeros, rests-zeros)

-- The form of a frame as facts, and what the test of the form tells.

-- a frame is in a phase that searches choices
abbrev pub IsInSearch : Frame → Type 0
IsInSearch f = (f.phase ≡ 2) ⊎ (f.phase ≡ 3)

-- the numbers of a frame are in their ranges
pub record IsFrame (f : Frame) : Type 0 where
  pub leaf : IsLeaf f.own f.opp f.depth f.alpha f.beta
  pub role : f.role ≤ 3
  pub phase : f.phase ≤ 4
  pub choice : f.choice ≤ 65
  pub spawned : f.spawned ≤ f.count
  pub early : f.phase ≤ 1 → (f.best ≡ unscored) × (f.count ≡ 0)
  pub late : 1 < f.phase → (least ≤ℤ f.best) × (f.best ≤ℤ greatest)
  pub counts : IsInSearch f → (0 < f.depth) × (0 < f.count) × (f.count ≡ length (choices (board f)))

pub leaf-passes : (own opp depth : ℕ) (alpha beta : ℤ) → IsLeaf own opp depth alpha beta → is_leaf own opp depth alpha beta ≡ true
leaf-passes own opp depth alpha beta h = grind (arith, ints)

module _ (phase : ℕ) (early score counts : Bool) where
  phase-told : (if nat_le phase 1 then early else (score && (if is_searching phase then counts else true))) ≡ true →
      (phase ≤ 1 → early ≡ true) × (1 < phase → score ≡ true) × ((phase ≡ 2) ⊎ (phase ≡ 3) → counts ≡ true)
  phase-told h = (λ l. grind (arith, nat_tests), λ l. grind (arith, nat_tests), λ l. grind (arith, nat_tests))

  phase-passes : (phase ≤ 1 → early ≡ true) → (1 < phase → score ≡ true) → ((phase ≡ 2) ⊎ (phase ≡ 3) → counts ≡ true) →
      (if nat_le phase 1 then early else (score && (if is_searching phase then counts else true))) ≡ true
  phase-passes he hs hc = grind (arith, nat_tests, he, hs, hc)

early-told : (best : ℤ) (count : ℕ) → (int_eq best unscored && (count == 0)) ≡ true → (best ≡ unscored) × (count ≡ 0)
early-told best count h = (grind (arith, ints), grind (arith, nat_tests))

early-passes : (best : ℤ) (count : ℕ) → best ≡ unscored → count ≡ 0 → (int_eq best unscored && (count == 0)) ≡ true
early-passes best count e c = rw (e, c) refl

score-told : (best : ℤ) → is_score best ≡ true → (least ≤ℤ best) × (best ≤ℤ greatest)
score-told best h = (grind (arith, ints), grind (arith, ints))

score-passes : (best : ℤ) → least ≤ℤ best → best ≤ℤ greatest → is_score best ≡ true
score-passes best low high = grind (arith, ints)

counts-told : (depth count n : ℕ) → (nat_lt 0 depth && (nat_lt 0 count && (count == n))) ≡ true → (0 < depth) × (0 < count) × (count ≡ n)
counts-told depth count n h = (grind (arith, nat_tests), grind (arith, nat_tests), grind (arith, nat_tests))

counts-passes : (depth count n : ℕ) → 0 < depth → 0 < count → count ≡ n → (nat_lt 0 depth && (nat_lt 0 count && (count == n))) ≡ true
counts-passes depth count n d c e = grind (arith, nat_tests)

pub frame-told : (f : Frame) → is_frame f ≡ true → IsFrame f
frame-told f h =
    let a = and_parts _ _ h in
    let b = and_parts _ _ a.1 in
    let c = and_parts _ _ b.1 in
    let d = and_parts _ _ c.1 in
    let e = and_parts _ _ d.1 in
    let p = phase-told f.phase (int_eq f.best unscored && (f.count == 0)) (is_score f.best) (counts_choices f) e.1 in
    record {
      leaf = leaf-told f.own f.opp f.depth f.alpha f.beta a.0;
      role = leb-true f.role 3 b.0;
      phase = leb-true f.phase 4 c.0;
      choice = leb-true f.choice 65 d.0;
      spawned = leb-true f.spawned f.count e.0;
      early = λ l. early-told f.best f.count (p.0 l);
      late = λ l. score-told f.best (p.1 l);
      counts = λ l. counts-told f.depth f.count (length (choices (board f))) (p.2 l);
    }

pub frame-passes : (f : Frame) → IsFrame f → is_frame f ≡ true
frame-passes f h =
    let phase = phase-passes f.phase (int_eq f.best unscored && (f.count == 0)) (is_score f.best) (counts_choices f)
    (λ l. early-passes f.best f.count (h.early l).0 (h.early l).1)
    (λ l. score-passes f.best (h.late l).0 (h.late l).1)
    (λ l. counts-passes f.depth f.count (length (choices (board f))) (h.counts l).0 (h.counts l).1 (h.counts l).2) in
    and_from _ _ (leaf-passes f.own f.opp f.depth f.alpha f.beta h.leaf) (and_from _ _ (le-leb _ _ h.role) (and_from _ _ (le-leb _ _ h.phase)
    (and_from _ _ (le-leb _ _ h.choice) (and_from _ _ (le-leb _ _ h.spawned) phase))))

-- words have the form of a frame
pub record IsFormed (words : List ℕ) : Type 0 where
  pub places : length words ≡ 12 + (frame_of words).count
  pub entries : HasEntries words
  pub frame : IsFrame (frame_of words)

pub formed-told : (words : List ℕ) → is_formed words ≡ true → IsFormed words
formed-told words h =
    let a = and_parts _ _ h in
    let b = and_parts _ _ a.1 in
    record { places = eqb-true _ _ a.0; entries = b.0; frame = frame-told (frame_of words) b.1 }

pub formed-passes : (words : List ℕ) → IsFormed words → is_formed words ≡ true
formed-passes words h = and_from _ _ (eq-eqb _ _ h.places) (and_from _ _ h.entries (frame-passes (frame_of words) h.frame))

-- words have the form after changes that leave the count
pub formed-stored : (changes : List Change) (w : List ℕ) (g : Frame) → IsFormed w → AreSafe changes → changed_by changes (frame_of w) ≡ g →
    g.count ≡ (frame_of w).count → IsFrame g → IsFormed (written changes w)
formed-stored changes w g h safe e same frame =
    let is : frame_of (written changes w) ≡ g = frame-stored changes w safe (omega (arith, h.places)) ∙ e in
    record {
      places = length-stored (pairs_of changes) w ∙ h.places ∙ ap (λ (n : ℕ). 12 + n) (sym (ap (λ (f : Frame). f.count) is ∙ same));
      entries = entries-stored changes w safe h.entries;
      frame = subst IsFrame (sym is) frame;
    }

pub child-told : (f c : Frame) → may_be_child f c ≡ true → (0 < c.role) × (c.number < f.count) × (c.number < length (choices (board f)))
child-told f c h = (grind (arith, nat_tests), grind (arith, nat_tests), grind (arith, nat_tests))

pub child-passes : (f c : Frame) → 0 < c.role → c.number < f.count → c.number < length (choices (board f)) → may_be_child f c ≡ true
child-passes f c a b d = grind (arith, nat_tests)

-- Codes of choices.

-- an allowed choice has a code of at most 64
allowed-code : (b : List Cell) (c : Choice) → IsAllowed b c → code_of c ≤ 64
allowed-code b c h3 = grind arith

pub code-small : (f : Frame) (i : ℕ) → code_at f i ≤ 64
code-small f i = grind (arith, allowed-code, All-get_or, choices_allowed, get_or_past)

-- the code of a choice of a board, or of none, is at most 65
pub coded-small : (b : List Cell) (c : Option Choice) → IfSome c (Contains (choices b)) → coded c ≤ 65
coded-small b None h = omega arith
coded-small b (Some c) h = let small : code_of c ≤ 64 = allowed-code b c (contained-allowed b c h) in omega arith
