-- The acts of a running frame of the search keep it right, and open a right child.
use Rattle.jamboree_rules.proofs.Common.{◌||◌, ◌≡◌, ◌≢◌, ℕ, ◌+◌, ◌-◌, ◌<◌, ℤ, pos, negsuc, neg_ℤ, ◌<ℤ◌, ◌≤ℤ◌, ◌+ℤ◌, List, [], ◌∷◌, ◌++◌, length, replicate, refl, slice_index, ◌≤◌, ◌⊎◌, ◌==◌, ◌&&◌, nat_lt, nat_le, Bool, true, false, map, drop, bit_and, sym, ◌∙◌, ap, arith, inl, inr, ⊎_elim, subst, common_steps, ints, clamps, choices, plies, cells_of, Choice, entered, Neither, Computes, NewChildFits, HasReturned, grown, children_after, mark_after, has_one, Frame, choice_at, rest_at, value_at, unscored, floor, least, greatest, First, IsSearchingFrame, IsDoneFrame, Fits, AreFitting, lt-leb, or_from, nat_tests, length-map, length-drop, padded, Act, Continuation, Grow, Wait, Compute, Return, stored, is_outside, is_bad_then, is_bad_act, status_of, frame_of, is_rest, are_entries, Change, OwnBits, OppBits, Phase, Best, Chosen, Count, Spawned, Status, pair_of, pairs_of, given_words, frame_size, returns, spawns, opening, first_search, tests, IsLeaf, IsInRole, eqb-true, leb-true, ltb-true, map-append, choices-fit, length-stored, greatest_depth}
use Rattle.jamboree_rules.proofs.Searching.{set-there, set-beside, set-length, zero-at, tabled-zeros, tabled-none, entered-deep}
use Rattle.jamboree_rules.proofs.Kinship.{with_place, spawned-child, next-settled, next-done, HasSameGoal}
use Rattle.jamboree_rules.proofs.Forms.{held, rests-are, AreSafe, changed_by, frame-stored, drop-grown, entries-zeros, frame-grown, IsFrame, IsFormed, formed-passes, formed-stored, HasEntries, IsInSearch, written}

-- a child as it is opened: role, number and window
abbrev pub new_child : Frame → ℕ → ℕ → ℤ → ℤ → Frame
new_child f role i low high = record {
  own = 0;
  opp = 0;
  depth = f.depth - plies (choice_at f i);
  alpha = low;
  beta = high;
  role = role;
  number = i;
  phase = 0;
  best = unscored;
  choice = 0;
  count = 0;
  spawned = 0;
  statuses = [];
  rests = [];
}

-- what a frame stores that knows its board, of the words o and p, with n choices, and the frame then
abbrev pub opened_changes : ℕ → ℕ → ℕ → List Change
opened_changes o p n = OwnBits o ∷ OppBits p ∷ Phase 2 ∷ Best least ∷ Chosen 65 ∷ Count n ∷ Spawned 0 ∷ []

abbrev pub opened_frame : Frame → ℕ → ℕ → ℕ → Frame
opened_frame f o p n = record (changed_by (opened_changes o p n) f) { statuses = replicate n 0; rests = replicate n 0 }

-- a new child fits
new-child-fits : (f : Frame) (role i : ℕ) (low high : ℤ) → low <ℤ high → Fits (new_child f role i low high) [] Neither
new-child-fits f role i low high window = grind (arith, tabled-none)

-- a frame fits with a child more, for choice i, and so does the child
abbrev pub Spawns : Frame → List Frame → (role i status spawned : ℕ) → (low high : ℤ) → Type 0
Spawns f children role i status spawned low high =
    Fits (with_place f i status spawned) (children ++ new_child f role i low high ∷ []) Neither × Fits (new_child f role i low high) [] Neither

module _ (f : Frame) (children : List Frame) (fits : Fits f children Neither) where
  spawns-child : (role i status spawned : ℕ) (low high : ℤ) → IsInSearch f → i < length f.statuses → f.spawned ≤ spawned →
      (slice_index f.statuses i ≡ 0) ⊎ (slice_index f.statuses i ≡ 3) → (status ≡ 1) ⊎ (status ≡ 4) → spawned ≤ length f.statuses → i < spawned →
      low <ℤ high → IsInRole (with_place f i status spawned) (new_child f role i low high) → Spawns f children role i status spawned low high
  spawns-child role i status spawned low high phase inside more free opened few before window in_role = (
    spawned-child f _ children i status spawned fits phase inside free opened more few before refl
        (record { inside = rw (set-length f.statuses i status) inside; shallower = refl; known = λ there. absurd (there refl); in_role = in_role }),
    new-child-fits f role i low high window,
  )

  -- phase 2: the first child
  pub next-first : f.phase ≡ 2 → f.spawned ≡ 0 → Spawns f children 1 0 1 1 (neg_ℤ f.beta) (neg_ℤ f.alpha)
  next-first phase none =
      let s : IsSearchingFrame f = fits.searching (inl phase) in
      let zero : slice_index f.statuses 0 ≡ 0 = s.unspawned 0 (omega arith) s.some in
      let window : f.alpha <ℤ f.beta = fits.window in
      spawns-child 1 0 1 1 _ _ (inl phase) s.some (omega arith) (inl zero) (inl refl) (omega (arith, s.some)) (omega arith) (omega (arith, ints))
      (First (record { role = refl; phase = phase; number = refl; status = set-there f.statuses 0 1 s.some; low = refl; high = refl }))

  -- phase 3 (i): a failed choice is searched again
  pub next-again : (j : ℕ) → f.phase ≡ 3 → j < length f.statuses → slice_index f.statuses j ≡ 3 → ((k : ℕ) → k < j → slice_index f.statuses k ≡ 2) →
      Spawns f children 3 j 4 f.spawned (neg_ℤ f.beta) (neg_ℤ (floor f))
  next-again j phase inside failed earlier =
      let s : IsSearchingFrame f = fits.searching (inr phase) in
      let window : f.alpha <ℤ f.beta = fits.window in
      let below : f.best <ℤ f.beta = s.below in
      let begun : j < f.spawned = grind (arith, s.unspawned j, failed, inside) in
      spawns-child 3 j 4 f.spawned _ _ (inr phase) inside (omega arith) (inr failed) (inr refl) s.spawned_in begun (omega (arith, ints, clamps))
      (grind (arith, set-there, set-beside))

  -- phase 3 (ii): the next choice is tested
  pub next-test : f.phase ≡ 3 → f.spawned < length f.statuses → Spawns f children 2 f.spawned 1 (f.spawned + 1) (neg_ℤ (floor f +ℤ pos 1)) (neg_ℤ (floor f))
  next-test phase inside =
      let s : IsSearchingFrame f = fits.searching (inr phase) in
      let zero : slice_index f.statuses f.spawned ≡ 0 = s.unspawned f.spawned (omega arith) inside in
      let twice : neg_ℤ (neg_ℤ (floor f)) ≡ floor f = omega (arith, ints, clamps) in
      spawns-child 2 f.spawned 1 (f.spawned + 1) _ _ (inr phase) inside (omega arith) (inl zero) (inl refl) (omega arith) (omega arith)
      (omega (arith, ints, clamps)) (grind (arith, set-there, ints, clamps))

  -- phase 0: the board is known, and there are choices
  pub next-opened : (own opp : ℕ) → f.phase ≡ 0 → negsuc 199999 ≤ℤ f.alpha → 0 < f.depth → 0 < length (choices (cells_of own opp)) →
      (children ≡ []) × Fits (opened_frame f own opp (length (choices (cells_of own opp)))) [] Neither
  next-opened own opp phase least deep some =
      let n : ℕ = length (choices (cells_of own opp)) in
      let len : length (replicate {A = ℕ} n 0) ≡ n = grind (arith, common_steps) in
      let zeros : (k : ℕ) → slice_index (replicate n 0) k ≡ 0 = λ k. zero-at n k in
      let window : f.alpha <ℤ f.beta = fits.window in (
        fits.idle (λ e. absurd (omega arith)) (λ e. absurd (omega arith)),
        record {
          window = fits.window;
          marked = λ (e : 2 ≡ 1). absurd (omega arith);
          idle = λ no2 _. absurd (no2 refl);
          searching = λ _. record {
            places = len;
            some = omega arith;
            deep = deep;
            spawned_in = omega arith;
            unspawned = λ k _ _. zeros k;
            below = omega (arith, ints);
            settled = λ k _ is. absurd (omega (arith, zeros k, is));
            found = λ (higher : f.alpha <ℤ negsuc 199999). absurd (omega (arith, ints));
          };
          done = λ (e : 2 ≡ 4). absurd (omega arith);
          table = tabled-zeros (value_at (record f { own = own; opp = opp })) n;
          whole = λ _ _. len ∙ ap (λ (cs : List Choice). length cs) (sym (entered-deep f.depth (cells_of own opp) deep));
          kin = tt;
          once = λ i. omega arith;
        },
      )

  -- or it is computed outside, a root only where it gets no places
  pub next-computed : (own opp : ℕ) → f.phase ≡ 0 → length f.statuses ≡ 0 → (f.role ≡ 0 → length (entered f.depth (cells_of own opp)) ≡ 0) →
      (children ≡ []) × Fits (record f { own = own; opp = opp; phase = 1 }) [] Computes
  next-computed own opp phase none whole = (
    fits.idle (λ e. absurd (omega arith)) (λ e. absurd (omega arith)),
    record {
      window = fits.window;
      marked = refl;
      idle = λ _ _. refl;
      searching = ⊎_elim (λ (e : 1 ≡ 2). absurd (omega arith)) (λ (e : 1 ≡ 3). absurd (omega arith));
      done = λ (e : 1 ≡ 4). absurd (omega arith);
      table = tabled-none (value_at (record f { own = own; opp = opp })) f.statuses f.rests none (fits.table.places ∙ none);
      whole = λ root _. none ∙ sym (whole root);
      kin = tt;
      once = λ i. omega arith;
    },
  )

-- and its answer is accepted
computing-known : (f : Frame) → f.phase ≡ 1 → f.phase ≢ 0
computing-known f one = λ (zero : f.phase ≡ 0). absurd (omega arith)

pub accepted : (f : Frame) (score : ℤ) (choice : ℕ) → Fits f [] Computes → IsDoneFrame (record f { phase = 4; best = score; choice = choice }) →
    Fits (record f { phase = 4; best = score; choice = choice }) [] Neither
accepted f score choice fits done = grind (arith, computing-known)

-- What the acts of a frame that fits leave.

abbrev pub Lists : Type 0
Lists = List (List ℕ)

-- the frames of these words
abbrev pub frames : Lists → List Frame
frames words = map frame_of words

-- stores at places that are there
abbrev pub IsInside : ℕ → Change → Type 0
IsInside n (Status i status rest) = i < n
IsInside n _ = Unit {0}

abbrev pub AreInside : ℕ → List Change → Type 0
AreInside n [] = Unit {0}
AreInside n (change ∷ changes) = IsInside n change × AreInside n changes

inside-place : (n : ℕ) (change : Change) → IsInside n change → (pair_of change).0 < 12 + n
inside-place n change h3 = grind arith

inside-stored : (changes : List Change) (w : List ℕ) (n : ℕ) → length w ≡ 12 + n → AreInside n changes → is_outside (pairs_of changes) w ≡ false
inside-stored [] w n len h = refl
inside-stored (change ∷ changes) w n len h = grind (arith, inside-stored changes w n, inside-place, lt-leb)

-- what is stored can be read again, lies inside, and leaves frame g in its ranges, with the same goal, which knows its board, of the words o and p
pub record AreTaken (f : Frame) (changes : List Change) (o p : ℕ) (g : Frame) : Type 0 where
  pub safe : AreSafe changes
  pub inside : AreInside f.count changes
  pub is : changed_by changes f ≡ g
  pub count : g.count ≡ f.count
  pub form : IsFrame g
  pub goal : HasSameGoal f g
  pub own_is : g.own ≡ o
  pub opp_is : g.opp ≡ p
  pub known : g.phase ≢ 0

-- so in words of the form, which keep the form
pub record IsGoodStore (own : List ℕ) (changes : List Change) (o p : ℕ) (g : Frame) : Type 0 where
  pub good : is_outside (pairs_of changes) own ≡ false
  pub is : frame_of (written changes own) ≡ g
  pub formed : IsFormed (written changes own)
  pub goal : HasSameGoal (frame_of own) g
  pub own_is : g.own ≡ o
  pub opp_is : g.opp ≡ p
  pub known : g.phase ≢ 0

pub good-store : (own : List ℕ) (changes : List Change) (o p : ℕ) (g : Frame) → IsFormed own → AreTaken (frame_of own) changes o p g →
    IsGoodStore own changes o p g
good-store own changes o p g form t = record {
  good = inside-stored changes own (frame_of own).count form.places t.inside;
  is = frame-stored changes own t.safe (omega (arith, form.places)) ∙ t.is;
  formed = formed-stored changes own g form t.safe t.is t.count t.form;
  goal = t.goal;
  own_is = t.own_is;
  opp_is = t.opp_is;
  known = t.known;
}

-- an act can be done; the frame has the form and fits after it, with the same goal and the board of the words o and p, and a new child fits
pub record IsGoodAct (own : List ℕ) (children : Lists) (o p : ℕ) (act : Act) : Type 0 where
  pub good : is_bad_act own (has_one children) act ≡ false
  pub formed : IsFormed (grown act.after (stored act.stores own))
  pub fits : Fits (frame_of (grown act.after (stored act.stores own))) (frames (children_after act.after children)) (mark_after act.after children)
  pub child : NewChildFits AreFitting act.after
  pub goal : HasSameGoal (frame_of own) (frame_of (grown act.after (stored act.stores own)))
  pub own_is : (frame_of (grown act.after (stored act.stores own))).own ≡ o
  pub opp_is : (frame_of (grown act.after (stored act.stores own))).opp ≡ p
  pub known : (frame_of (grown act.after (stored act.stores own))).phase ≢ 0

-- so it is where the frame after it is known to be g
module _ (own : List ℕ) {children : Lists} {o p : ℕ} where
  good-by : {act : Act} (g : Frame) → frame_of (grown act.after (stored act.stores own)) ≡ g → is_bad_act own (has_one children) act ≡ false →
      IsFormed (grown act.after (stored act.stores own)) → Fits g (frames (children_after act.after children)) (mark_after act.after children) →
      NewChildFits AreFitting act.after → HasSameGoal (frame_of own) g → g.own ≡ o → g.opp ≡ p → g.phase ≢ 0 → IsGoodAct own children o p act
  good-by g is good formed fits child goal own_is opp_is known = grind arith

  -- and where the act doesn't grow it
  good-act : (changes : List Change) (g : Frame) (after : Continuation) → IsFormed own → AreTaken (frame_of own) changes o p g →
      written changes own ≡ grown after (written changes own) → is_bad_then (length own) (has_one children) after ≡ false →
      Fits g (frames (children_after after children)) (mark_after after children) → NewChildFits AreFitting after →
      IsGoodAct own children o p (record { stores = pairs_of changes; after = after })
  good-act changes g after form left same fine fits child =
      let s = good-store own changes o p g form left in
      good-by g (ap frame_of (sym same) ∙ s.is) (or_from _ _ s.good fine) (subst IsFormed same s.formed) fits child s.goal s.own_is s.opp_is s.known

-- an act that leaves the frame's board as it is
abbrev pub IsGoodHere : List ℕ → Lists → Act → Type 0
IsGoodHere own children act = IsGoodAct own children (frame_of own).own (frame_of own).opp act

-- a frame has a status for each choice
pub status-count : (w : List ℕ) → IsFormed w → length (frame_of w).statuses ≡ (frame_of w).count
status-count w h = omega (arith, length-map (drop 12 w) status_of, length-drop 12 w, h.places)

-- the rest of each choice is one
pub rest-there : (w : List ℕ) (i : ℕ) → IsFormed w → is_rest (rest_at (frame_of w) i) ≡ true
rest-there w i h = rests-are (drop 12 w) i h.entries

-- a frame that goes on searching, or ends
module _ (f : Frame) (phase choice spawned : ℕ) (best : ℤ) (st rests : List ℕ) where
  abbrev gone_on : Frame
  gone_on = record f { phase = phase; choice = choice; spawned = spawned; best = best; statuses = st; rests = rests }

  going-form : IsFrame f → IsInSearch f → 1 < phase → phase ≤ 4 → choice ≤ 65 → spawned ≤ f.count → least ≤ℤ best → best ≤ℤ greatest → IsFrame gone_on
  going-form form before later last small few low high = grind arith

  pub taken : (changes : List Change) → IsFrame f → IsInSearch f → 1 < phase → phase ≤ 4 → choice ≤ 65 → spawned ≤ f.count → least ≤ℤ best → best ≤ℤ greatest →
      AreSafe changes → AreInside f.count changes → changed_by changes f ≡ gone_on → AreTaken f changes f.own f.opp gone_on
  taken changes form before later last small few low high safe inside is = grind (arith, going-form)

pub searching-late : (f : Frame) → IsInSearch f → 1 < f.phase
searching-late f h2 = grind arith

late-known : (phase : ℕ) → 1 < phase → phase ≢ 0
late-known phase h = λ (e : phase ≡ 0). absurd (omega arith)

-- a frame that hasn't begun has the form
pub new-form : (f : Frame) → IsLeaf f.own f.opp f.depth f.alpha f.beta → f.role ≤ 3 → f.phase ≡ 0 → f.choice ≤ 65 → f.spawned ≡ 0 →
    f.best ≡ unscored → f.count ≡ 0 → IsFrame f
new-form f leaf role phase choice spawned best count = grind arith

-- the words of a new child
abbrev pub new_words : Frame → ℕ → ℕ → ℤ → ℤ → List ℕ
new_words f role i low high = padded (given_words (f.depth - plies (choice_at f i)) low high role i) frame_size

module _ (f : Frame) (role i : ℕ) (low high : ℤ) (bottom : least ≤ℤ low) where
  -- the frame in them
  pub child-frame : least ≤ℤ high → frame_of (new_words f role i low high) ≡ new_child f role i low high
  child-frame h = grind (arith, held)

  -- a new child has the form, and fits
  pub child-fits : IsFrame f → role ≤ 3 → high ≤ℤ greatest → Fits (new_child f role i low high) [] Neither →
      AreFitting (new_words f role i low high) [] Neither
  child-fits form small h fits =
      let window : low <ℤ high = fits.window in
      let is = child-frame (omega (arith, ints)) in
      let shallow : f.depth ≤ greatest_depth = form.leaf.shallow in
      let frame = new-form (new_child f role i low high) (record { disjoint = refl; shallow = omega arith; low = bottom; window = window; high = h }) small refl
      (omega arith) refl refl refl in
      record {
        formed = formed-passes (new_words f role i low high) (record { places = refl; entries = refl; frame = subst IsFrame (sym is) frame });
        frame = subst (λ (g : Frame). Fits g [] Neither) (sym is) fits;
      }

-- the child's words behind the other children's
children-behind : {f : Frame} (c : Frame) (children : Lists) (child : List ℕ) → frame_of child ≡ c → Fits f (frames children ++ c ∷ []) Neither →
    Fits f (frames (children ++ child ∷ [])) Neither
children-behind c children child is fits = grind (arith, map-append)

-- no children: a list whose frames are none
no-children : (children : Lists) → frames children ≡ [] → [] ≡ children
no-children [] none = refl
no-children (child ∷ children) none = absurd (cc)

pub failed-told : (j n s : ℕ) → true ≡ (nat_lt j n && (s == 3)) → (j < n) × (s ≡ 3)
failed-told j n s e = (grind (arith, nat_tests), grind (arith, nat_tests))

-- every choice before j is settled
pub record IsAtTests (f : Frame) (j : ℕ) : Type 0 where
  pub settled : (k : ℕ) → k < j → slice_index f.statuses k ≡ 2
  pub inside : j ≤ length f.statuses

-- the acts of a frame in words of the form
module _ (own : List ℕ) (children : Lists) (form : IsFormed own) where
  abbrev this : Frame
  this = frame_of own

  -- to open a child for choice i, inside the frame's window
  spawn-good : (changes : List Change) (role i status spawned : ℕ) (low high : ℤ) → IsInSearch this → AreSafe changes → AreInside this.count changes →
      changed_by changes this ≡ with_place this i status spawned → spawned ≤ this.count → role ≤ 3 → neg_ℤ this.beta ≤ℤ low → high ≤ℤ neg_ℤ this.alpha →
      Spawns this (frames children) role i status spawned low high →
      IsGoodHere own children (record { stores = pairs_of changes; after = spawns this role i low high })
  spawn-good changes role i status spawned low high before safe inside is few small from to both =
      let late = form.frame.late (searching-late this before) in
      let leaf : IsLeaf this.own this.opp this.depth this.alpha this.beta = form.frame.leaf in
      let bottom : least ≤ℤ this.alpha = leaf.low in
      let top : this.beta ≤ℤ greatest = leaf.high in
      let l : least ≤ℤ low = omega (arith, ints) in
      let h : high ≤ℤ greatest = omega (arith, ints) in
      let window : low <ℤ high = both.1.window in
      let child = child-frame this role i low high l (omega (arith, ints)) in
      good-act own changes (with_place this i status spawned) (spawns this role i low high) form
      (taken this _ _ _ _ _ _ changes form.frame before (searching-late this before) form.frame.phase form.frame.choice few late.0 late.1 safe inside is)
      refl refl (children-behind _ children (new_words this role i low high) child both.0) (child-fits this role i low high l form.frame small h both.1)

  -- to return where no child is left
  return-good : (changes : List Change) (g : Frame) → AreTaken this changes this.own this.opp g → frames children ≡ [] → Fits g [] HasReturned →
      IsGoodHere own children (record { stores = pairs_of changes; after = Return })
  return-good changes g left none fits =
      subst (λ (cs : Lists). IsGoodHere own cs (record { stores = pairs_of changes; after = Return })) (no-children children none)
      (good-act own changes g Return form left refl refl fits tt)

  module _ (fits : Fits this (frames children) Neither) where
    -- to do nothing but wait
    wait-good : this.phase ≢ 0 → IsGoodHere own children (record { stores = []; after = Wait })
    wait-good known = grind arith

    -- phase 2
    pub first-good : (none : Bool) → none ≡ (this.spawned == 0) → this.phase ≡ 2 → IsGoodHere own children (first_search none this)
    first-good true e phase =
        let counts = form.frame.counts (inl phase) in
        let some : 0 < this.count = counts.1 in
        let window : this.alpha <ℤ this.beta = fits.window in
        spawn-good (Spawned 1 ∷ Status 0 1 (rest_at this 0) ∷ []) 1 0 1 1 _ _ (inl phase) (tt, ((omega arith, rest-there own 0 form), tt)) (tt, (some, tt)) refl
        (omega arith) (omega arith) (omega (arith, ints)) (omega (arith, ints)) (next-first this (frames children) fits phase (eqb-true this.spawned 0 (sym e)))
    first-good false e phase = wait-good (late-known this.phase (searching-late this (inl phase)))

    -- phase 3
    pub tests-good : (failed more all : Bool) (j : ℕ) → IsAtTests this j → failed ≡ (nat_lt j (length this.statuses) && (slice_index this.statuses j == 3)) →
        more ≡ nat_lt this.spawned (length this.statuses) → all ≡ nat_le (length this.statuses) j → this.phase ≡ 3 →
        IsGoodHere own children (tests failed more all this j)
    tests-good true more all j at ef em ea phase =
        let told = failed-told j (length this.statuses) (slice_index this.statuses j) ef in
        let window : this.alpha <ℤ this.beta = fits.window in
        let below : this.best <ℤ this.beta = (fits.searching (inr phase)).below in
        let inside : j < this.count = omega (arith, status-count own form, told.0) in
        spawn-good (Status j 4 (rest_at this j) ∷ []) 3 j 4 this.spawned _ _ (inr phase) ((omega arith, rest-there own j form), tt) (inside, tt) refl
        form.frame.spawned (omega arith) (omega (arith, ints)) (omega (arith, ints, clamps))
        (next-again this (frames children) fits j phase told.0 told.1 at.settled)
    tests-good false true all j at ef em ea phase =
        let told : this.spawned < length this.statuses = ltb-true this.spawned (length this.statuses) (sym em) in
        let window : this.alpha <ℤ this.beta = fits.window in
        let below : this.best <ℤ this.beta = (fits.searching (inr phase)).below in
        let inside : this.spawned < this.count = omega (arith, status-count own form, told) in
        spawn-good (Spawned (this.spawned + 1) ∷ Status this.spawned 1 (rest_at this this.spawned) ∷ []) 2 this.spawned 1 (this.spawned + 1) _ _ (inr phase)
        (tt, ((omega arith, rest-there own this.spawned form), tt)) (tt, (inside, tt)) refl (omega arith) (omega arith) (omega (arith, ints, clamps))
        (omega (arith, ints, clamps)) (next-test this (frames children) fits phase told)
    tests-good false false true j at ef em ea phase =
        let late = form.frame.late (searching-late this (inr phase)) in
        let far : length this.statuses ≤ j = leb-true (length this.statuses) j (sym ea) in
        let done = next-settled this (frames children) fits phase (λ k below. at.settled k (omega arith)) in
        return-good (Phase 4 ∷ []) (record this { phase = 4 })
        (taken this 4 this.choice this.spawned this.best this.statuses this.rests (Phase 4 ∷ []) form.frame (inr phase)
        (omega arith) (omega arith) form.frame.choice form.frame.spawned late.0 late.1 (tt, tt) (tt, tt) refl) done.0 done.1
    tests-good false false false j at ef em ea phase = wait-good (late-known this.phase (searching-late this (inr phase)))

    -- phase 4
    pub done-good : this.phase ≡ 4 → IsGoodHere own children returns
    done-good phase =
        let done = next-done this (frames children) fits phase in
        let goal : HasSameGoal this this = record { depth = refl; alpha = refl; beta = refl; role = refl; number = refl } in
        let known : this.phase ≢ 0 = λ e. absurd (omega (arith, e)) in
        let left : AreTaken this [] this.own this.opp this =
        record { safe = tt; inside = tt; is = refl; count = refl; form = form.frame; goal = goal; own_is = refl; opp_is = refl; known = known } in
        return-good [] this left done.0 done.1

-- phase 0: the frame's words, as they store its board and grow by an entry for each choice
module _ (own : List ℕ) (o p n : ℕ) (len : length own ≡ 12) where
  opened-length : length (written (opened_changes o p n) own) ≡ 12
  opened-length = length-stored (pairs_of (opened_changes o p n)) own ∙ len

  pub opened-is : frame_of (written (opened_changes o p n) own ++ replicate n 0) ≡ opened_frame (frame_of own) o p n
  opened-is =
      frame-grown (written (opened_changes o p n) own) n opened-length
      ∙ ap (λ (g : Frame). record g { statuses = replicate n 0; rests = replicate n 0 })
      (frame-stored (opened_changes o p n) own (tt, (tt, (tt, (omega (arith, ints), (tt, (tt, (tt, tt))))))) (omega arith))

length-grown : (w : List ℕ) (n : ℕ) → length w ≡ 12 → length (w ++ replicate n 0) ≡ 12 + n
length-grown w n len = grind (arith, common_steps)

entries-grown : (w : List ℕ) (n : ℕ) → length w ≡ 12 → HasEntries (w ++ replicate n 0)
entries-grown w n len = ap are_entries (drop-grown w (replicate n 0) len) ∙ entries-zeros n

grow-fine : (length n : ℕ) → length ≡ 12 → 0 < n → n ≤ 64 → ((n == 0) || nat_lt 128 (length + n)) ≡ false
grow-fine length n len some few = grind (arith, nat_tests)

module _ (own : List ℕ) (children : Lists) (o p : ℕ) (apart : bit_and o p ≡ 0) (phase : (frame_of own).phase ≡ 0) (form : IsFormed own)
    (fits : Fits (frame_of own) (frames children) Neither) where
  pub opening-good : (computed : Bool) → (computed ≡ false → (0 < (frame_of own).depth) × (0 < length (choices (cells_of o p)))) →
      (computed ≡ true → (frame_of own).role ≡ 0 → length (entered (frame_of own).depth (cells_of o p)) ≡ 0) →
      IsGoodAct own children o p (opening computed o p (length (choices (cells_of o p))))
  opening-good true deep over =
      let f : Frame = frame_of own in
      let early = form.frame.early (omega arith) in
      let done = next-computed f (frames children) fits o p phase (status-count own form ∙ early.1) (over refl) in
      let leaf = form.frame.leaf in
      let changes : List Change = OwnBits o ∷ OppBits p ∷ Phase 1 ∷ [] in
      let frame : IsFrame (record f { own = o; opp = p; phase = 1 }) = record {
        leaf = record { disjoint = apart; shallow = leaf.shallow; low = leaf.low; window = leaf.window; high = leaf.high };
        role = form.frame.role;
        phase = omega arith;
        choice = form.frame.choice;
        spawned = form.frame.spawned;
        early = λ _. early;
        late = λ (e : 1 < 1). absurd (omega arith);
        counts = ⊎_elim (λ (e : 1 ≡ 2). absurd (omega arith)) (λ (e : 1 ≡ 3). absurd (omega arith));
      } in
      subst (λ (cs : Lists). IsGoodAct own cs o p (record { stores = pairs_of changes; after = Compute })) (no-children children done.0)
      (good-act own changes (record f { own = o; opp = p; phase = 1 }) Compute form (grind arith) refl refl done.1 tt)
  opening-good false deep over =
      let f : Frame = frame_of own in
      let n : ℕ = length (choices (cells_of o p)) in
      let d = deep refl in
      let early = form.frame.early (omega arith) in
      let none : f.count ≡ 0 = early.1 in
      let len : length own ≡ 12 = omega (arith, form.places) in
      let done = next-opened f (frames children) fits o p phase form.frame.leaf.low d.0 d.1 in
      let words : List ℕ = written (opened_changes o p n) own in
      let is : frame_of (words ++ replicate n 0) ≡ opened_frame f o p n = opened-is own o p n len in
      let same : length words ≡ 12 = opened-length own o p n len in
      let frame : IsFrame (opened_frame f o p n) = grind (arith, ints) in
      let act : Act = record { stores = pairs_of (opened_changes o p n); after = Grow n } in
      let inside = inside-stored (opened_changes o p n) own f.count form.places (tt, (tt, (tt, (tt, (tt, (tt, (tt, tt))))))) in
      subst (λ (cs : Lists). IsGoodAct own cs o p act) (no-children children done.0)
      (good-by own {act = act} (opened_frame f o p n) is (or_from _ _ inside (grow-fine (length own) n len d.1 (choices-fit (cells_of o p))))
      (record {
        places = length-grown words n same ∙ ap (λ (g : Frame). 12 + g.count) (sym is);
        entries = entries-grown words n same;
        frame = subst IsFrame (sym is) frame;
      }) done.1 tt
      (record { depth = refl; alpha = refl; beta = refl; role = refl; number = refl }) refl refl (λ (e : 2 ≡ 0). absurd (omega arith)))
