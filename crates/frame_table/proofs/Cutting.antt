-- The frame table's slot store of one tenant, of which some slots were removed: what is left is sound.
use Rattle.frame_table.proofs.Changes.{cleared, keeps-cut-at, leaf-closed}
use Rattle.frame_table.proofs.Common.{AllAbove, AllByRecursion, AllHere, AreApartKeys, AreKeys, Bool, Each, Frame, HasSerial, IsCutAt, IsHere, IsKeyAt, IsSeenAt, IsSlotStore, IsTree, KeepsTree, KnowsParent, Leaves, List, None, Option, ReadyFrame, Rises, Slab, Slot, Some, StoredSlot, Updates, [], aborted, all-map, ap, append-nil, arith, child_slots, children_of, drop, eq-eqb, eqb, eqb-true, false, false≢true, filter, filter-append, frame_at, frames_under, get, get_or, goes_under, gone_among, gone_values, has_number, has_slot_under, is_child_of, kept_slots, length, length-append, length-map, length-remove, length-set, map, map-set_same, ne_eqb, not, or_right, ready_in, recounted, refl, remove, serials_of, set, slab_len, slice_index, slots_in, suc, sym, take, take-map, take-set, true, values_of, zero, ℕ, ◌++◌, ◌+◌, ◌<◌, ◌∙◌, ◌∷◌, ◌≡◌, ◌≢◌, ◌≤◌}
use Rattle.frame_table.proofs.Finds.{keeps-rises}
use Rattle.frame_table.proofs.Forest.{IsClosed, IsClosed-from-follows, above-at, serial-read, stays_in}
use Rattle.frame_table.proofs.Keys.{key-found, knows-key}
use Rattle.frame_table.proofs.Places.{length-filter-le, remove-rising, rises-by-filter}
use Rattle.frame_table.proofs.Readies.{few-ready_in, ready_in-append, ready_in-take}
use Rattle.frame_table.proofs.SlotStores.{apart-before, has_number-append, has_number-at, here-found, here-read, slot-read, slots_in-length}
use Rattle.frame_table.proofs.TreeChanges.{no-child-found}
use Rattle.frame_table.proofs.TreeLaws.{children-by-paths, filter-every, filter-none, found-each, found-own, tree-induction, tree-rising, under-through}
use Rattle.std.proofs.Common.{drop_at, length-take-le as length-front, nat_lt, take-append-drop, take_at}
use Rattle.std.proofs.lemmas.List.Filters.{length-filter_both}

-- a filter leaves the keys that pass it
module _ (keep : ℕ → Bool) where
  has_number-filter : (keys : List ℕ) (a : ℕ) → has_number keys a ≡ true → keep a ≡ true → has_number (filter keep keys) a ≡ true
  has_number-filter [] a has _ = absurd (false≢true has)
  has_number-filter (k ∷ keys) a has kept = grind (arith, has_number-filter keys a)

  no-key-filter : (keys : List ℕ) (a : ℕ) → has_number keys a ≡ false → has_number (filter keep keys) a ≡ false
  no-key-filter [] a _ = refl
  no-key-filter (k ∷ keys) a none = grind (arith, no-key-filter keys a)

  apart-filter : (keys : List ℕ) → AreApartKeys keys → AreApartKeys (filter keep keys)
  apart-filter [] a = tt
  apart-filter (k ∷ keys) a = grind (arith, apart-filter keys, no-key-filter)

-- a list of keys with one more in front
module _ (k : ℕ) where
  head-key : (keys : List ℕ) → has_number (k ∷ keys) k ≡ true
  head-key _ = rw (eq-eqb k k refl) refl

  tail-key : (j : ℕ) (keys : List ℕ) → has_number keys j ≡ true → has_number (k ∷ keys) j ≡ true
  tail-key j keys h = or_right (eqb k j) (has_number keys j) h

-- all of these keys are among those
abbrev AreAmong : List ℕ → List ℕ → Type 0
AreAmong some all = (k : ℕ) → has_number some k ≡ true → has_number all k ≡ true

-- P holds of each of these keys and the slot under it
abbrev pub OfEach : {T : Type 0} → Slab (StoredSlot T) → List ℕ → (ℕ → StoredSlot T → Type 0) → Type 0
OfEach slab keys P = (k : ℕ) (x : StoredSlot _) → has_number keys k ≡ true → get slab k ≡ Some x → P k x

-- another number than this
abbrev is_not : ℕ → ℕ → Bool
is_not n k = not (eqb k n)

-- which slots stay, by key and by serial, and how those are kept
pub record Stays {T : Type 0} (old new : Slab (StoredSlot T)) (by_key by_serial : ℕ → Bool) (keys : List ℕ) : Type 0 where
  pub agree : OfEach old keys (λ k x. by_key k ≡ by_serial x.slot.serial)
  pub renew : OfEach old keys (λ k x. by_key k ≡ true → get new k ≡ Some x)

among-more : (some all : List ℕ) (k : ℕ) → AreAmong some all → has_number all k ≡ true → AreAmong (some ++ k ∷ []) all
among-more some all k a there j has = grind (arith, has_number-append, eqb-true)

-- a slot was taken away under its key
pub record HasTaken {T : Type 0} (old new : Slab (StoredSlot T)) (order : List ℕ) (room places at key : ℕ) (kept : StoredSlot T) : Type 0 where
  pub store : IsSlotStore old order room places
  pub rise : Rises (slots_in old order)
  pub within : at < length order
  pub read : key ≡ get_or order at key
  pub was : get old key ≡ Some kept
  pub others : (k : ℕ) → k ≢ key → get new k ≡ get old k

-- the list without the key at a place
remove-key : (keys : List ℕ) (i d : ℕ) → AreApartKeys keys → i < length keys → remove keys i ≡ filter (λ k. not (eqb k (get_or keys i d))) keys
remove-key [] i d a lt = absurd (omega arith)
remove-key (k ∷ keys) zero d a lt = rw (eq-eqb k k refl) (sym (all-stay keys a.0))
  where
    all-stay : (keys : List ℕ) → has_number keys k ≡ false → filter (λ j. not (eqb j k)) keys ≡ keys
    all-stay [] _ = refl
    all-stay (j ∷ keys) none = grind (arith, all-stay keys)
remove-key (k ∷ keys) (suc i) d a lt = let there = has_number-at keys i d (omega arith) in grind (arith, there, eqb-true, remove-key keys i d)

-- what stands under a parent's key
pub record IsParentKey {T : Type 0} (slab : Slab (StoredSlot T)) (keys : List ℕ) (parent : Option ℕ) (key : ℕ) : Type 0 where
  pub name : ℕ
  pub at : ℕ
  pub kept : StoredSlot T
  pub is : parent ≡ Some name
  pub key_at : IsKeyAt slab keys name at key
  pub found : get slab key ≡ Some kept

-- the ready frames after an abort: those below the aborted frame, and those among the slots from its place on
pub record CutsReady {T : Type 0} (xs zs : List (Slot T)) (i n places : ℕ) (frames : List ReadyFrame) : Type 0 where
  pub within : i ≤ length zs
  pub front : take i (serials_of zs) ≡ take i (serials_of xs)
  pub room : length (filter (λ frame. nat_lt frame.serial n) frames) + length zs ≤ places + i
  pub ready : filter (λ frame. nat_lt frame.serial n) frames ++ ready_in (drop i zs) ≡ ready_in zs

module _ {T : Type 0} where
  -- the slot of a serial
  named-slot : (p : ℕ) (o : Option (StoredSlot T)) → HasSerial p o → (y : StoredSlot T) × (o ≡ Some y) × (y.slot.serial ≡ p)
  named-slot p None h = absurd h
  named-slot p (Some y) h = (y, refl, h)

  -- those that stay are here as before, and stand for the same slots
  module _ {old new : Slab (StoredSlot T)} {by_key by_serial : ℕ → Bool} {all : List ℕ} (s : Stays old new by_key by_serial all) where
    parent-stays : (before : List ℕ) (parent above : Option ℕ) → AreAmong before all → ((p : ℕ) → parent ≡ Some p → by_serial p ≡ true) →
        KnowsParent old before parent above → KnowsParent new (filter by_key before) parent above
    parent-stays before (Some p) (Some a) b up k =
        let y = named-slot p (get old a) k.1 in
        let stays : by_key a ≡ true = s.agree a y.0 (b a k.0) y.1 ∙ (ap by_serial y.2 ∙ up p refl) in
        (has_number-filter by_key before a k.0 stays, rw (s.renew a y.0 (b a k.0) y.1 stays) y.2)
    parent-stays before parent above b up k = grind arith

    here-filter : (before keys : List ℕ) → AreAmong before all → AreAmong keys all → IsClosed by_serial (slots_in old keys) → AllHere old before keys →
        AllHere new (filter by_key before) (filter by_key keys)
    here-filter _ [] b w c h = tt
    here-filter before (k ∷ keys) b w c h =
        let found = here-found old before (get old k) h.0 in
        let x = found.0 in
        let closed = rw found.1 at c in
        let here = rw found.1 at h.0 in
        let there = w k (head-key k keys) in
        let agree = s.agree k x there found.1 in
        let renew = s.renew k x there found.1 in
        let knows : by_key k ≡ true → KnowsParent new (filter by_key before) x.slot.parent x.above =
        λ stays. parent-stays before x.slot.parent x.above b (λ p is. closed.0 p is (sym agree ∙ stays)) here in
        let rest = here-filter (before ++ k ∷ []) keys (among-more before all k b there) (λ j has. w j (tail-key k j keys has)) closed.1 h.1 in
        let more = filter-append by_key before (k ∷ []) in
        grind (arith, renew, knows, rest, more, append-nil)

    stays-here : IsClosed by_serial (slots_in old all) → AllHere old [] all → AllHere new [] (filter by_key all)
    stays-here closed h = here-filter [] all (λ k has. absurd (false≢true has)) (λ k has. has) closed h

    -- those slots are the chosen ones
    slots-filter : (before keys : List ℕ) → AreAmong keys all → AllHere old before keys →
        slots_in new (filter by_key keys) ≡ filter (λ slot. by_serial slot.serial) (slots_in old keys)
    slots-filter _ [] w h = refl
    slots-filter before (k ∷ keys) w h =
        let found = here-found old before (get old k) h.0 in
        let there = w k (head-key k keys) in
        let chosen = s.agree k found.0 there found.1 in
        let one = s.renew k found.0 there found.1 in
        let rest = slots-filter (before ++ k ∷ []) keys (λ j has. w j (tail-key k j keys has)) h.1 in
        grind (arith, found.1, chosen, one, rest)

    stays-slots : AllHere old [] all → slots_in new (filter by_key all) ≡ filter (λ slot. by_serial slot.serial) (slots_in old all)
    stays-slots h = slots-filter [] all (λ k has. has) h

  -- what an abort leaves of a slot store: the slots that stay, under their keys
  module _ {under : ℕ} {old new : Slab (StoredSlot T)} {order : List ℕ} (l : Leaves under (slots_in old order) order old new) where
    cut-stays : Stays old new (has_slot_under new) (stays_in under (slots_in old order)) order
    cut-stays = record {
      agree = λ k x has is. let left = l.left k in grind (arith, left, is, has);
      renew = λ k x has is stays. let left = l.left k in grind (arith, left, is, has, stays);
    }

    pub cut-slots : AllHere old [] order → slots_in new (filter (has_slot_under new) order) ≡ kept_slots under (slots_in old order)
    cut-slots h = stays-slots cut-stays h

    pub cut-store : {room places : ℕ} (had values : List T) → IsSlotStore old order room places → IsCutAt under (slots_in old order) →
        values ≡ had ++ gone_values under (slots_in old order) → slab_len new + length values ≡ slab_len old + length had → new.capacity ≡ old.capacity →
        IsSlotStore new (filter (has_slot_under new) order) room places
    cut-store had values s c written len capacity =
        let keep = stays_in under (slots_in old order) in
        let slots = slots_in old order in
        let here = stays-here cut-stays (IsClosed-from-follows keep under slots c.follows) s.here in
        let gone = length-map (filter (λ slot. not (keep slot.serial)) slots) (λ slot. slot.value) in
        let parts = length-filter_both (λ (slot : Slot T). keep slot.serial) (λ (slot : Slot T). not (keep slot.serial)) (λ x. refl) slots in
        let all = slots_in-length old [] order s.here in
        let left = sym (slots_in-length new [] (filter (has_slot_under new) order) here) ∙ ap length (cut-slots s.here) in
        let apart = apart-filter (has_slot_under new) order s.apart in
        let less = length-filter-le (has_slot_under new) order in
        let counted : slab_len new ≡ length (filter (has_slot_under new) order) = omega (arith, len, ap length written, length-append had (gone_values under slots), gone, parts, all, left, s.counted) in
        grind arith

  -- what is there is one slot
  by-one : (o : Option (StoredSlot T)) (x y : StoredSlot T) → o ≡ Some x → o ≡ Some y → x.slot.serial ≡ y.slot.serial
  by-one o x y a b = grind arith

  pub has-taken : {old new : Slab (StoredSlot T)} {order : List ℕ} {room places at key : ℕ} {kept : StoredSlot T} → IsSlotStore old order room places →
      Rises (slots_in old order) → at < length (slots_in old order) → key ≡ get_or order at key → get old key ≡ Some kept → Updates old new key None →
      HasTaken old new order room places at key kept
  has-taken {old} {order = order} store rise within read was u = let long = slots_in-length old [] order store.here in grind arith

  module _ (slab : Slab (StoredSlot T)) where
    -- a serial above another, by its key
    above-key : (before keys : List ℕ) (n : ℕ) → AllHere slab before keys → AllAbove n (slots_in slab keys) → OfEach slab keys (λ k x. n < x.slot.serial)
    above-key _ [] n h _ k x has _ = absurd (false≢true has)
    above-key before (j ∷ keys) n h above k x has is = grind (arith, above-key (before ++ j ∷ []) keys n, here-found)

    -- slots of one serial stand under one key
    same-key : (before keys : List ℕ) (k j : ℕ) (x y : StoredSlot T) → AllHere slab before keys → Rises (slots_in slab keys) → has_number keys k ≡ true →
        has_number keys j ≡ true → get slab k ≡ Some x → get slab j ≡ Some y → x.slot.serial ≡ y.slot.serial → k ≡ j
    same-key _ [] k j x y h _ has_k _ _ _ _ = absurd (false≢true has_k)
    same-key before (i ∷ keys) k j x y h rise has_k has_j is_k is_j same =
        let found = here-found slab before (get slab i) h.0 in
        let both = rw found.1 at rise in
        let above = above-key (before ++ i ∷ []) keys found.0.slot.serial h.1 both.0 in
        grind (arith, found.1, both, above j y, above k x, same-key (before ++ i ∷ []) keys k j x y)

  -- what is left when it is taken away, where it was no slot's parent
  module _ {old new : Slab (StoredSlot T)} {order : List ℕ} {room places at key : ℕ} {kept : StoredSlot T} (t : HasTaken old new order room places at key kept) where
    taken-stays : Stays old new (is_not key) (is_not kept.slot.serial) order
    taken-stays =
        let here = t.store.here in let rise = t.rise in grind (arith, has_number-at, by-one, eq-eqb, ne_eqb, same-key, false≢true)

    within : at < length (slots_in old order)
    within = rw (slots_in-length old [] order t.store.here) t.within

    pub taken-read : kept.slot ≡ get_or (slots_in old order) at kept.slot
    taken-read = sym (slot-read old order at key t.store.here t.within t.read kept.slot t.was)

    left-keys : remove order at ≡ filter (is_not key) order
    left-keys = remove-key order at key t.store.apart t.within ∙ ap (λ j. filter (λ k. not (eqb k j)) order) (sym t.read)

    left-slots : slots_in new (remove order at) ≡ filter (λ x. is_not kept.slot.serial x.serial) (slots_in old order)
    left-slots = ap (slots_in new) left-keys ∙ stays-slots taken-stays t.store.here

    pub taken-slots : slots_in new (remove order at) ≡ remove (slots_in old order) at
    taken-slots = left-slots ∙ sym (remove-rising (λ x. x.serial) (slots_in old order) at kept.slot t.rise within taken-read)

    pub taken-rises : Rises (slots_in new (remove order at))
    taken-rises = rw left-slots (rises-by-filter (λ x. x.serial) (λ x. is_not kept.slot.serial x.serial) (slots_in old order) t.rise)

    pub taken-store : child_slots (slice_index (serials_of (slots_in old order)) at) (slots_in old order) ≡ [] → slab_len new + 1 ≡ slab_len old →
        new.capacity ≡ old.capacity → IsSlotStore new (remove order at) room places
    taken-store leaf len capacity =
        let named = serial-read (slots_in old order) at kept.slot within taken-read in
        let closed = leaf-closed kept.slot.serial (slots_in old order) (ap (λ n. child_slots n (slots_in old order)) (sym named) ∙ leaf) in
        let here : AllHere new [] (remove order at) = rw left-keys (stays-here taken-stays closed t.store.here) in
        let apart : AreApartKeys (remove order at) = rw left-keys (apart-filter (is_not key) order t.store.apart) in
        let long = length-remove order at t.within in
        let store = t.store in
        grind arith

    -- the parent of a slot that was taken away is known as before: its key stands before the slot's
    pub taken-knows : AreKeys new (remove order at) → KnowsParent new (remove order at) kept.slot.parent kept.above
    taken-knows are =
        let here : IsHere old (take at order) (Some kept) = rw t.was at (here-read old order at key t.store.here t.within t.read) in
        still kept.slot.parent kept.above here
      where
        own : has_number (take at order) key ≡ false
        own = grind (arith, apart-before)

        still : (parent above : Option ℕ) → KnowsParent old (take at order) parent above → KnowsParent new (remove order at) parent above
        still (Some p) (Some a) k =
            let y = named-slot p (get old a) k.1 in
            let others = t.others a in
            let found : get new a ≡ Some y.0 = grind (arith, others, own, y.1) in
            let place = key-found are found y.2 in
            knows-key are place.1
        still parent above k = grind arith

  -- the key of a slot's parent is the one that is known
  module _ (slab : Slab (StoredSlot T)) (keys : List ℕ) (parent above : Option ℕ) where
    pub parent-key : (key : ℕ) → above ≡ Some key → AreKeys slab keys → KnowsParent slab keys parent above → IsParentKey slab keys parent key
    parent-key key is are k = of parent (rw is at k)
      where
        of : (parent : Option ℕ) → KnowsParent slab keys parent (Some key) → IsParentKey slab keys parent key
        of None k = absurd k
        of (Some p) k =
            let y = named-slot p (get slab key) k.1 in
            let place = key-found are y.1 y.2 in
            record { name = p; at = place.0; kept = y.0; is = refl; key_at = place.1; found = y.1 }

    -- no key is a root's
    pub no-parent-key : above ≡ None → KnowsParent slab keys parent above → parent ≡ None
    no-parent-key h5 h6 = grind arith

  -- An abort: at a frame without a child nothing goes, and of slots, serials and ready frames all up to the aborted frame stay.

  -- where all slots pass a test of serials, and what a filter by it leaves
  module _ (keep : ℕ → Bool) where
    -- those before a place stay, where each lower serial does
    early-stay : (xs : List (Slot T)) (i n : ℕ) → Rises xs → i < length xs → slice_index (serials_of xs) i ≡ n → ((s : ℕ) → s < n → keep s ≡ true) →
        AllByRecursion (λ x. keep x.serial ≡ true) (take i xs)
    early-stay [] i n rise lt at low = absurd (omega arith)
    early-stay (x ∷ _) zero n _ _ _ _ = tt
    early-stay (x ∷ xs) (suc i) n rise lt at low =
        let above = above-at xs x.serial i rise.0 (omega arith) in
        (low x.serial (omega (arith, above, at)), early-stay xs i n rise.1 (omega arith) at low)

    filter-all : (xs : List (Slot T)) → AllByRecursion (λ x. keep x.serial ≡ true) xs → filter (λ x. keep x.serial) xs ≡ xs
    filter-all [] s = refl
    filter-all (x ∷ xs) s = grind (arith, filter-all xs)

    filter-no : (xs : List (Slot T)) → AllByRecursion (λ x. keep x.serial ≡ true) xs → filter (λ x. not (keep x.serial)) xs ≡ []
    filter-no [] s = refl
    filter-no (x ∷ xs) s = grind (arith, filter-no xs)

  -- an abort at a frame n without a child leaves every frame, and no value is under it
  module _ (n : ℕ) (frames : List (Frame T)) (t : IsTree frames) (none : children_of frames n ≡ []) where
    none-under : Each (λ f. goes_under n f.path ≡ false) frames
    none-under =
        found-each (λ f. goes_under n f.path ≡ false) frames (tree-rising frames t) (λ s f at. tree-induction
        (λ f. frame_at frames f.serial ≡ Some f → goes_under n f.path ≡ false) frames t (λ f top own. rw top.1 refl)
        (λ f u above own.
        let through = under-through frames f n t u in
        let clear = above (found-own frames u.parent u.above u.there) in
        let child = no-child-found (λ x. is_child_of n x.path) frames f.serial f (sym (children-by-paths frames n t) ∙ none) own in
        grind (arith, through, clear, child, u.named))
        s f at (found-own frames s f at))

    pub leaf-aborted : aborted n frames ≡ frames
    leaf-aborted = filter-every (λ f. not (goes_under n f.path)) frames
        (all-map (λ f. goes_under n f.path ≡ false) (λ f. not (goes_under n f.path) ≡ true) (λ f clear. ap not clear) frames none-under)

    pub leaf-none-under : values_of (frames_under n frames) ≡ []
    leaf-none-under = ap values_of (filter-none (λ f. goes_under n f.path) frames none-under)

  -- What stands up to an aborted frame stays.

  -- what stands under the keys before a place has a lower serial than what stands there
  early-slot : (slab : Slab (StoredSlot T)) (before keys : List ℕ) (i n k : ℕ) (x : StoredSlot T) → AllHere slab before keys →
      Rises (slots_in slab keys) → i < length keys →
      slice_index (serials_of (slots_in slab keys)) i ≡ n → has_number (take i keys) k ≡ true → get slab k ≡ Some x → x.slot.serial < n
  early-slot slab before [] i n k x h rise lt at has is = absurd (omega arith)
  early-slot _ _ (j ∷ _) zero n k x h _ _ _ has _ = absurd (false≢true has)
  early-slot slab before (j ∷ keys) (suc i) n k x h rise lt at has is =
      let found = here-found slab before (get slab j) h.0 in
      let long = slots_in-length slab (before ++ j ∷ []) keys h.1 in
      grind (arith, found.1, long, above-at (slots_in slab keys) found.0.slot.serial i, early-slot slab (before ++ j ∷ []) keys i n k x)

  -- the slots before the place of the aborted one stay
  module _ (n : ℕ) (slab : Slab (StoredSlot T)) (keys : List ℕ) (i : ℕ) (h : AllHere slab [] keys) (l : IsCutAt n (slots_in slab keys))
      (rise : Rises (slots_in slab keys)) (lt : i < length (slots_in slab keys)) (at : slice_index (serials_of (slots_in slab keys)) i ≡ n) where
    early-staying : (k : ℕ) (x : StoredSlot T) → has_number (take i keys) k ≡ true → get slab k ≡ Some x → stays_in n (slots_in slab keys) x.slot.serial ≡ true
    early-staying k x has is = l.low x.slot.serial (early-slot slab [] keys i n k x h rise (rw (slots_in-length slab [] keys h) at lt) at has is)

    -- so the passes may begin behind it
    pub leaves-early : Leaves n (slots_in slab keys) (take i keys) slab slab
    leaves-early = record { left = λ k. grind (arith, early-staying) }

    pub none-early : gone_among n (slots_in slab keys) (take i (slots_in slab keys)) ≡ []
    none-early = ap (map (λ x. x.value)) (filter-no (stays_in n (slots_in slab keys)) (take i (slots_in slab keys)) (early-stay (stays_in n (slots_in slab keys)) (slots_in slab keys) i n rise lt at l.low))

    pub keys-early : (new : Slab (StoredSlot T)) → Leaves n (slots_in slab keys) keys slab new → filter (has_slot_under new) (take i keys) ≡ take i keys
    keys-early new leaves = all [] keys i h (λ k x has is. let stays = early-staying k x has is in let left = leaves.left k in grind (arith, left, is, stays))
      where
        all : (before keys : List ℕ) (i : ℕ) → AllHere slab before keys → ((k : ℕ) (x : StoredSlot T) → has_number (take i keys) k ≡ true → get slab k ≡ Some x → get new k ≡ Some x) →
            filter (has_slot_under new) (take i keys) ≡ take i keys
        all _ [] zero h _ = refl
        all _ [] (suc i) h _ = refl
        all _ (j ∷ _) zero h _ = refl
        all before (j ∷ keys) (suc i) h there =
            let found = here-found slab before (get slab j) h.0 in
            rw (there j found.0 (head-key j (take i keys)) found.1) (ap (λ ks. j ∷ ks) (all (before ++ j ∷ []) keys i h.1 (λ k x has is. there k x (tail-key j k (take i keys) has) is)))

  -- the slot at place i is written back with no child counted: the serial there stays n; and what is ready after an abort at it
  module _ {xs : List (Slot T)} {frames : List (Frame T)} {i n : ℕ} {slot : Slot T} (k : KeepsTree xs frames) (seen : IsSeenAt xs n i slot) where
    childless-same : serials_of (set xs i (recounted (λ m. 0) slot)) ≡ serials_of xs
    childless-same = map-set_same (λ s. s.serial) xs i (recounted (λ m. 0) slot) slot (ap (λ s. s.serial) seen.read)

    pub childless-serial : slice_index (serials_of (set xs i (recounted (λ m. 0) slot))) i ≡ n
    childless-serial = ap (λ ns. slice_index ns i) childless-same ∙ seen.named

    pub cut-length : length (kept_slots n (set xs i (recounted (λ m. 0) slot))) ≤ length xs
    cut-length = grind (arith, length-filter-le, length-set)

    pub cut-ready : {ready : List ReadyFrame} {places : ℕ} → ready ≡ ready_in xs → length xs ≤ places →
        CutsReady xs (kept_slots n (set xs i (recounted (λ m. 0) slot))) i n places ready
    cut-ready {ready} {places} is within =
        let ys = set xs i (recounted (λ m. 0) slot) in
        let zs = kept_slots n ys in
        let lt : i < length ys = omega (arith, length-set xs i (recounted (λ m. 0) slot), seen.within) in
        let front : length (take i xs) ≡ i = length-front i xs (omega (arith, seen.within)) in
        let stay = early-stay (stays_in n ys) ys i n (keeps-rises (cleared k seen)) lt childless-serial (keeps-cut-at (cleared k seen) n).low in
        let stays : Slot T → Bool = λ x. stays_in n ys x.serial in
        let rest = filter stays (drop i ys) in
        let parts : zs ≡ take i xs ++ rest = ap (filter stays) (sym (take-append-drop i ys)) ∙ filter-append stays (take i ys) (drop i ys)
        ∙ ap (λ ws. ws ++ rest) (filter-all (stays_in n ys) (take i ys) stay ∙ take-set xs i (recounted (λ m. 0) slot)) in
        let below : List ReadyFrame = filter (λ frame. nat_lt frame.serial n) ready in
        let early : below ≡ ready_in (take i xs) = rw is (ready_in-take xs i n (keeps-rises k) seen.within seen.named) in
        record {
          within = rw parts (omega (arith, length-append (take i xs) rest, front));
          front = take-map (λ s. s.serial) i zs ∙ (ap serials_of (rw parts (take_at (take i xs) rest i front)) ∙ sym (take-map (λ s. s.serial) i xs));
          room = omega (arith, ap length early, few-ready_in (take i xs), front, cut-length, within);
          ready = rw (early, parts, drop_at (take i xs) rest i front) (sym (ready_in-append (take i xs) rest));
        }
