-- The frame table's slots under keys: reading, writing and adding them.
use Rattle.frame_table.proofs.Common.{get_or_default, AllHere, AreApartKeys, ContainsKey, HasSerial, IsCutAt, IsHere, IsSlotStore, KnowsParent, Leaves, List, None, Option, Slab, Slot, Some, StoredSlot, Updates, [], ap, append-nil, append_assoc, arith, cond, eq-eqb, eqb, false, false≢true, filter_more, get, get_or, gone_among, has_number, length, length-append, map-append, not, or_at, or_right, refl, set, slab_len, slots_in, stays_under, suc, sym, take, take_more, true, zero, ℕ, ◌++◌, ◌+◌, ◌<◌, ◌||◌, ◌∙◌, ◌∷◌, ◌≡◌, ◌≢◌, ◌≤◌}
use Rattle.frame_table.proofs.Forest.{follows-at, serial-read, stays_in}
use Rattle.frame_table.specs.SlotStores.{StandsUnder, is_taken_by, is_taken_in, left_under}

-- a key that stands somewhere is there
pub has_number-at : (keys : List ℕ) (i d : ℕ) → i < length keys → has_number keys (get_or keys i d) ≡ true
has_number-at keys i d lt =
    or_at (λ ks. has_number ks (get_or keys i d)) (λ k. eqb k (get_or keys i d)) refl (λ k ks. refl) keys i d lt (eq-eqb (get_or keys i d) (get_or keys i d) refl)

pub has_number-append : (keys more : List ℕ) (key : ℕ) → has_number (keys ++ more) key ≡ (has_number keys key || has_number more key)
has_number-append [] _ _ = refl
has_number-append (k ∷ keys) more key = grind (arith, has_number-append keys more key)

apart-append : (keys : List ℕ) (key : ℕ) → AreApartKeys keys → has_number keys key ≡ false → AreApartKeys (keys ++ key ∷ [])
apart-append [] _ a _ = (refl, tt)
apart-append (k ∷ keys) key a none = grind (arith, apart-append keys key, has_number-append)

-- the key at a place is none of those before it
pub apart-before : (keys : List ℕ) (i d : ℕ) → AreApartKeys keys → i < length keys → has_number (take i keys) (get_or keys i d) ≡ false
apart-before [] i d a lt = absurd (omega arith)
apart-before (k ∷ _) zero d a _ = refl
apart-before (k ∷ keys) (suc i) d a lt = grind (arith, apart-before keys i d, has_number-at)

-- after the first keys: the slots of those that the abort takes are gone, and their values were written down
pub record HasLeft {T : Type 0} (under : ℕ) (old now : Slab (StoredSlot T)) (order : List ℕ) (had values : List T) (at : ℕ) : Type 0 where
  pub left : Leaves under (slots_in old order) (take at order) old now
  pub written : values ≡ had ++ gone_among under (slots_in old order) (take at (slots_in old order))
  pub counted : slab_len now + length values ≡ slab_len old + length had
  pub room : length values ≤ length had + at
  pub capacity : now.capacity ≡ old.capacity

module _ {T : Type 0} where
  -- the slots under the keys of a slab
  module _ (slab : Slab (StoredSlot T)) where
    -- what is here is a slot
    module _ (before : List ℕ) where
      here-gone : (o : Option (StoredSlot T)) → IsHere slab before o → o ≡ None → ⊥
      here-gone o h4 h5 = grind arith

      pub here-found : (o : Option (StoredSlot T)) → IsHere slab before o → (kept : StoredSlot T) × (o ≡ Some kept)
      here-found None h = absurd h
      here-found (Some x) h = (x, refl)

      pub here-contains : (key : ℕ) → IsHere slab before (get slab key) → ContainsKey slab key
      here-contains key h = grind arith

    -- the slot under the key at a place
    here-at : (before keys : List ℕ) (i d : ℕ) → AllHere slab before keys → i < length keys → IsHere slab (before ++ take i keys) (get slab (get_or keys i d))
    here-at before [] i d h lt = absurd (omega arith)
    here-at _ (k ∷ _) zero d h _ = rw append-nil h.0
    here-at before (k ∷ keys) (suc i) d h lt = rw append_assoc at (here-at (before ++ k ∷ []) keys i d h.1 (omega arith))

    -- as many slots as keys
    pub slots_in-length : (before keys : List ℕ) → AllHere slab before keys → length (slots_in slab keys) ≡ length keys
    slots_in-length _ [] h = refl
    slots_in-length before (k ∷ keys) h = grind (arith, slots_in-length (before ++ k ∷ []) keys, here-found)

    -- the slot at a place
    slots_in-at : (before keys : List ℕ) (i d : ℕ) (kept : StoredSlot T) (x : Slot T) → AllHere slab before keys → i < length keys →
        get slab (get_or keys i d) ≡ Some kept → get_or (slots_in slab keys) i x ≡ kept.slot
    slots_in-at before [] i d kept x h lt is = absurd (omega arith)
    slots_in-at _ (k ∷ _) zero d _ x h _ is = rw is refl
    slots_in-at before (k ∷ keys) (suc i) d kept x h lt is = grind (arith, slots_in-at (before ++ k ∷ []) keys i d kept x, here-found)

    -- a key that was read, and the slot under it
    module _ (keys : List ℕ) (i key : ℕ) (h : AllHere slab [] keys) (lt : i < length keys) (is : key ≡ get_or keys i key) where
      pub here-read : IsHere slab (take i keys) (get slab key)
      here-read = rw is (here-at [] keys i key h lt)

      pub contains_read : ContainsKey slab key
      contains_read = here-contains (take i keys) key here-read

      pub kept-read : (kept : StoredSlot T) × (get slab key ≡ Some kept)
      kept-read = here-found (take i keys) (get slab key) here-read

      pub slot-read : {kept : StoredSlot T} (x : Slot T) → get slab key ≡ Some kept → get_or (slots_in slab keys) i x ≡ kept.slot
      slot-read x found = grind (arith, slots_in-at [] keys i key)

    -- a vacant key is not there
    vacant-absent : (before keys : List ℕ) (key : ℕ) → AllHere slab before keys → get slab key ≡ None → has_number keys key ≡ false
    vacant-absent _ [] _ h _ = refl
    vacant-absent before (k ∷ keys) key h none = grind (arith, vacant-absent (before ++ k ∷ []) keys key, here-gone)

    -- the slots of one more key
    slots_in-append : (keys more : List ℕ) → slots_in slab (keys ++ more) ≡ slots_in slab keys ++ slots_in slab more
    slots_in-append [] _ = refl
    slots_in-append (k ∷ keys) more = grind (arith, slots_in-append keys more)

    all-here-append : (before keys : List ℕ) (key : ℕ) → AllHere slab before keys → IsHere slab (before ++ keys) (get slab key) →
        AllHere slab before (keys ++ key ∷ [])
    all-here-append _ [] _ h last = (rw append-nil at last, tt)
    all-here-append before (k ∷ keys) key h last = (h.0, all-here-append (before ++ k ∷ []) keys key h.1 (rw append_assoc last))

    -- the parent's key, by the place that it stands at
    pub knows-read : (keys : List ℕ) (parent at key : ℕ) → AllHere slab [] keys → StandsUnder (slots_in slab keys) (Some parent) (Some at) →
        key ≡ get_or keys at key → KnowsParent slab keys (Some parent) (Some key)
    knows-read keys parent at key h s is =
        let lt : at < length keys = rw (slots_in-length [] keys h) at s.0 in
        let kept = kept-read keys at key h lt is in
        let same = serial-read (slots_in slab keys) at kept.0.slot s.0 (sym (slot-read keys at key h lt is kept.0.slot kept.1)) in
        (ap (has_number keys) is ∙ has_number-at keys at key lt, rw kept.1 (sym same ∙ s.1))

  -- a slot of the same name and parent
  abbrev pub IsLike : StoredSlot T → Option (StoredSlot T) → Type 0
  IsLike x None = ⊥
  IsLike x (Some y) = (y.slot.serial ≡ x.slot.serial) × (y.slot.parent ≡ x.slot.parent) × (y.above ≡ x.above)

  -- each slot has one like it in the new slab
  abbrev pub AreLike : Slab (StoredSlot T) → Slab (StoredSlot T) → Type 0
  AreLike old new = (k : ℕ) (x : _) → get old k ≡ Some x → IsLike x (get new k)

  serial-like : (p : ℕ) (o n : Option (StoredSlot T)) → ((x : StoredSlot T) → o ≡ Some x → IsLike x n) → HasSerial p o → HasSerial p n
  serial-like p None n _ h = absurd h
  serial-like p (Some x) n like h = grind (arith, like x)

  -- what is known of a slab's slots is so of another's that are like them
  module _ (old new : Slab (StoredSlot T)) where
    pub knows-like : (keys : List ℕ) (parent above : Option ℕ) → AreLike old new → KnowsParent old keys parent above → KnowsParent new keys parent above
    knows-like keys parent above h6 h7 = grind (arith, serial-like)

    here-like : (keys : List ℕ) (o n : Option (StoredSlot T)) → AreLike old new → ((x : StoredSlot T) → o ≡ Some x → IsLike x n) → IsHere old keys o →
        IsHere new keys n
    here-like _ None n _ _ h = absurd h
    here-like keys (Some x) n all like h = grind (arith, knows-like, like x)

    pub all-here-like : (before keys : List ℕ) → AreLike old new → AllHere old before keys → AllHere new before keys
    all-here-like _ [] _ h = tt
    all-here-like before (k ∷ keys) like h = (here-like before _ _ like (like k) h.0, all-here-like (before ++ k ∷ []) keys like h.1)

    -- the same slots
    slots_in-same : (keys : List ℕ) → ((k : ℕ) → has_number keys k ≡ true → get new k ≡ get old k) → slots_in new keys ≡ slots_in old keys
    slots_in-same [] _ = refl
    slots_in-same (k ∷ keys) same = grind (arith, slots_in-same keys, or_right)

    -- the slots after one was written
    pub slots_in-put : (before keys : List ℕ) (i d : ℕ) (after : StoredSlot T) → AllHere old before keys → AreApartKeys keys → i < length keys →
        Updates old new (get_or keys i d) (Some after) → slots_in new keys ≡ set (slots_in old keys) i after.slot
    slots_in-put before [] i d after h a lt u = absurd (omega arith)
    slots_in-put before (k ∷ keys) zero d after h a lt u =
        let rest = slots_in-same keys (λ j has. u.others j (λ e. false≢true (sym a.0 ∙ (ap (has_number keys) (sym e) ∙ has)))) in
        grind (arith, rest, here-found)
    slots_in-put before (k ∷ keys) (suc i) d after h a lt u =
        let there = has_number-at keys i d (omega arith) in
        let other = u.others k in
        grind (arith, there, other, slots_in-put (before ++ k ∷ []) keys i d after, here-found)

  -- a slot store on which a slot was pushed
  module _ {old new : Slab (StoredSlot T)} {key : ℕ} {slot : Slot T} {above : Option ℕ} (keys : List ℕ) (vacant : get old key ≡ None)
      (u : Updates old new key (Some (record { slot = slot; above = above }))) where
    pushed-like : AreLike old new
    pushed-like k x is = let others = u.others k in grind (arith, others)

    pub push-store : (room places : ℕ) → IsSlotStore old keys room places → length keys < places → KnowsParent old keys slot.parent above →
        slab_len new ≡ slab_len old + 1 → new.capacity ≡ old.capacity → IsSlotStore new (keys ++ key ∷ []) room places
    push-store room places s less knows len capacity = grind (arith, knows-like, pushed-like, length-append, all-here-append, all-here-like, apart-append, vacant-absent)

    pub push-slots : AllHere old [] keys → slots_in new (keys ++ key ∷ []) ≡ slots_in old keys ++ slot ∷ []
    push-slots here = grind (arith, vacant-absent, slots_in-same, slots_in-append)

  -- ---- more room: the slots under keys, whatever the capacity

  roomy-here : (slab : Slab (StoredSlot T)) (capacity : ℕ) (before keys : List ℕ) → AllHere slab before keys →
      AllHere (record slab { capacity = capacity }) before keys
  roomy-here _ _ _ [] _ = tt
  roomy-here slab capacity before (key ∷ keys) here = grind (arith, roomy-here slab capacity (before ++ key ∷ []) keys)

  -- a slab with more room has the same slots
  pub roomy-len : (old new : Slab (StoredSlot T)) → new ≡ record old { capacity = new.capacity } → slab_len new ≡ slab_len old
  roomy-len _ _ same = ap (λ (k : Slab (StoredSlot T)). slab_len k) same

  module _ {old new : Slab (StoredSlot T)} (same : new ≡ record old { capacity = new.capacity }) {keys : List ℕ} {room places : ℕ}
      (s : IsSlotStore old keys room places) where
    pub roomy-store : {room' places' : ℕ} → places ≤ places' → places' ≤ new.capacity → places' ≤ room' → IsSlotStore new keys room' places'
    roomy-store more wide long = grind (arith, roomy-here)

    -- with no more places
    pub roomy-same : {more : ℕ} → room ≤ more → old.capacity ≤ new.capacity → IsSlotStore new keys more places
    roomy-same wide long = grind (arith, roomy-here)

  -- The passes of an abort: slots go, and then their keys.

  -- whether an abort takes a slot, where those before it that it takes are gone
  taken-by : (under : ℕ) (slots : List (Slot T)) (before : List ℕ) (old now : Slab (StoredSlot T)) (serial : ℕ) (parent above : Option ℕ) →
      stays_in under slots serial ≡ stays_under (stays_in under slots) under parent → Leaves under slots before old now → KnowsParent old before parent above →
      is_taken_by now under parent above ≡ not (stays_in under slots serial)
  taken-by under slots before old now serial (Some p) (Some above) f l k = let left = l.left above in grind (arith, left, f, k)
  taken-by under slots before old now serial parent above f l k = grind arith

  -- one key more
  module _ {under : ℕ} {old now : Slab (StoredSlot T)} {order : List ℕ} {had values : List T} {at : ℕ} (h : HasLeft under old now order had values at)
      (here : AllHere old [] order) (apart : AreApartKeys order) (l : IsCutAt under (slots_in old order)) (lt : at < length order) (key : ℕ)
      (is : key ≡ get_or order at key) where
    pub read-slot : (kept : StoredSlot T) × (get old key ≡ Some kept)
    read-slot = kept-read old order at key here lt is

    -- the slot is as it was
    as-before : get now key ≡ Some read-slot.0
    as-before = let left = h.left.left key in grind (arith, left, read-slot, apart-before)

    slot-at : read-slot.0.slot ≡ get_or (slots_in old order) at read-slot.0.slot
    slot-at = sym (slot-read old order at key here lt is read-slot.0.slot read-slot.1)

    within : at < length (slots_in old order)
    within = rw (slots_in-length old [] order here) lt

    -- it is taken exactly where it doesn't stay
    pub takes : is_taken_in now under (get now key) ≡ not (stays_in under (slots_in old order) read-slot.0.slot.serial)
    takes = grind (arith, read-slot, here-read, follows-at, within, slot-at, as-before, taken-by)

    has-more : (k : ℕ) → has_number (take (at + 1) order) k ≡ (has_number (take at order) k || (eqb key k || false))
    has-more k = let more = take_more order at key lt in grind (arith, more, is, has_number-append)

    left-more : (new : Slab (StoredSlot T)) → get new key ≡ left_under under (slots_in old order) (key ∷ []) key (get old key) → ((k : ℕ) → k ≢ key → get new k ≡ get now k) →
        Leaves under (slots_in old order) (take (at + 1) order) old new
    left-more new own others = record { left = λ k. (let before = h.left.left k in let has = has-more k in let rest = others k in grind (arith, before, has, rest, own)) }

    written-more : (more : List T) → (cond (not (stays_in under (slots_in old order) read-slot.0.slot.serial)) (read-slot.0.slot.value ∷ []) [] ≡ more) →
        values ++ more ≡ had ++ gone_among under (slots_in old order) (take (at + 1) (slots_in old order))
    written-more more e =
        let next = filter_more (λ slot. not (stays_in under (slots_in old order) slot.serial)) (slots_in old order) at read-slot.0.slot within in
        grind (arith, h.written, next, slot-at, e, map-append, append_assoc)

    -- a slot that stays
    pub left-stays : is_taken_in now under (get now key) ≡ false → HasLeft under old now order had values (at + 1)
    left-stays not_taken = grind (arith, takes, read-slot, as-before, left-more now, eq-eqb, written-more [], append-nil)

    -- a slot that goes
    pub left-goes : {new : Slab (StoredSlot T)} {gone : StoredSlot T} → is_taken_in now under (get now key) ≡ true → get now key ≡ Some gone → Updates now new key None →
        slab_len new + 1 ≡ slab_len now → new.capacity ≡ now.capacity → HasLeft under old new order had (values ++ gone.slot.value ∷ []) (at + 1)
    left-goes {new} {gone} taken found u len capacity = grind (arith, takes, read-slot, as-before, length-append, left-more, eq-eqb, written-more)

-- a turn at the key that was read at a place, which is the loop's own
module _ {T : Type 0} {under : ℕ} {old now : Slab (StoredSlot T)} {order : List ℕ} {had values : List T} {at : ℕ} {key : ℕ} (h : HasLeft under old now order had values at)
    (here : AllHere old [] order) (apart : AreApartKeys order) (parents : IsCutAt under (slots_in old order)) (lt : at < length order) where
  pub stays-there : is_taken_in now under (get now key) ≡ false → key ≡ get_or order at key → HasLeft under old now order had values (at + 1)
  stays-there not_taken is = left-stays h here apart parents lt key is not_taken

  pub goes-there : {new : Slab (StoredSlot T)} {gone : StoredSlot T} → is_taken_in now under (get now key) ≡ true → get now key ≡ Some gone → Updates now new key None →
      slab_len new + 1 ≡ slab_len now → new.capacity ≡ now.capacity → key ≡ get_or order at key → HasLeft under old new order had (values ++ gone.slot.value ∷ []) (at + 1)
  goes-there taken found u len capacity is = left-goes h here apart parents lt key is taken found u len capacity

pub read-there : (order : List ℕ) (at : ℕ) {place : ℕ} → at < length order → place ≡ at → get_or order place 0 ≡ get_or order at (get_or order place 0)
read-there order at here same = rw same (get_or_default order at 0 (get_or order at 0) here)

-- a key that is read, and the slot under it
pub ruleset read_laws = (slots_in-length, contains_read, slot-read)
