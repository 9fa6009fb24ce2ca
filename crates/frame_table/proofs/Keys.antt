-- The frame table's index: the serials of slots, and the keys in their order; a key that is found stands in the order.
use Rattle.frame_table.proofs.Common.{AllHere, AreApartKeys, AreKeys, AreRising, ChangesSlot, ContainsKey, IsKeyAt, IsSeenAt, IsSlotStore, KnowsParent, List, None, Option, Rises, Slab, Slot, Some, State, StoredSlot, Updates, [], ap, arith, cases_eq, common_steps, cond, drop, drop-map, eq-eqb, false, false≢true, get, get_or, has_number, has_slot, inl, inr, length, length-map, map-append, map-set_same, ne_eqb, recounted, refl, remove, restated, serials_of, set, slab_len, slice_index, slots_in, subst, suc, sum_by-set, sym, take, take-map, true, with_child, with_slot, zero, ℕ, ◌++◌, ◌+◌, ◌<◌, ◌∙◌, ◌∷◌, ◌≡◌, ◌≤◌}
use Rattle.frame_table.proofs.Finds.{has_slot-kept, keeps-rises}
use Rattle.frame_table.proofs.Forest.{has_slot-found, serial-read, with_slot-none}
use Rattle.frame_table.proofs.Places.{rising-mapped}
use Rattle.frame_table.proofs.SlotStores.{AreLike, all-here-like, contains_read, here-contains, kept-read, knows-read, slot-read, slots_in-length, slots_in-put}
use Rattle.std.proofs.Common.{IfNone, IfSome, count_by, get_or-set_other, is_some, take-append-drop}

-- what a search of the serials has found, of the slots
pub record IsFoundAt {T : Type 0} (xs : List (Slot T)) (at n : ℕ) : Type 0 where
  pub within : at < length xs
  pub found : slice_index (serials_of xs) at ≡ n

-- a slot that is filled is within, and counted
module _ {X : Type 0} (slots : List (Option X)) (key : ℕ) (h1 : is_some (get_or slots key None) ≡ true) where
  filled-within : key < length slots
  filled-within = grind (arith, common_steps)

  filled-counts : 1 ≤ count_by is_some slots
  filled-counts = grind (arith, common_steps)

-- keys that are apart, each of a filled slot, and as many as the filled slots: each filled slot's is among them
all-among : {X : Type 0} (slots : List (Option X)) (keys : List ℕ) (key : ℕ) → AreApartKeys keys →
    ((k : ℕ) → has_number keys k ≡ true → is_some (get_or slots k None) ≡ true) → count_by is_some slots ≡ length keys →
    is_some (get_or slots key None) ≡ true → has_number keys key ≡ true
all-among slots [] key apart filled counted some = absurd (let one = filled-counts slots key some in omega (arith, one, counted))
all-among {X} slots (k ∷ keys) key apart filled counted some =
    let here : is_some (get_or slots k None) ≡ true = filled k (rw (eq-eqb k k refl) refl) in
    let rest : List (Option X) = set slots k None in
    let e = sum_by-set (λ o. cond (is_some o) 1 0) slots k None None (filled-within slots k here) in
    let fewer : count_by is_some rest ≡ length keys = omega (arith, rw here at e, counted) in
    let still : (j : ℕ) → has_number keys j ≡ true → is_some (get_or rest j None) ≡ true =
    λ j has. (let there = filled j in let other = get_or-set_other slots k j None None in grind (arith, there, other)) in
    grind (arith, all-among rest keys key apart.1 still fewer, get_or-set_other slots k key None None)

-- a key that is there stands somewhere
stands : (keys : List ℕ) (key : ℕ) → has_number keys key ≡ true → (at : ℕ) × (at < length keys) × (key ≡ get_or keys at key)
stands [] _ has = absurd (false≢true has)
stands (k ∷ keys) key has =
    elim (cases_eq k key) [
      | inl same ↦ (zero, omega arith, sym same)
      | inr differs ↦ (let there : has_number keys key ≡ true = rw (ne_eqb k key differs) at has in
          let rest = stands keys key there in
          (suc rest.0, omega (arith, rest.1), rest.2))
    ]

module _ {T : Type 0} where
  has_number-serials_of : (xs : List (Slot T)) (n : ℕ) → has_number (serials_of xs) n ≡ has_slot xs n
  has_number-serials_of [] n = refl
  has_number-serials_of (x ∷ xs) n = grind (arith, has_number-serials_of xs n)

  pub serials_of-recounted : (which : Option ℕ) (change : ℕ → ℕ) (xs : List (Slot T)) → serials_of (with_slot which (recounted change) xs) ≡ serials_of xs
  serials_of-recounted _ _ [] = refl
  serials_of-recounted which change (x ∷ xs) = grind (arith, serials_of-recounted which change xs)

  -- the index: what a search of it says of the slots, and what each change leaves of it
  module _ (xs : List (Slot T)) (serials : List ℕ) (is : serials ≡ serials_of xs) where
    pub found-at : (at n : ℕ) → at < length serials → slice_index serials at ≡ n → IsFoundAt xs at n
    found-at at n within found = grind (arith, length-map)

    -- the slot at the place of a serial that is known to be there
    pub seen-by : {at n : ℕ} {slot : Slot T} → at < length serials → slice_index serials at ≡ n → slot ≡ get_or xs at slot → IsSeenAt xs n at slot
    seen-by within found read = grind (arith, found-at)

    pub none-at : (n : ℕ) → has_number serials n ≡ false → has_slot xs n ≡ false
    none-at n none = grind (arith, has_number-serials_of)

    pub there-at : (n : ℕ) → has_slot xs n ≡ true → has_number serials n ≡ true
    there-at n there = grind (arith, has_number-serials_of)

    pub index-rises : Rises xs → AreRising (λ n. n) serials
    index-rises rise = rw is (rising-mapped (λ n. n) (λ s. s.serial) xs rise)

    -- whether a search has found a slot
    pub found-there : (n : ℕ) (place : Option ℕ) → IfSome place (λ at. (at < length serials) × (slice_index serials at ≡ n)) →
        IfNone place (has_number serials n ≡ false) → is_some place ≡ has_slot xs n
    found-there n place h6 h7 = grind (arith, none-at, found-at, has_slot-found)

    pub added-index : (parent : Option ℕ) (slot : Slot T) → serials ++ slot.serial ∷ [] ≡ serials_of (with_child parent xs ++ slot ∷ [])
    added-index parent slot = let same = serials_of-recounted parent (λ n. n + 1) xs in grind (arith, map-append, same)

    pub index-set : (i : ℕ) (slot new : Slot T) → slot ≡ get_or xs i slot → new.serial ≡ slot.serial → serials ≡ serials_of (set xs i new)
    index-set i slot new read same = is ∙ sym (map-set_same (λ s. s.serial) xs i new slot (same ∙ ap (λ s. s.serial) read))

    pub removed-index : (i : ℕ) → remove serials i ≡ serials_of (remove xs i)
    removed-index i = rw is (simp (map-append, take-map, drop-map))

    pub cut-index : (zs : List (Slot T)) (i : ℕ) → take i (serials_of zs) ≡ take i (serials_of xs) → take i serials ++ serials_of (drop i zs) ≡ serials_of zs
    cut-index zs i front = rw (is, ← front) (rw (← drop-map (λ s. s.serial) i zs) (take-append-drop i (serials_of zs)))

  all-filled : (slab : Slab (StoredSlot T)) (before keys : List ℕ) → AllHere slab before keys → (k : ℕ) → has_number keys k ≡ true →
      ContainsKey slab k
  all-filled _ _ [] h k has = absurd (false≢true has)
  all-filled slab before (j ∷ keys) h k has = grind (arith, all-filled slab (before ++ j ∷ []) keys, here-contains)

  -- what stands under the keys of a slab
  module _ {slab : Slab (StoredSlot T)} {keys : List ℕ} where
    -- the key of a slot that was found by its serial, and the slot under the key that a serial has
    module _ {serial key : ℕ} {kept : StoredSlot T} (are : AreKeys slab keys) where
      pub key-found : get slab key ≡ Some kept → kept.slot.serial ≡ serial → (at : ℕ) × IsKeyAt slab keys serial at key
      key-found found named =
          let place = stands keys key (all-among slab.slots keys key are.apart (all-filled slab [] keys are.here) are.counted (ap is_some found)) in
          let lt : place.0 < length (slots_in slab keys) = rw (slots_in-length slab [] keys are.here) place.1 in
          let read = slot-read slab keys place.0 key are.here place.1 place.2 kept.slot found in
          (place.0, record { within = place.1; read = place.2; named = serial-read (slots_in slab keys) place.0 kept.slot lt (sym read) ∙ named })

      pub seen-at : {at : ℕ} → IsKeyAt slab keys serial at key → get slab key ≡ Some kept → IsSeenAt (slots_in slab keys) serial at kept.slot
      seen-at k found = grind (arith, slots_in-length, slot-read)

    -- the same where the serials were searched
    pub key-searched : {serials : List ℕ} {serial at key : ℕ} → serials ≡ serials_of (slots_in slab keys) →
        at < length keys → key ≡ get_or keys at key → slice_index serials at ≡ serial → IsKeyAt slab keys serial at key
    key-searched is within read found = grind arith

    -- as many serials as keys
    pub index-long : (serials : List ℕ) → serials ≡ serials_of (slots_in slab keys) → AreKeys slab keys → length serials ≡ length keys
    index-long serials is are = grind (arith, length-map, slots_in-length)

    -- a parent's key
    pub knows-key : {name at key : ℕ} → AreKeys slab keys → IsKeyAt slab keys name at key → KnowsParent slab keys (Some name) (Some key)
    knows-key {name} {at} {key} are k = knows-read slab keys name at key are.here (rw (slots_in-length slab [] keys are.here) k.within, k.named) k.read

    module _ {room places : ℕ} (s : IsSlotStore slab keys room places) where
      pub are-keys : AreKeys slab keys
      are-keys = grind arith

      -- other slots under the same keys
      pub re-keyed : {new : Slab (StoredSlot T)} → AreKeys new keys → new.capacity ≡ slab.capacity → IsSlotStore new keys room places
      re-keyed are capacity = grind arith

  -- a slot was written under a key, in the place of this one
  module _ {old new : Slab (StoredSlot T)} {key : ℕ} {kept : StoredSlot T} {after : Slot T} (found : get old key ≡ Some kept)
      (put : Updates old new key (Some (record kept { slot = after }))) where
    pub put-slots : {keys : List ℕ} (at : ℕ) → AreKeys old keys → at < length keys → key ≡ get_or keys at key → slots_in new keys ≡ set (slots_in old keys) at after
    put-slots {keys} at are within read =
        slots_in-put old new [] keys at key (record kept { slot = after }) are.here are.apart within (subst (λ n. Updates old new n (Some (record kept { slot = after }))) read put)

    -- one of its name and parent
    module _ (serial : after.serial ≡ kept.slot.serial) (parent : after.parent ≡ kept.slot.parent) where
      pub put-like : AreLike old new
      put-like k x is = grind arith

      pub put-keys : {keys : List ℕ} → AreKeys old keys → slab_len new ≡ slab_len old → AreKeys new keys
      put-keys {keys} are len = let here = all-here-like old new [] keys put-like are.here in grind arith

      pub put-store : {keys : List ℕ} {room places : ℕ} → IsSlotStore old keys room places → slab_len new ≡ slab_len old → new.capacity ≡ old.capacity →
          IsSlotStore new keys room places
      put-store s len capacity = re-keyed s (put-keys (are-keys s) len) capacity

  -- the slot with a serial in another state, told the one that it was in
  module _ {old new : Slab (StoredSlot T)} {keys : List ℕ} {room places serial at key : ℕ} {state : State} (s : IsSlotStore old keys room places)
      (k : IsKeyAt old keys serial at key) (len : slab_len new ≡ slab_len old)
      (put : (kept : StoredSlot T) → get old key ≡ Some kept → Updates old new key (Some (record kept { slot = record kept.slot { state = state } }))) where
    kept : (kept : StoredSlot T) × (get old key ≡ Some kept)
    kept = kept-read old keys at key s.here k.within k.read

    pub state-store : new.capacity ≡ old.capacity → IsSlotStore new keys room places
    state-store capacity = put-store kept.1 (put kept.0 kept.1) refl refl s len capacity

    pub state-changes : {was : State} → ((kept : StoredSlot T) → get old key ≡ Some kept → was ≡ kept.slot.state) →
        ChangesSlot (record { places = places; slots = slots_in old keys }) (record { places = places; slots = slots_in new keys }) serial (restated state) (λ slot. was ≡ slot.state)
    state-changes told = record {
      at = at;
      slot = kept.0.slot;
      seen = seen-at (are-keys s) k kept.1;
      changed = ap (λ xs. record { places = places; slots = xs }) (put-slots kept.1 (put kept.0 kept.1) at (are-keys s) k.within k.read);
      told = told kept.0 kept.1;
    }

-- a search of the index, and a key that stands in the order
pub ruleset index_laws = (index-rises, there-at, found-there, has_slot-kept, keeps-rises)

pub ruleset key_laws = (index-rises, there-at, none-at, index-long, are-keys, with_slot-none)

-- a key at a place has a slot
pub ruleset store_laws = (contains_read, seen-at)
