-- Representation: how the frame table keeps a tenant's slots: in a slab (cells under keys), with an index of these
-- keys by rising serial.
use Rattle.std.specs.Prelude.{◌≡◌, ℕ, ◌<◌, ◌≤◌, Bool, true, false, not, if◌then◌else◌, ◌||◌, ◌&&◌, ◌==◌, List, [], ◌∷◌, ◌++◌, Option, Some, None, length, slice_index, get_or, set, map, filter, is_some, drop}
use Rattle.std.specs.Borrow.{Bor}
use Rattle.slab.specs.Slab.{Slab, get, slab_len}
use Rattle.frame_table.specs.declared.slot.Slot.{Slot as TenantSlot}
use Rattle.frame_table.specs.Places.{has_number}
use Rattle.frame_table.specs.declared.names.State.TheVariants.{Ready}
use Rattle.frame_table.specs.Slots.{frames_from, is_kept, serials_of, root_under}
use Rattle.frame_table.specs.declared.slot_store.StoredSlot.{StoredSlot}

-- a slot store as contracts see it: its number of places, and its slots by rising serial
pub record SlotStoreOf (T : Type 0) : Type 0 where
  pub places : ℕ
  pub slots : List (TenantSlot T)

-- a list of slots with one more in front, if a slot was found
abbrev pub with_found : {T : Type 0} → Option (StoredSlot T) → List (TenantSlot T) → List (TenantSlot T)
with_found None slots = slots
with_found (Some kept) slots = kept.slot ∷ slots

-- the slots under these keys, in this order
abbrev pub slots_in : {T : Type 0} → Slab (StoredSlot T) → List ℕ → List (TenantSlot T)
slots_in slab [] = []
slots_in slab (key ∷ keys) = with_found (get slab key) (slots_in slab keys)

-- no key of the slab is in the list twice
abbrev pub AreApartKeys : List ℕ → Type 0
AreApartKeys [] = Unit {0}
AreApartKeys (key ∷ keys) = (has_number keys key ≡ false) × AreApartKeys keys

-- under a key of the slab a slot was found, and it has this serial
abbrev pub HasSerial : {T : Type 0} → ℕ → Option (StoredSlot T) → Type 0
HasSerial serial None = ⊥
HasSerial serial (Some kept) = kept.slot.serial ≡ serial

-- a slot with this parent keeps the right key of it: one of these keys, under which the slot has the parent's serial; a
-- root keeps none
abbrev pub KnowsParent : {T : Type 0} → Slab (StoredSlot T) → List ℕ → Option ℕ → Option ℕ → Type 0
KnowsParent slab keys None None = Unit {0}
KnowsParent slab keys None (Some above) = ⊥
KnowsParent slab keys (Some parent) None = ⊥
KnowsParent slab keys (Some parent) (Some above) = (has_number keys above ≡ true) × HasSerial parent (get slab above)

-- under a key of the slab a slot was found, and it keeps the right key of its parent, which is one of these keys
abbrev pub IsHere : {T : Type 0} → Slab (StoredSlot T) → List ℕ → Option (StoredSlot T) → Type 0
IsHere slab keys None = ⊥
IsHere slab keys (Some kept) = KnowsParent slab keys kept.slot.parent kept.above

-- each key has a slot, and the key of its parent, if it has one, stands before it
abbrev pub AllHere : {T : Type 0} → Slab (StoredSlot T) → List ℕ → List ℕ → Type 0
AllHere slab before [] = Unit {0}
AllHere slab before (key ∷ keys) = IsHere slab before (get slab key) × AllHere slab (before ++ key ∷ []) keys

-- the invariant of a slot store (src/slot_store.rt): order has the key of each slot once, those of parents before
-- their children's; there are no more than places, and the slab and the order (of so much room) can hold as many
pub record IsSlotStore {T : Type 0} (slab : Slab (StoredSlot T)) (order : List ℕ) (room places : ℕ) : Type 0 where
  pub here : AllHere slab [] order
  pub apart : AreApartKeys order
  pub counted : slab_len slab ≡ length order
  pub within : length order ≤ places
  pub slab_room : places ≤ slab.capacity
  pub order_room : places ≤ room

-- the parent, if there is one, is the slot at this place; a root has no such place
abbrev pub StandsUnder : {T : Type 0} → List (TenantSlot T) → Option ℕ → Option ℕ → Type 0
StandsUnder slots None None = Unit {0}
StandsUnder slots None (Some at) = ⊥
StandsUnder slots (Some parent) None = ⊥
StandsUnder slots (Some parent) (Some at) = (at < length slots) × (slice_index (serials_of slots) at ≡ parent)

-- whether the slab has a slot under this key
abbrev pub has_slot_under : {T : Type 0} → Slab (StoredSlot T) → ℕ → Bool
has_slot_under slab key = is_some (get slab key)

-- whether an abort at the frame `under` removes a slot with this parent, which is kept under this key: the parent is
-- that frame, or is gone already
abbrev pub is_taken_by : {T : Type 0} → Slab (StoredSlot T) → ℕ → Option ℕ → Option ℕ → Bool
is_taken_by slab under None above = false
is_taken_by slab under (Some parent) None = false
is_taken_by slab under (Some parent) (Some above) = (parent == under) || not (has_slot_under slab above)

-- whether there is a slot here, and an abort at the frame `under` removes it: its parent is that frame, or is gone
-- already
abbrev pub is_taken_in : {T : Type 0} → Slab (StoredSlot T) → ℕ → Option (StoredSlot T) → Bool
is_taken_in slab under None = false
is_taken_in slab under (Some kept) = is_taken_by slab under kept.slot.parent kept.above

-- what is under a key, once the slots under these keys are gone that an abort at the frame `under` removes
abbrev pub left_under : {T : Type 0} → ℕ → List (TenantSlot T) → List ℕ → ℕ → Option (StoredSlot T) → Option (StoredSlot T)
left_under under slots keys key None = None
left_under under slots keys key (Some kept) = if has_number keys key && not (is_kept under (frames_from [] slots) kept.slot.serial) then None else Some kept

-- the slab `now` is the slab `old` without the slots under these keys that an abort at the frame `under` removes
pub record Leaves {T : Type 0} (under : ℕ) (slots : List (TenantSlot T)) (keys : List ℕ) (old now : Slab (StoredSlot T)) : Type 0 where
  pub left : (key : ℕ) → get now key ≡ left_under under slots keys key (get old key)

-- the values of those of some slots that an abort at the frame `under` removes
abbrev pub gone_among : {T : Type 0} → ℕ → List (TenantSlot T) → List (TenantSlot T) → List T
gone_among under slots some = map (λ slot. slot.value) (filter (λ slot. not (is_kept under (frames_from [] slots) slot.serial)) some)

-- the slots of a slot store from a place on; none where there is none
abbrev pub slots_after : {T : Type 0} → ℕ → Option (Bor (SlotStoreOf T)) → List (TenantSlot T)
slots_after at None = []
slots_after at (Some store) = drop at store.now.slots

-- this slot stands at this place of the tenant's slots, and has this serial
pub record IsSeenAt {T : Type 0} (slots : List (TenantSlot T)) (serial at : ℕ) (slot : TenantSlot T) : Type 0 where
  pub within : at < length slots
  pub named : slice_index (serials_of slots) at ≡ serial
  pub read : slot ≡ get_or slots at slot

-- the slot with this serial is changed by change, nothing else is, and Told holds of the slot as it was before
pub record ChangesSlot {T : Type 0} (old new : SlotStoreOf T) (serial : ℕ) (change : TenantSlot T → TenantSlot T) (Told : TenantSlot T → Type 0) : Type 0 where
  pub at : ℕ
  pub slot : TenantSlot T
  pub seen : IsSeenAt old.slots serial at slot
  pub changed : new ≡ record old { slots = set old.slots at (change slot) }
  pub told : Told slot

-- these are the keys of all slots of a slab, each once, those of parents before their children's
pub record AreKeys {T : Type 0} (slab : Slab (StoredSlot T)) (keys : List ℕ) : Type 0 where
  pub here : AllHere slab [] keys
  pub apart : AreApartKeys keys
  pub counted : slab_len slab ≡ length keys

-- this key stands at this place of the index, and the slot under it has this serial
pub record IsKeyAt {T : Type 0} (slab : Slab (StoredSlot T)) (keys : List ℕ) (serial at key : ℕ) : Type 0 where
  pub within : at < length keys
  pub read : key ≡ get_or keys at key
  pub named : slice_index (serials_of (slots_in slab keys)) at ≡ serial

-- the slot of a new frame, ready at this home and without a child
abbrev pub new_slot : {T : Type 0} → List (TenantSlot T) → ℕ → Option ℕ → ℕ → T → TenantSlot T
new_slot slots serial parent home value = record { serial = serial; parent = parent; root = root_under slots parent serial; state = Ready home; children = 0; value = value }
