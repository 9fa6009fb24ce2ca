-- The frame table lists the serials of a tenant's frames (`SlotStore::add_serials`): at each turn, the serials listed
-- so far and those of the slots still to come are all, and the list has room for them.
use Rattle.frame_table.specs.Slots.{serials_of}
use Rattle.std.proofs.Common.{drop, length, ◌++◌, ◌+◌, ◌≡◌, ◌≤◌}
use Rattle.frame_table.proofs.slot_store.SlotStore.add_serials.Given as goal

abbrev pub invariant-loop-at : goal.invariant-loop-at
invariant-loop-at g l = record {
  left : l.serials.list ++ serials_of (drop l.at l.self.slots) ≡ l.initial.serials.list ++ serials_of (drop l.from l.self.slots);
  places : l.serials.places ≡ l.initial.serials.places;
  room : length l.serials.list + length l.self.slots ≤ l.serials.places + l.at;
}
