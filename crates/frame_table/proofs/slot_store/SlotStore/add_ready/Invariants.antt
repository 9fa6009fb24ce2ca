-- The frame table lists a tenant's ready frames (`SlotStore::add_ready`): at each turn of the loop, those listed so
-- far and those of the slots still to come are all that were to be listed, and the list has room for them.
use Rattle.frame_table.proofs.Common.{drop, length, ready_in, ◌++◌, ◌+◌, ◌≡◌, ◌≤◌}
use Rattle.frame_table.proofs.slot_store.SlotStore.add_ready.Given as goal

abbrev pub invariant-loop-at : goal.invariant-loop-at
invariant-loop-at g l = record {
  left : l.ready.list ++ ready_in (drop l.at l.self.slots) ≡ l.initial.ready.list ++ ready_in (drop l.from l.self.slots);
  places : l.ready.places ≡ l.initial.ready.places;
  room : length l.ready.list + length l.self.slots ≤ l.ready.places + l.at;
}
