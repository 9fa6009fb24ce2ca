-- The frame table copies the values kept with a tenant's frames (`SlotStore::add_values`): at each turn, the values of
-- the slots passed so far stand at the end of the list, and its capacity is as it was.
use Rattle.frame_table.specs.Slots.{slot_values}
use Rattle.std.proofs.Common.{take, vec_capacity, vec_len, ◌++◌, ◌+◌, ◌≡◌}
use Rattle.frame_table.proofs.slot_store.SlotStore.add_values.Given as goal

abbrev pub invariant-loop-at : goal.invariant-loop-at
invariant-loop-at g l = record {
  items : l.values.items ≡ l.initial.values.items ++ slot_values (take l.at l.self.slots);
  len : vec_len l.values ≡ vec_len l.initial.values + l.at;
  capacity : vec_capacity l.values ≡ vec_capacity l.initial.values;
}
