-- The frame table walks over a tenant's frames, or over one frame's children (`walk::next_serial`): at each turn, no slot
-- passed so far is one that is looked for. It ends, as fewer slots are left each time.
use Rattle.frame_table.specs.Slots.{slots_of}
use Rattle.std.proofs.Common.{drop, length, ◌-◌, ◌≡◌}
use Rattle.frame_table.proofs.walk.next_serial.Given as goal

abbrev pub invariant-loop-at : goal.invariant-loop-at
invariant-loop-at g l = slots_of l.parent (drop l.from l.store.slots) ≡ slots_of l.parent (drop l.at l.store.slots)

abbrev pub decreases-loop-at : goal.decreases-loop-at
decreases-loop-at g l = length l.store.slots - l.at
