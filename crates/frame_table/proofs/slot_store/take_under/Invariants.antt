-- The frame table's first pass of an abort (`slot_store::take_under`): at each turn, of the slots passed so far just
-- those below the frame are gone, and the capacity of the list of values is as it was.
use Rattle.frame_table.proofs.SlotStores.{HasLeft}
use Rattle.std.proofs.Common.{vec_capacity, ◌≡◌}
use Rattle.frame_table.proofs.slot_store.take_under.Given as goal

abbrev pub invariant-loop-at : goal.invariant-loop-at
invariant-loop-at g l =
    HasLeft l.under l.initial.slab l.slab l.order l.initial.removed.items l.removed.items l.at × (vec_capacity l.removed ≡ vec_capacity l.initial.removed)
