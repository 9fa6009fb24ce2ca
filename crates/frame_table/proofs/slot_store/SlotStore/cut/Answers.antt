-- The frame table aborts below a frame (`SlotStore::cut`): after its two passes just the slots below the frame are
-- gone, their values are appended, and the store is sound.
use Rattle.frame_table.proofs.Common.{Leaves, refl, slots_in}
use Rattle.frame_table.proofs.Cutting.{cut-slots, cut-store, keys-early, leaves-early, none-early}
use Rattle.frame_table.proofs.slot_store.SlotStore.cut.Given.{Over}
use Rattle.frame_table.proofs.slot_store.SlotStore.cut.Goals.{After-take_under}
use Rattle.frame_table.proofs.slot_store.SlotStore.cut.Goals as goal

-- what the first pass leaves of the slots
module _ (g : Over) (c : After-take_under g) where
  leaves : Leaves c.args.under (slots_in c.self.inside.slab c.self.inside.order.list) c.self.inside.order.list c.self.inside.slab c.take_under.new.slab
  leaves = rw c.as_slice.ensures.value at c.take_under.ensures.left

pub take_under-requires-clause-early : goal.take_under-requires-clause-early
take_under-requires-clause-early g c =
    let q = rw (← c.self.view_is) at c.requires in
    rw c.as_slice.ensures.value (leaves-early c.args.under c.self.inside.slab c.self.inside.order.list c.args.at c.self.invariant.here q.parents q.rise q.within q.named)

pub take_under-requires-clause-none : goal.take_under-requires-clause-none
take_under-requires-clause-none g c =
    let q = rw (← c.self.view_is) at c.requires in
    rw c.as_slice.ensures.value (none-early c.args.under c.self.inside.slab c.self.inside.order.list c.args.at c.self.invariant.here q.parents q.rise q.within q.named)

pub close_up-requires-clause-early : goal.close_up-requires-clause-early
close_up-requires-clause-early g c =
    let q = rw (← c.self.view_is) at c.requires in
    keys-early c.args.under c.self.inside.slab c.self.inside.order.list c.args.at c.self.invariant.here q.parents q.rise q.within q.named c.take_under.new.slab (leaves g (goal.at.close_up-requires-clause-early g c).After-take_under)

pub invariant_of-self : goal.invariant_of-self
invariant_of-self g c =
    let q = rw (← c.self.view_is) at c.requires in
    let values = rw c.as_slice.ensures.value at c.take_under.ensures.values in
    rw c.close_up.ensures (cut-store (leaves g (goal.at.invariant_of-self g c).After-take_under) _ _ c.self.invariant q.parents values c.take_under.ensures.len c.take_under.ensures.capacity)

pub returns-clause-kept : goal.returns-clause-kept
returns-clause-kept g c =
    rw (← c.self.view_is, c.close_up.ensures, cut-slots (leaves g (goal.at.returns-clause-kept g c).After-take_under) c.self.invariant.here) refl
