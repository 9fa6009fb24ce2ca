-- The frame table writes over one frame's slot (`SlotStore::put`): the slot at that place is replaced, no other
-- changes, and the store stays sound.
use Rattle.frame_table.proofs.Keys.{are-keys, put-slots, put-store}
use Rattle.frame_table.proofs.SlotStores.{kept-read, slot-read, slots_in-length}
use Rattle.std.proofs.Common.{[], refl}
use Rattle.frame_table.proofs.slot_store.SlotStore.put.Goals as goal

pub invariant_of-self : goal.invariant_of-self
invariant_of-self g c =
    let slab = c.self.inside.slab in
    let order = c.self.inside.order.list in
    let within = rw (← c.self.view_is, slots_in-length slab [] order c.self.invariant.here) at c.requires.within in
    let kept = kept-read slab order c.args.at c.at-key.result c.self.invariant.here within c.at-key.ensures in
    let was = slot-read slab order c.args.at c.at-key.result c.self.invariant.here within c.at-key.ensures c.args.slot kept.1 in
    let serial = rw (← c.self.view_is, was) at c.requires.serial in
    let parent = rw (← c.self.view_is, was) at c.requires.parent in
    put-store kept.1 (c.put_kept.ensures.put kept.0 kept.1) serial parent c.self.invariant c.put_kept.ensures.len c.put_kept.ensures.capacity

pub returns : goal.returns
returns g c =
    let slab = c.self.inside.slab in
    let order = c.self.inside.order.list in
    let within = rw (← c.self.view_is, slots_in-length slab [] order c.self.invariant.here) at c.requires.within in
    let kept = kept-read slab order c.args.at c.at-key.result c.self.invariant.here within c.at-key.ensures in
    rw (← c.self.view_is, put-slots kept.1 (c.put_kept.ensures.put kept.0 kept.1) c.args.at (are-keys c.self.invariant) within c.at-key.ensures) refl
