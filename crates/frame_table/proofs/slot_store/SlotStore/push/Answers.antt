-- The frame table gets a slot more (`SlotStore::push`): the parent counts it, and the store stays sound.
use Rattle.frame_table.proofs.Keys.{re-keyed}
use Rattle.frame_table.proofs.SlotStores.{push-slots, push-store, slots_in-length}
use Rattle.std.proofs.Common.{[], refl}
use Rattle.frame_table.proofs.slot_store.SlotStore.push.Goals as goal

pub invariant_of-self : goal.invariant_of-self
invariant_of-self g c =
    let order = c.self.inside.order.list in
    let less = rw (← c.self.view_is, slots_in-length c.self.inside.slab [] order c.self.invariant.here) at c.requires.room in
    let store = re-keyed c.self.invariant c.adopt-root.ensures.keys c.adopt-root.ensures.capacity in
    let put = c.insert_reserved-key.ensures in
    rw c.push.ensures (push-store order put.was_vacant put.updates _ _ store less c.adopt-root.ensures.above put.len put.capacity)

pub returns : goal.returns
returns g c =
    let put = c.insert_reserved-key.ensures in
    let slots = push-slots c.self.inside.order.list put.was_vacant put.updates c.adopt-root.ensures.keys.here in
    rw (← c.self.view_is, c.push.ensures, slots, c.adopt-root.ensures.slots, c.adopt-root.ensures.root) refl
