-- The frame table loses a slot (`SlotStore::take`): what is left is sound, and the parent counts one child less.
use Rattle.frame_table.proofs.Cutting.{has-taken, taken-knows, taken-read, taken-rises, taken-slots, taken-store}
use Rattle.frame_table.proofs.Keys.{are-keys, re-keyed}
use Rattle.std.proofs.Common.{refl}
use Rattle.frame_table.proofs.slot_store.SlotStore.take.Goals as goal

pub disown-requires : goal.disown-requires
disown-requires g c =
    let q = rw (← c.self.view_is) at c.requires in
    let taken = has-taken c.self.invariant q.rise q.within c.remove-key.ensures.value c.remove-gone.ensures.value c.remove-gone.ensures.updates in
    let are = are-keys (taken-store taken q.leaf c.remove-gone.ensures.len c.remove-gone.ensures.capacity) in
    rw c.remove-key.ensures.left (record {
      keys = are;
      rise = taken-rises taken;
      above = taken-knows taken are;
      counted = rw (taken-slots taken) (q.counted c.remove-gone.result.slot (taken-read taken));
    })

pub invariant_of-self : goal.invariant_of-self
invariant_of-self g c =
    let q = rw (← c.self.view_is) at c.requires in
    let taken = has-taken c.self.invariant q.rise q.within c.remove-key.ensures.value c.remove-gone.ensures.value c.remove-gone.ensures.updates in
    let store = taken-store taken q.leaf c.remove-gone.ensures.len c.remove-gone.ensures.capacity in
    rw c.remove-key.ensures.left (re-keyed store (rw c.remove-key.ensures.left at c.disown.ensures.keys) c.disown.ensures.capacity)

pub returns : goal.returns
returns g c =
    let q = rw (← c.self.view_is) at c.requires in
    let taken = has-taken c.self.invariant q.rise q.within c.remove-key.ensures.value c.remove-gone.ensures.value c.remove-gone.ensures.updates in
    rw (← c.self.view_is) (record {
      left = rw (c.remove-key.ensures.left, (rw c.remove-key.ensures.left at c.disown.ensures.slots), taken-slots taken) refl;
      value = taken-read taken;
    })
