-- The frame table's first pass of an abort (`slot_store::take_under`): each slot below the frame is removed, its value
-- appended, and no other slot changes.
use Rattle.frame_table.proofs.Common.{[], append-nil, arith, get_or, get_or_default, length, refl, slots_in, sym, take_all, ◌<◌, ◌∙◌, ◌≤◌}
use Rattle.frame_table.proofs.SlotStores.{goes-there, read-there, stays-there, slots_in-length}
use Rattle.frame_table.proofs.slot_store.take_under.Goals.{else-is_taken, then-is_taken}
use Rattle.frame_table.proofs.slot_store.take_under.Goals as goal

pub loop-at-init : goal.loop-at-init
loop-at-init g c = (
  record {
    left = c.requires.early;
    written = rw c.requires.none (sym (append-nil c.args.removed.now.items));
    counted = refl;
    room = omega arith;
    capacity = refl;
  },
  refl,
)

pub loop-at-preserved : goal.loop-at-preserved
loop-at-preserved g c =
    let order = c.args.order.now in
    let here : c.loop-at.at < length order = c.loop-at-test.true in
    let left = c.loop-at.invariant.0 in
    elim c.if-is_taken.branch [
      | then-is_taken w ↦ rw (w.slab-is, w.removed-is, w.push_reserved.ensures.items) (
        goes-there left c.requires.here c.requires.apart c.requires.parents here (sym c.is_taken.ensures ∙ w.if-is_taken.true) w.remove-gone.ensures.value w.remove-gone.ensures.updates w.remove-gone.ensures.len w.remove-gone.ensures.capacity
            (read-there order c.loop-at.at here (omega arith)),
        w.push_reserved.ensures.capacity ∙ c.loop-at.invariant.1,
      )
      | else-is_taken w ↦ rw (w.slab-is, w.removed-is) (
        stays-there left c.requires.here c.requires.apart c.requires.parents here (sym c.is_taken.ensures ∙ w.if-is_taken.false) (read-there order c.loop-at.at here (omega arith)),
        c.loop-at.invariant.1,
      )
    ]

pub returns-clause-values : goal.returns-clause-values
returns-clause-values g c =
    let slots = slots_in c.args.slab.now c.args.order.now in
    let all : length slots ≤ c.loop-at.at = omega (arith, c.loop-at-test.false, slots_in-length c.args.slab.now [] c.args.order.now c.requires.here) in
    rw (take_all c.loop-at.at slots all) at c.loop-at.invariant.0.written
