-- The frame table closes the gaps in its list of keys after an abort (`slot_store::close_up`): what is left is the
-- keys that have a slot, in their order.
use Rattle.frame_table.proofs.slot_store.close_up.Goals.{else-contains, then-contains}
use Rattle.std.proofs.Common.{arith, length, refl, sym, ◌<◌}
use Rattle.std.proofs.lemmas.List.Filters.{FiltersInPlace-all, FiltersInPlace-more_no, FiltersInPlace-more_set}
use Rattle.frame_table.proofs.slot_store.close_up.Goals as goal

pub loop-at-init : goal.loop-at-init
loop-at-init g c = (record { front = sym c.requires.early; rest = refl; behind = omega arith; within = c.requires.within; long = refl }, refl)

pub loop-at-preserved : goal.loop-at-preserved
loop-at-preserved g c =
    let passed = c.loop-at.invariant.0 in
    let here : c.loop-at.at < length c.loop-at.order.list = omega (arith, c.loop-at-test.true, c.len-at-end.ensures, passed.long) in
    elim c.if-contains.branch [
      | then-contains w ↦ rw (w.order-is, w.kept-is, w.put.ensures) (FiltersInPlace-more_set passed here (grind (arith, w.if-contains.true, c.contains.ensures)) c.at-key.ensures, c.loop-at.invariant.1)
      | else-contains w ↦ rw (w.order-is, w.kept-is) (FiltersInPlace-more_no passed here (grind (arith, w.if-contains.false, c.contains.ensures)) c.at-key.ensures, c.loop-at.invariant.1)
    ]

pub returns : goal.returns
returns g c =
    let passed = c.loop-at.invariant.0 in
    let all = FiltersInPlace-all passed (omega (arith, c.loop-at-test.false, c.len-at-end.ensures)) in
    rw (c.truncate.ensures, all, c.loop-at.invariant.1) refl
