-- A tenant gets more places in the frame table (`FrameTable::reserve_more`): its tree has them, or is as it was where
-- memory is refused.
use Rattle.frame_table.proofs.Common.{arith, length-with, owner_of_tree, refl}
use Rattle.frame_table.proofs.Tenants.{has-tree, here-now, others-keep, raised-sound, unraised, unraised-sound}
use Rattle.std.proofs.Common.{Err, Ok, OnErr, Result}
use Rattle.frame_table.proofs.table.FrameTable.reserve_more.Goals as goal

on-err : {T E : Type 0} (r : Result T E) (P : Type 0) → P → OnErr r P
on-err (Ok x) P p = tt
on-err (Err e) P p = p

pub raise-requires-clause-more : goal.raise-requires-clause-more
raise-requires-clause-more g c = rw (← c.self.view_is, (has-tree c.self.invariant c.get_mut-tree.ensures.value).own.places) at c.requires.more

pub invariant_of-self-in_err-raise : goal.invariant_of-self-in_err-raise
invariant_of-self-in_err-raise g c =
    rw c.in_err-raise.ensures.err (unraised-sound (has-tree c.self.invariant c.get_mut-tree.ensures.value) (omega (arith, c.clear.ensures.capacity, c.reserve.ensures.capacity)))

pub returns-in_err-raise-clause-err : goal.returns-in_err-raise-clause-err
returns-in_err-raise-clause-err g c =
    let same = unraised (has-tree c.self.invariant c.get_mut-tree.ensures.value) in
    rw (← c.self.view_is, c.in_err-raise.ensures.err) (on-err c.from_residual-in_err-raise.result _ same)

pub invariant_of-self-2 : goal.invariant_of-self-2
invariant_of-self-2 g c =
    let tree = has-tree c.self.invariant c.get_mut-tree.ensures.value in
    let more = rw (← c.self.view_is, tree.own.places) at c.requires.more in
    rw c.in_ok-raise.ensures.ok (raised-sound tree _ more c.requires.few (omega (arith, c.in_ok-reserve.ensures.ok, c.clear.ensures.len))
    (omega (arith, c.clear.ensures.capacity, c.reserve.ensures.capacity)))

pub returns : goal.returns
returns g c =
    let tree = has-tree c.self.invariant c.get_mut-tree.ensures.value in
    rw (← c.self.view_is, c.in_ok-raise.ensures.ok) (record {
      places = (here-now tree refl).places;
      frames = rw tree.own.frames (here-now tree refl).frames;
      kept = others-keep _ _ _ tree.own.named;
      count = length-with owner_of_tree c.args.tenant _ c.self.inside.trees;
      err = tt;
    })
