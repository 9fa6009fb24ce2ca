-- A tenant comes to the frame table (`FrameTable::reserve_first`): there is one more tree, without a frame.
use Rattle.frame_table.proofs.Common.{[], arith, length, length-inserted, owner_of_tree, said-inserted-other, ◌<◌}
use Rattle.frame_table.proofs.Tenants.{more-room, reserve-here, reserve-sound}
use Rattle.frame_table.proofs.table.FrameTable.reserve_first.Goals as goal

pub invariant_of-self-in_err-tree : goal.invariant_of-self-in_err-tree
invariant_of-self-in_err-tree g c =
    more-room c.self.invariant (omega (arith, c.clear.ensures.capacity, c.reserve.ensures.capacity))

pub invariant_of-self-2 : goal.invariant_of-self-2
invariant_of-self-2 g c =
    let fresh = rw (← c.self.view_is) at c.requires.fresh in
    let free : length c.self.inside.trees < 64 = rw (← c.self.view_is) at c.requires.free in
    rw (c.insert.ensures, c.in_ok-tree.ensures) (reserve-sound c.args.tenant c.args.segments c.self.invariant fresh
    (omega (arith, c.clear.ensures.capacity, c.reserve.ensures.capacity)) (omega (arith, c.in_ok-reserve.ensures.ok, c.clear.ensures.len))
    c.requires.some c.requires.few free)

pub returns : goal.returns
returns g c =
    let fresh = rw (← c.self.view_is) at c.requires.fresh in
    rw (← c.self.view_is, c.insert.ensures, c.in_ok-tree.ensures) (record {
      places = reserve-here c.args.tenant c.args.segments c.self.invariant fresh (λ tree. tree.places) 0;
      frames = reserve-here c.args.tenant c.args.segments c.self.invariant fresh (λ tree. tree.frames) [];
      kept = grind (arith, said-inserted-other);
      count = length-inserted owner_of_tree _ c.self.inside.trees;
      err = tt;
    })
