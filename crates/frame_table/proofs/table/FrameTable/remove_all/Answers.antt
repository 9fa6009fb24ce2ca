-- The frame table loses all frames of a tenant (`FrameTable::remove_all`): its tree stands without a frame, with as many
-- places as before, and the others are as they were.
use Rattle.frame_table.proofs.Tenants.{has-tree, here-now, new-keeps, new-sound}
use Rattle.std.proofs.Common.{arith, refl, ◌∙◌}
use Rattle.frame_table.proofs.table.FrameTable.remove_all.Goals as goal

pub invariant_of-self : goal.invariant_of-self
invariant_of-self g c =
    let tree = has-tree c.self.invariant c.get_mut-tree.ensures.value in
    rw (c.remove_all.ensures.capacity, c.clear.ensures.capacity, c.remove_all.ensures.left)
    (new-sound tree _ (omega arith) (omega (arith, tree, c.ready-before.ensures)))

pub returns : goal.returns
returns g c =
    let tree = has-tree c.self.invariant c.get_mut-tree.ensures.value in
    rw (← c.self.view_is, tree.own.frames, c.remove_all.ensures.left) (
      (refl, λ _. tt, ((here-now tree refl).frames, new-keeps tree _)),
      record { ends = tt; values = c.as_slice.ensures.value ∙ (rw c.clear.ensures.items at c.remove_all.ensures.values) },
    )
