-- One tenant's tree in the frame table (`TenantFrames::contains`): the answer is true exactly where a frame has this
-- serial.
use Rattle.frame_table.proofs.Finds.{has_slot-kept}
use Rattle.frame_table.proofs.Keys.{found-there}
use Rattle.std.proofs.Common.{◌∙◌}
use Rattle.frame_table.proofs.tree.TenantFrames.contains.Goals as goal

pub returns : goal.returns
returns g c =
    let there = found-there c.self.inside.store.slots _ c.self.invariant.index c.args.serial c.place_of.result c.place_of.ensures.found c.place_of.ensures.none in
    rw (← c.self.view_is) (c.is_some.ensures ∙ (there ∙ has_slot-kept c.self.invariant.sound c.args.serial))
