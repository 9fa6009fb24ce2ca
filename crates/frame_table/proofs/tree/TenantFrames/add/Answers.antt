-- One tenant's tree in the frame table gets a frame (`TenantFrames::add`): its slot, its serial, and its entry among
-- the ready ones.
use Rattle.frame_table.proofs.Changes.{keeps-added}
use Rattle.frame_table.proofs.Common.{[], arith, frames_from, length-append, new_frame, refl, ◌∷◌}
use Rattle.frame_table.proofs.Finds.{keeps-view, kept-length}
use Rattle.frame_table.proofs.Keys.{added-index}
use Rattle.frame_table.proofs.Readies.{added-ready, is-tenant}
use Rattle.frame_table.proofs.tree.TenantFrames.add.Goals as goal

pub invariant_of-self : goal.invariant_of-self
invariant_of-self g c =
    let slots = c.self.inside.store.slots in
    let q = rw (← c.self.view_is) at c.requires in
    let k = keeps-added c.self.invariant.sound c.args.serial c.args.home c.args.parent c.args.value q.above q.parent in
    rw (c.push.ensures, c.push-2.ensures, c.push-3.ensures) (is-tenant c.self.invariant k
    (added-index slots _ c.self.invariant.index c.args.parent _)
    (added-ready slots c.args.parent _ c.args.home c.self.inside.ready.list c.self.invariant.ready_frames refl)
    (omega (arith, q.room, kept-length k, length-append (frames_from [] slots) (new_frame (frames_from [] slots) c.args.serial c.args.parent c.args.home c.args.value ∷ []))))

pub returns : goal.returns
returns g c =
    let q = rw (← c.self.view_is) at c.requires in
    let k = keeps-added c.self.invariant.sound c.args.serial c.args.home c.args.parent c.args.value q.above q.parent in
    rw (← c.self.view_is, c.push.ensures, keeps-view k) refl
