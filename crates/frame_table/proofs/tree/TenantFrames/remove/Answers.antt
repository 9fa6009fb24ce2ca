-- One tenant's tree in the frame table loses a leaf (`TenantFrames::remove`): its slot, its serial, and its entry
-- among the ready ones.
use Rattle.frame_table.proofs.Changes.{count-without, keeps-left, left-counted}
use Rattle.frame_table.proofs.Common.{IsSeenAt, Slot, [], ap, arith, children_of, frames_from, get_or, if_named, is_ready, length-map, length-remove, recounted, refl, remove, sym, ◌-◌, ◌∙◌, ◌≡◌}
use Rattle.frame_table.proofs.Finds.{keeps-rises, keeps-view, kept-found}
use Rattle.frame_table.proofs.Keys.{removed-index, seen-by, serials_of-recounted}
use Rattle.frame_table.proofs.Readies.{is-tenant, ready_in-recounted, ready_in-remove, tenant-rises}
use Rattle.frame_table.proofs.TreeLaws.{tree-rising}
use Rattle.frame_table.proofs.tree.TenantFrames.remove.Given.{Over}
use Rattle.frame_table.proofs.tree.TenantFrames.remove.Goals.{After-known_place-at}
use Rattle.frame_table.proofs.tree.TenantFrames.remove.Goals as goal

-- the frame's slot and that it has no child
module _ (g : Over) (c : After-known_place-at g) where
  seen : {slot : Slot g.row.T.Denot} → slot ≡ get_or c.self.inside.store.slots c.known_place-at.result slot → IsSeenAt c.self.inside.store.slots c.args.serial c.known_place-at.result slot
  seen read = seen-by _ _ c.self.invariant.index c.known_place-at.ensures.within c.known_place-at.ensures.found read

  leaf : children_of (frames_from [] c.self.inside.store.slots) c.args.serial ≡ []
  leaf = rw (← c.self.view_is) at c.requires.leaf

pub take-slot-requires-clause-counted : goal.take-slot-requires-clause-counted
take-slot-requires-clause-counted g c slot is =
    left-counted c.self.invariant.sound (seen g (goal.at.take-slot-requires-clause-counted g c).After-known_place-at is) (leaf g (goal.at.take-slot-requires-clause-counted g c).After-known_place-at)

pub leave-requires : goal.leave-requires
leave-requires g c = tenant-rises c.self.invariant

pub invariant_of-self : goal.invariant_of-self
invariant_of-self g c =
    let seen = seen g (goal.at.invariant_of-self g c).After-known_place-at c.take-slot.ensures.value in
    let leaf = leaf g (goal.at.invariant_of-self g c).After-known_place-at in
    let slots = c.self.inside.store.slots in
    let less = remove slots c.known_place-at.result in
    let gone = ready_in-remove slots c.known_place-at.result c.args.serial c.take-slot.result (keeps-rises c.self.invariant.sound) seen in
    rw (c.take-slot.ensures.left, c.leave.ensures, c.remove.ensures.left) (is-tenant c.self.invariant (keeps-left c.self.invariant.sound seen leaf)
    (removed-index slots _ c.self.invariant.index c.known_place-at.result ∙ sym (serials_of-recounted c.take-slot.result.parent (λ n. n - 1) less))
    (rw (ready_in-recounted c.take-slot.result.parent (λ n. n - 1) less, c.self.invariant.ready_frames) gone)
    (omega (arith, c.self.invariant.within, length-remove slots c.known_place-at.result seen.within, length-map less (if_named c.take-slot.result.parent (recounted (λ n. n - 1))))))

pub returns : goal.returns
returns g c =
    let k = c.self.invariant.sound in
    let seen = seen g (goal.at.returns g c).After-known_place-at c.take-slot.ensures.value in
    let left = keeps-view (keeps-left k seen (leaf g (goal.at.returns g c).After-known_place-at)) in
    let f = kept-found k seen in
    let state = ap (λ (s : Slot g.row.T.Denot). s.state) f.is in
    rw (← c.self.view_is) (record {
      left = rw (c.take-slot.ensures.left, left) refl;
      value = rw f.at (ap (λ (s : Slot g.row.T.Denot). s.value) (sym f.is));
      count = rw (c.take-slot.ensures.left, left, state) (count-without (λ x. is_ready x.state) c.args.serial _ f.frame (tree-rising _ k.tree) f.at);
    })
