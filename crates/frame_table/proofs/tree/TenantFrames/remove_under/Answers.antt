-- An abort in one tenant's tree of the frame table (`TenantFrames::remove_under`): at a leaf nothing goes, else slots,
-- serials and ready frames are cut.
use Rattle.frame_table.proofs.Changes.{cleared, keeps-cut, keeps-cut-at, keeps-gone}
use Rattle.frame_table.proofs.Common.{IsSeenAt, [], append-nil, arith, children_of, frames_from, kept_slots, length-set, length-take, recounted, refl, set, sym, ◌∙◌, ◌≡◌}
use Rattle.frame_table.proofs.Cutting.{CutsReady, childless-serial, cut-length, cut-ready, leaf-aborted, leaf-none-under}
use Rattle.frame_table.proofs.Finds.{counted-children, keeps-rises, keeps-view, kept-length, none-of-length}
use Rattle.frame_table.proofs.Keys.{cut-index, seen-by}
use Rattle.frame_table.proofs.Readies.{is-tenant, tenant-rises}
use Rattle.frame_table.proofs.tree.TenantFrames.remove_under.Given.{Over}
use Rattle.frame_table.proofs.tree.TenantFrames.remove_under.Goals.{After-at-slot}
use Rattle.frame_table.proofs.tree.TenantFrames.remove_under.Goals as goal

-- the slot of the frame, as it was found
module _ (g : Over) (c : After-at-slot g) where
  seen : IsSeenAt c.self.inside.store.slots c.args.serial c.known_place-at.result c.at-slot.result
  seen = seen-by _ _ c.self.invariant.index c.known_place-at.ensures.within c.known_place-at.ensures.found c.at-slot.ensures

  leaf : c.at-slot.result.children ≡ 0 → children_of (frames_from [] c.self.inside.store.slots) c.args.serial ≡ []
  leaf none = none-of-length _ (sym (counted-children c.self.invariant.sound seen) ∙ none)

  cuts : CutsReady c.self.inside.store.slots (kept_slots c.args.serial (set c.self.inside.store.slots c.known_place-at.result (recounted (λ m. 0) c.at-slot.result))) c.known_place-at.result c.args.serial c.self.inside.store.places c.self.inside.ready.list
  cuts = cut-ready c.self.invariant.sound seen c.self.invariant.ready_frames c.self.invariant.within

pub cut-requires : goal.cut-requires
cut-requires g c =
    let k = c.self.invariant.sound in
    let seen = seen g (goal.at.cut-requires g c).After-at-slot in
    let clear = cleared k seen in
    let room = rw (← c.self.view_is) at c.requires.room in
    let long = length-set c.self.inside.store.slots c.known_place-at.result (recounted (λ m. 0) c.at-slot.result) in
    rw c.put.ensures (record {
      within = omega (arith, seen.within, long);
      named = childless-serial k seen;
      parents = keeps-cut-at clear c.args.serial;
      rise = keeps-rises clear;
      room = omega (arith, room, kept-length k, long);
    })

pub forget_from-requires : goal.forget_from-requires
forget_from-requires g c = tenant-rises c.self.invariant

pub add_serials-requires : goal.add_serials-requires
add_serials-requires g c =
    let seen = seen g (goal.at.add_serials-requires g c).After-at-slot in
    let cuts = cuts g (goal.at.add_serials-requires g c).After-at-slot in
    let fewer = cut-length c.self.invariant.sound seen in
    rw (c.truncate.ensures, c.cut.ensures.kept, c.put.ensures) (record { within = cuts.within; room = omega (arith, length-take c.known_place-at.result c.self.inside.serials.list, fewer, c.self.invariant.within, c.self.invariant.serial_places) })

pub add_ready-requires : goal.add_ready-requires
add_ready-requires g c =
    let cuts = cuts g (goal.at.add_ready-requires g c).After-at-slot in
    let room = cuts.room in
    rw (c.forget_from.ensures, c.cut.ensures.kept, c.put.ensures) (record { within = cuts.within; room = omega (arith, room, c.self.invariant.ready_places) })

pub invariant_of-self : goal.invariant_of-self
invariant_of-self g c =
    let seen = seen g (goal.at.invariant_of-self g c).After-at-slot in
    let cuts = cuts g (goal.at.invariant_of-self g c).After-at-slot in
    rw (c.add_ready.ensures, c.forget_from.ensures, c.add_serials.ensures, c.truncate.ensures, c.cut.ensures.kept, c.put.ensures) (is-tenant c.self.invariant (keeps-cut c.self.invariant.sound seen)
    (cut-index c.self.inside.store.slots _ c.self.invariant.index _ c.known_place-at.result cuts.front)
    cuts.ready
    (omega (arith, cut-length c.self.invariant.sound seen, c.self.invariant.within)))

pub returns-then-slot-eq0 : goal.returns-then-slot-eq0
returns-then-slot-eq0 g c =
    let leaf = leaf g (goal.at.returns-then-slot-eq0 g c).After-at-slot c.if-slot-eq0.true in
    rw (← c.self.view_is) (record {
      left = rw (leaf-aborted c.args.serial _ c.self.invariant.sound.tree leaf) refl;
      values = rw (leaf-none-under c.args.serial _ c.self.invariant.sound.tree leaf) (sym (append-nil _));
      capacity = refl;
    })

pub returns : goal.returns
returns g c =
    let seen = seen g (goal.at.returns g c).After-at-slot in
    rw (← c.self.view_is) (record {
      left = rw (c.cut.ensures.kept, c.put.ensures, keeps-view (keeps-cut c.self.invariant.sound seen)) refl;
      values = rw (← keeps-gone (cleared c.self.invariant.sound seen) c.args.serial) (rw c.put.ensures at c.cut.ensures.values);
      capacity = c.cut.ensures.capacity;
    })
