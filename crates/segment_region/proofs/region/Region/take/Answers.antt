-- A region takes a segment (`Region::take`): one that was free, with sixteen zeros and no link, or None exactly where
-- none is free.
use Rattle.segment_region.proofs.Common.{sym, ap, ◌∙◌, arith, place_link, None, refl}
use Rattle.segment_region.proofs.Whole.{whole-take, whole-mark, listed-head, head-is_free, mark-is_free, entries-write, entries-mark, none-free, some-free}
use Rattle.segment_region.proofs.region.Region.take.Goals as goal

pub get-requires : goal.get-requires
get-requires g c =
    let r = c.self.inside in
    let t = listed-head c.self.invariant.1 c.in-Some.segment (sym c.next.ensures ∙ c.in-Some.is) in
    (sym c.self.invariant.0.0, rw c.index-at.ensures (t.block, t.is))

pub write-requires : goal.write-requires
write-requires g c =
    let r = c.self.inside in
    let t = listed-head c.self.invariant.1 c.in-Some.segment (sym c.next.ensures ∙ c.in-Some.is) in
    (sym c.self.invariant.0.0, omega (arith, c.index-at.ensures, t.below))

pub invariant_of-self : goal.invariant_of-self
invariant_of-self g c =
    let r = c.self.inside in
    let made = c.self.invariant.0 in
    let is = rw c.index-at.ensures at c.get.ensures in
    ((c.write.ensures.0 ∙ made.0, made.1, made.2, made.3), rw (c.write.ensures.1, c.index-at.ensures, c.zeros.ensures) (whole-take c.self.invariant.1 c.in-Some.segment c.get.result.now.link _ (sym c.next.ensures ∙ c.in-Some.is) c.end-link.ensures (ap place_link (sym is))))

pub invariant_of-self-then-self : goal.invariant_of-self-then-self
invariant_of-self-then-self g c =
    let r = c.self.inside in
    let made = c.self.invariant.0 in
    ((c.write-in-None.ensures.0 ∙ made.0, made.1, made.2, made.3), rw (c.write-in-None.ensures.1, c.zeros-in-None.ensures) (whole-mark c.self.invariant.1 _ (omega (arith, c.if-self.true)) c.end-link.ensures))

pub returns-in-Some : goal.returns-in-Some
returns-in-Some g c =
    let r = c.self.inside in
    let t = listed-head c.self.invariant.1 c.in-Some.segment (sym c.next.ensures ∙ c.in-Some.is) in
    let free = head-is_free r.mark r.cells.slots c.in-Some.segment t in
    record {
      fresh = rw (← c.self.view_is) free;
      taken = rw (c.write.ensures.1, c.index-at.ensures, c.zeros.ensures, ← c.self.view_is)
          (entries-write r.mark r.cells.slots c.in-Some.segment _ None t.marked c.end-link.ensures);
      none_free = ((λ h. absurd (cc h)), (λ h. absurd (some-free _ c.in-Some.segment free (rw (← c.self.view_is) at h))));
      unchanged = tt;
    }

pub returns-in-None : goal.returns-in-None
returns-in-None g c =
    let r = c.self.inside in
    let whole = c.self.invariant.1 in
    let free = mark-is_free r.mark r.cells.slots (omega (arith, c.if-self.true, whole.all_places)) in
    record {
      fresh = rw (c.from_number.ensures, ← c.self.view_is) free;
      taken = rw (c.write-in-None.ensures.1, c.from_number.ensures, c.zeros-in-None.ensures, ← c.self.view_is) (entries-mark r.mark r.cells.slots _ None c.end-link.ensures);
      none_free = ((λ h. absurd (cc h)), (λ h. absurd (some-free _ r.mark free (rw (← c.self.view_is) at h))));
      unchanged = tt;
    }

pub returns-in-None-2-clause-none_free : goal.returns-in-None-2-clause-none_free
returns-in-None-2-clause-none_free g c =
    let r = c.self.inside in
    ((λ _. rw (← c.self.view_is) (none-free c.self.invariant.1 (sym c.next.ensures ∙ c.in-None-2.is) (omega (arith, c.if-self.false)))), (λ _. refl))
