-- A region gets a segment back (`Region::give`): it is free then, at the head of the chain of free ones or above the
-- mark, and all others are as before.
use Rattle.segment_region.proofs.Common.{sym, arith, refl}
use Rattle.segment_region.proofs.Entries.{filled-at}
use Rattle.segment_region.proofs.Whole.{whole-give, whole-less, entries-free, entries-less}
use Rattle.segment_region.proofs.region.Region.give.Goals as goal

pub get_mut-requires : goal.get_mut-requires
get_mut-requires g c = (sym c.self.invariant.0.0, rw c.index-at.ensures (filled-at c.self.inside.mark c.self.inside.cells.slots c.args.segment (rw c.self.view_is c.requires)))

pub invariant_of-self : goal.invariant_of-self
invariant_of-self g c =
    let r = c.self.inside in
    (c.self.invariant.0, rw c.index-at.ensures (whole-less c.self.invariant.1 c.args.segment (rw (← c.self.view_is) at c.requires) (omega (arith, c.if-at-self.true, c.index-at.ensures))))

pub invariant_of-self-else-at-self : goal.invariant_of-self-else-at-self
invariant_of-self-else-at-self g c =
    let r = c.self.inside in
    (c.self.invariant.0, rw c.index-at.ensures (whole-give c.self.invariant.1 c.args.segment _ _ (rw (← c.self.view_is) at c.requires) refl c.before-self-inside.ensures))

pub returns-then-at-self : goal.returns-then-at-self
returns-then-at-self g c =
    let r = c.self.inside in
    rw (c.index-at.ensures, ← c.self.view_is) (entries-less r.mark r.cells.slots c.args.segment (omega (arith, c.if-at-self.true, c.index-at.ensures)))

pub returns-else-at-self : goal.returns-else-at-self
returns-else-at-self g c =
    let r = c.self.inside in
    rw (c.index-at.ensures, ← c.self.view_is) (entries-free r.mark r.cells.slots c.args.segment _ (rw (← c.self.view_is) at c.requires) c.self.invariant.1.is_free)
