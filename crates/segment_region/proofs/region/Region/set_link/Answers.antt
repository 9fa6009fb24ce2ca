-- A region chains a taken segment to another (`Region::set_link`): that link alone changes.
use Rattle.segment_region.proofs.Common.{sym}
use Rattle.segment_region.proofs.Entries.{filled-at}
use Rattle.segment_region.proofs.Whole.{whole-write, entries-link}
use Rattle.segment_region.proofs.region.Region.set_link.Goals as goal

pub get_mut-requires : goal.get_mut-requires
get_mut-requires g c = (sym c.self.invariant.0.0, rw c.index-at.ensures (filled-at c.self.inside.mark c.self.inside.cells.slots c.args.segment (rw c.self.view_is c.requires)))

pub invariant_of-self : goal.invariant_of-self
invariant_of-self g c =
    let r = c.self.inside in
    (c.self.invariant.0, rw c.index-at.ensures (whole-write c.self.invariant.1 c.args.segment _ c.args.link (rw (← c.self.view_is) at c.requires) c.taken.ensures))

pub returns : goal.returns
returns g c =
    rw (c.index-at.ensures, ← c.self.view_is) (entries-link c.self.inside.mark c.self.inside.cells.slots c.args.segment c.get_mut.result.now c.taken.result c.args.link (rw (← c.self.view_is) at c.requires) (rw c.index-at.ensures at c.get_mut.ensures.value) c.taken.ensures)
