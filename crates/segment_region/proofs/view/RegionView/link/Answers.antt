-- A read of a region (`RegionView::link`): the segment that a taken one is chained to.
use Rattle.segment_region.proofs.Common.{sym, ◌∙◌}
use Rattle.segment_region.proofs.Entries.{filled-at, link-is}
use Rattle.segment_region.proofs.view.RegionView.link.Goals as goal

pub get-requires : goal.get-requires
get-requires c = (sym c.self.invariant.0, rw c.index-at.ensures (filled-at c.self.inside.mark c.self.inside.cells.now.slots c.args.segment (rw c.self.view_is c.requires)))

pub returns : goal.returns
returns c =
    rw (← c.self.view_is) (c.next.ensures ∙ sym (link-is c.self.inside.mark c.self.inside.cells.now.slots c.args.segment c.get.result.now (rw (← c.self.view_is) at c.requires) (rw c.index-at.ensures at c.get.ensures)))
