-- A read of a region (`RegionView::words`): the sixteen words of a taken segment.
use Rattle.segment_region.proofs.Common.{sym, arith}
use Rattle.segment_region.proofs.Entries.{taken-block, words_at-place}
use Rattle.segment_region.proofs.view.RegionView.words.Goals as goal

-- No answer names the place that is read, so that the contract decides which one it may be.

pub get-requires : goal.get-requires
get-requires c =
    let r = c.self.inside in
    let t = taken-block r.mark r.cells.now.slots c.args.segment (rw (← c.self.view_is) at c.requires) in
    (sym c.self.invariant.0, c.self.invariant.1 _ (omega arith))

pub returns-clause-value : goal.returns-clause-value
returns-clause-value c =
    let r = c.self.inside in
    rw (← c.self.view_is) (sym (words_at-place r.mark r.cells.now.slots _ c.args.segment c.get.result.now (omega arith) (rw (← c.self.view_is) at c.requires) c.get.ensures))
