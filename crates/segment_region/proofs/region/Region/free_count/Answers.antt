-- A region tells its free segments (`Region::free_count`): all but those that are taken.
use Rattle.segment_region.proofs.Common.{arith}
use Rattle.segment_region.proofs.Entries.{length-segments_of_blocks}
use Rattle.segment_region.proofs.region.Region.free_count.Goals as goal

pub returns : goal.returns
returns g c =
    let whole = c.self.invariant.1 in
    rw (← c.self.view_is) (omega (arith, whole.counted, whole.below, whole.all_places, length-segments_of_blocks c.self.inside.mark c.self.inside.cells.slots))
