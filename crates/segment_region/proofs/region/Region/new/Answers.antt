-- A new region (`Region::new`): all its segments are free.
use Rattle.segment_region.proofs.Whole.{first-whole, first-entries}
use Rattle.segment_region.proofs.region.Region.new.Goals as goal

-- the memory is what allocate ensures; no segment is taken yet (first-whole)
pub invariant_of-result : goal.invariant_of-result
invariant_of-result g c =
    let made = c.in_ok-base.ensures in
    ((made.0, made.2, made.3, made.4), first-whole c.in_ok-base.cells.slots c.args.count made.1 c.end.result c.requires.in_limits c.end.ensures)

pub returns : goal.returns
returns g c = first-entries c.in_ok-base.cells.slots c.args.count c.in_ok-base.ensures.1
