-- Of a tenant's ready frames: the one that is named has the greatest serial, so the law
-- `the_newest_ready_frame_has_the_greatest_serial`.
use Rattle.sched_laws.proofs.Common.{tree-rising}
use Rattle.sched_laws.proofs.Latest.{newest-found, newest-none}
use Rattle.sched_laws.proofs.runs.the_newest_ready_frame_has_the_greatest_serial.Goals as goal

pub returns : goal.returns
returns c = record {
  found = λ tenant number name home shape is. newest-found number tenant.frames name home (tree-rising tenant.frames shape.tree) is;
  none = λ tenant number s frame shape is at. newest-none number tenant.frames s frame is at;
}
