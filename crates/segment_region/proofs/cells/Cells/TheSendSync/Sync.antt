-- The owner of a region's memory (`Cells`) may be seen by several threads where the values in it may.
use Rattle.segment_region.proofs.Common.{RattleType, IsSync, the_row}
use Rattle.segment_region.proofs.Threads.{cells-show}

pub sync : (R : RattleType) → IsSync R → IsSync (the_row R)
sync R is = cells-show R is
