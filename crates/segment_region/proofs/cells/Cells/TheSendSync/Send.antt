-- The owner of a region's memory (`Cells`) may be sent to another thread where the values in it may.
use Rattle.segment_region.proofs.Common.{RattleType, IsSend, the_row}
use Rattle.segment_region.proofs.Threads.{cells-move}

pub send : (R : RattleType) → IsSend R → IsSend (the_row R)
send R is = cells-move R is
