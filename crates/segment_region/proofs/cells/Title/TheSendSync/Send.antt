-- The right to give a region's memory back (`Title`) may be sent to another thread where its allocator may.
use Rattle.segment_region.proofs.Common.{RattleType, IsSend, Frees, Ghosts}
use Rattle.segment_region.proofs.Threads.{title-moves}
use Rattle.segment_region.specs.contracts.cells.Title.{the_row}

pub send : (T A : RattleType) (g : Ghosts A.Denot) → IsSend A → Frees g g.dealloc_token → IsSend (the_row T A g)
send T A g is anywhere = title-moves T A g anywhere
