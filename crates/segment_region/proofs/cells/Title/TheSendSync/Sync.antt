-- The right to give a region's memory back (`Title`) may be seen by several threads.
use Rattle.segment_region.proofs.Common.{RattleType, IsSync, Ghosts}
use Rattle.segment_region.proofs.Threads.{title-shows}
use Rattle.segment_region.specs.contracts.cells.Title.{the_row}

pub sync : (T A : RattleType) (g : Ghosts A.Denot) → IsSync (the_row T A g)
sync T A g = title-shows T A g
