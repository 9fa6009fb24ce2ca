-- The hall writes a step into its tenant's journal (`journal::write`): it is the last of that journal then, and no
-- other journal changes.
use Rattle.hall.proofs.Common.{arith, longer, put-changed, said-found, thing-own}
use Rattle.hall.proofs.Lists.{further-longer}
use Rattle.hall.proofs.journal.write.Goals as goal

pub write-requires : goal.write-requires
write-requires g c = grind (arith, said-found, thing-own)

pub returns : goal.returns
returns g c = grind (arith, put-changed, longer, further-longer)
