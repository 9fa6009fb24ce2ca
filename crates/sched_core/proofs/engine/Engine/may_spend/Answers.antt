-- The core judges a Spend (`Engine::may_spend`): where the frame isn't there, the refusal is the one that the step's
-- definition gives.
use Rattle.frame_table.proofs.TreeLaws.{missing}
use Rattle.sched_core.proofs.Common.{arith}
use Rattle.sched_core.proofs.engine.Engine.may_spend.Goals as goal

pub returns-in_err-seen : goal.returns-in_err-seen
returns-in_err-seen g c = grind (arith, missing)
