-- The core judges a Finish (`Engine::may_finish`): its refusal, or none, is that of the step's definition, also where
-- the frame isn't there.
use Rattle.frame_table.proofs.TreeLaws.{missing}
use Rattle.sched_core.proofs.Deciding.{finish-decided}
use Rattle.sched_core.proofs.Common.{arith}
use Rattle.sched_core.proofs.engine.Engine.may_finish.Goals as goal

pub returns-in_err-seen : goal.returns-in_err-seen
returns-in_err-seen g c = grind (arith, missing)

pub returns : goal.returns
returns g c = grind (arith, finish-decided)
