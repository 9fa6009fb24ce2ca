-- The core judges a Take (`Engine::may_take`): its refusal, or none, is that of the step's definition, also where the
-- frame isn't there.
use Rattle.frame_table.proofs.TreeLaws.{missing}
use Rattle.sched_core.proofs.Common.{arith}
use Rattle.sched_core.proofs.Deciding.{take-decided}
use Rattle.sched_core.proofs.engine.Engine.may_take.Goals as goal

pub returns-in_err-seen-clause-refusal : goal.returns-in_err-seen-clause-refusal
returns-in_err-seen-clause-refusal g c = grind (arith, missing)

pub returns-clause-refusal : goal.returns-clause-refusal
returns-clause-refusal g c = grind (arith, take-decided)
