-- The core looks up a frame for an Advance (`Engine::running`): where it isn't there, the refusal is the one that the
-- step's definition gives.
use Rattle.frame_table.proofs.TreeLaws.{missing}
use Rattle.sched_core.proofs.Common.{arith}
use Rattle.sched_core.proofs.engine.Engine.running.Goals as goal

pub returns-in_err-found-clause-frame : goal.returns-in_err-found-clause-frame
returns-in_err-found-clause-frame g c = grind (arith, missing)
