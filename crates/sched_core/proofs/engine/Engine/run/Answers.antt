-- The core lets a worker run a frame (`Engine::run`): the worker held no other, a step is counted, and the tenant is
-- as the definition says.
use Rattle.sched_core.proofs.Common.{arith}
use Rattle.sched_core.proofs.TakenStep.{left-still}
use Rattle.sched_core.proofs.engine.Engine.run.Goals as goal

pub hold-requires-clause-names : goal.hold-requires-clause-names
hold-requires-clause-names g c = grind arith

pub count_step-requires : goal.count_step-requires
count_step-requires g c = grind (arith, left-still)

pub returns-clause-ran : goal.returns-clause-ran
returns-clause-ran g c = grind arith
