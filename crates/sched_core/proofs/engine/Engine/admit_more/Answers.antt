-- The core raises a reservation (`Engine::admit_more`): what is left in the store is what the definition of an
-- AdmitMore gives, or memory was refused.
use Rattle.sched_core.proofs.Common.{arith}
use Rattle.sched_core.proofs.TakenStep.{step_result-admission}
use Rattle.sched_core.proofs.Beginning.{raise-taken}
use Rattle.sched_core.proofs.engine.Engine.admit_more.Goals as goal

pub raise-requires-clause-above : goal.raise-requires-clause-above
raise-requires-clause-above g c = grind arith

pub raise-requires-clause-room : goal.raise-requires-clause-room
raise-requires-clause-room g c = grind arith

pub returns-clause-admitted : goal.returns-clause-admitted
returns-clause-admitted g c = grind (arith, step_result-admission, raise-taken)
