-- The core admits a tenant (`Engine::admit`): what is left in the store is what the definition of an Admit gives, or
-- memory was refused.
use Rattle.sched_core.proofs.TakenStep.{step_result-admission}
use Rattle.sched_core.proofs.Beginning.{admit-taken}
use Rattle.sched_core.proofs.engine.Engine.admit.Goals as goal

pub returns-clause-admitted : goal.returns-clause-admitted
returns-clause-admitted g c =
    step_result-admission _ c.in_ok-may_admit.ensures.refusal c.as_memory_allows.ensures c.admit.ensures.ok c.admit.ensures.err
    (admit-taken c.in_ok-may_admit.ensures.known c.in_ok-may_admit.ensures.refusal)
