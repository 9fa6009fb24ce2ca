-- A thief steals from a deque (`steps::steal`): the rule of the deque holds with the task noted as taken.
use Rattle.steal_pool.proofs.TaskDeques.RuleLemmas.{takes}
use Rattle.steal_pool.proofs.task_deques.steps.steal.Goals as goal

pub steal_as-requires-clause-takes : goal.steal_as-requires-clause-takes
steal_as-requires-clause-takes g c = takes _ _ c.requires.part
