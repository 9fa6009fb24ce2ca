-- A worker pushes on its own deque (`steps::push`): the rule of the deque holds with the task noted as pushed.
use Rattle.steal_pool.proofs.TaskDeques.RuleLemmas.{pushes}
use Rattle.steal_pool.proofs.task_deques.steps.push.Goals as goal

pub push_as-requires-clause-pushes : goal.push_as-requires-clause-pushes
push_as-requires-clause-pushes g c = pushes _ _ c.requires _
