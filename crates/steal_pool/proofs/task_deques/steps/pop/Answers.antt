-- A worker takes from its own deque (`steps::pop`): the rule of the deque holds with the task noted as taken, be the
-- deque one that gives the newest or the oldest first.
use Rattle.steal_pool.proofs.TaskDeques.RuleLemmas.{takes, pops}
use Rattle.steal_pool.proofs.task_deques.steps.pop.Goals as goal

pub pop_as-requires-clause-fifo : goal.pop_as-requires-clause-fifo
pop_as-requires-clause-fifo g c = λ _. takes _ _ c.requires

pub pop_as-requires-clause-lifo : goal.pop_as-requires-clause-lifo
pop_as-requires-clause-lifo g c = λ _. pops _ _ c.requires
