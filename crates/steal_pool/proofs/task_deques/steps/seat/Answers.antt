-- A thief gets a seat at a deque (`steps::seat`): the owner's parts are split, and the rule of the deque holds of
-- both.
use Rattle.steal_pool.proofs.TaskDeques.RuleLemmas.{forks}
use Rattle.steal_pool.proofs.task_deques.steps.seat.Goals as goal

pub another-requires : goal.another-requires
another-requires g c = forks _ _ c.requires
