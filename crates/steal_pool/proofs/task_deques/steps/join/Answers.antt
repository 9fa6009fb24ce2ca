-- A thief's seat is joined to the owner's of a deque (`steps::join`): the rule of the deque holds of what both know
-- together.
use Rattle.steal_pool.proofs.TaskDeques.RuleLemmas.{merges}
use Rattle.steal_pool.proofs.task_deques.steps.join.Goals as goal

pub absorb-requires-clause-rule : goal.absorb-requires-clause-rule
absorb-requires-clause-rule g c = merges _ _ _ _ c.requires.part
