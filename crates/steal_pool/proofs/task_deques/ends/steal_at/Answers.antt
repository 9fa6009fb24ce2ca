-- A worker steals by its thief at one deque (`ends::steal_at`): the task is that thief's, and the other thieves are as
-- before.
use Rattle.steal_pool.proofs.TaskDeques.Common.{arith}
use Rattle.steal_pool.proofs.TaskDeques.SeatLemmas.{thief-stole}
use Rattle.steal_pool.proofs.task_deques.ends.steal_at.Goals as goal

pub returns-clause-taken : goal.returns-clause-taken
returns-clause-taken g c =
    thief-stole c.args.thieves.now.items c.args.place _ _ _ (omega (arith, c.args.thieves.now.ok.0)) c.index_mut.ensures.value c.steal.ensures.taken
