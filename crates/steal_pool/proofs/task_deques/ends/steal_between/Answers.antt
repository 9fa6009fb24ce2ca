-- A worker steals by its thieves in turn (`ends::steal_between`): the task that is returned was stolen by one of them.
use Rattle.steal_pool.proofs.TaskDeques.Common.{List, subst, DequeSeatIn, thief_seats, IsStolen}
use Rattle.steal_pool.proofs.task_deques.ends.steal_between.Goals as goal

pub returns-in-Some-clause-taken : goal.returns-in-Some-clause-taken
returns-in-Some-clause-taken g c =
    subst (λ (l : List (DequeSeatIn g.row.A.Denot)). IsStolen c.in-Some.task l (thief_seats c.steal_at.new.thieves.items)) c.loop-place.invariant.0 c.in-Some.ensures.taken
