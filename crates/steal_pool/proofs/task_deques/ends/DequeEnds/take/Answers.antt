-- A worker takes a task by its ends of a pool's deques (`DequeEnds::take`): a task that it gets was taken from its own
-- deque or stolen from one other, and all other seats are as before.
use Rattle.steal_pool.proofs.TaskDeques.Common.{◌≡◌, List, Option, Some, None, IfSome, inr, subst, Task, DequeEnds, DequeSeatIn, owner_seat, thief_seats, worker_seats, IsStolen, IsTaken}
use Rattle.steal_pool.proofs.task_deques.ends.DequeEnds.take.Goals as goal

-- what is stolen last is taken, where the owner's seat and the thieves' have not changed before
stole : {A : Type 0} (before after : DequeEnds A) (seats : List (DequeSeatIn A)) (result : Option Task) → owner_seat after.own ≡ owner_seat before.own →
    seats ≡ thief_seats before.thieves.items → IfSome result (λ task. IsStolen task seats (thief_seats after.thieves.items)) → IfSome result (λ task. IsTaken task (worker_seats before) (worker_seats after))
stole before after seats None own same stolen = tt
stole {A} before after seats (Some task) own same stolen = inr (own, subst (λ (l : List (DequeSeatIn A)). IsStolen task l (thief_seats after.thieves.items)) same stolen)

pub returns-clause-taken : goal.returns-clause-taken
returns-clause-taken g c =
    stole c.args.self.now (record { own = c.pop.new.self; thieves = c.steal_between-2.new.thieves }) _ _
    c.in_default.ensures.unchanged c.in_default-steal_between.ensures.unchanged c.steal_between-2.ensures.taken
