-- A row of thieves is joined to the owners of a pool's deques (`joining::join_row`): at each turn, the thieves left
-- stand at the owners from this place on.
use Rattle.steal_pool.proofs.TaskDeques.Common.{into_iter_items, owner_seats, thief_seats, with_row}
use Rattle.steal_pool.proofs.TaskDeques.JoinLemmas.{IsTurn}
use Rattle.steal_pool.proofs.task_deques.joining.join_row.Given as goal

abbrev pub invariant-loop-thief : goal.invariant-loop-thief
invariant-loop-thief g l =
    IsTurn (owner_seats l.owners.items) l.place (thief_seats (into_iter_items l.thief-iterator)) (with_row (owner_seats l.initial.owners.items) (thief_seats l.fn.row.items))
