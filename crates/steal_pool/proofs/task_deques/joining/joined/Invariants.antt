-- All thieves are joined to the owners of a pool's deques (`joining::joined`): at each turn, the rows joined so far
-- and those left make all.
use Rattle.steal_pool.proofs.TaskDeques.Common.{◌≡◌, map, vec_len, into_iter_items, owner_seats, thief_seats, with_rows}
use Rattle.steal_pool.proofs.TaskDeques.JoinLemmas.{AreTurns}
use Rattle.steal_pool.proofs.task_deques.joining.joined.Given as goal

abbrev pub invariant-loop-row : goal.invariant-loop-row
invariant-loop-row g l =
    AreTurns (owner_seats l.owners.items) (map (λ row. thief_seats row.items) (into_iter_items l.row-iterator))
    (with_rows (owner_seats l.fn.owners.items) (map (λ row. thief_seats row.items) l.fn.rows.items))
    × (vec_len l.owners ≡ vec_len l.fn.owners)
