-- The ends of a pool's deques are dealt (`dealing::paired`): at each turn, those paired so far and the owners and rows
-- that are left make all workers' ends.
use Rattle.steal_pool.proofs.TaskDeques.Common.{◌≡◌, ◌+◌, ◌≤◌, ◌++◌, map, All, vec_len, vec_capacity, into_iter_items, into_iter_len, owner_room, new_thief, owner_seats, thief_seats, worker_seats, worker_room, beside}
use Rattle.steal_pool.proofs.task_deques.dealing.paired.Given as goal

abbrev pub invariant-loop-own : goal.invariant-loop-own
invariant-loop-own g l =
    let owners = owner_seats l.fn.owners.items in
    let thieves = map new_thief owners in
    (map worker_seats l.all.items ++ map (beside thieves) (owner_seats (into_iter_items l.own-iterator)) ≡ map (beside thieves) owners)
    × All (λ row. thief_seats row.items ≡ thieves) l.rows.items
    × (vec_len l.rows ≡ into_iter_len l.own-iterator)
    × (vec_len l.all + into_iter_len l.own-iterator ≤ vec_capacity l.all)
    × (map worker_room l.all.items ++ map owner_room (into_iter_items l.own-iterator) ≡ map owner_room l.fn.owners.items)
