-- The rows of thieves of all workers (`dealing::rows`): at each turn, each owner has given as many parts as rows were
-- made, each row has a thief at each deque, and there is room for all rows, which are fewer than 64.
use Rattle.steal_pool.proofs.TaskDeques.Common.{◌≡◌, ◌-◌, ◌<◌, ◌≤◌, map, All, vec_len, vec_capacity, owner_room, new_thief, owner_seats, thief_seats, fresh_with}
use Rattle.steal_pool.proofs.task_deques.dealing.rows.Given as goal

abbrev pub invariant-loop-made : goal.invariant-loop-made
invariant-loop-made g l =
    let before = owner_seats l.initial.owners.items in
    (owner_seats l.owners.items ≡ map (fresh_with (64 - l._made)) before)
    × All (λ row. thief_seats row.items ≡ map new_thief before) l.rows.items
    × (vec_len l.rows ≡ l._made) × (l.count ≤ vec_capacity l.rows) × (l.count < 64)
    × (map owner_room l.owners.items ≡ map owner_room l.initial.owners.items)
