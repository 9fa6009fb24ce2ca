-- A worker's row of thieves (`dealing::row`): at each turn, each owner passed so far has given one part, and the row
-- has a thief at each of them.
use Rattle.steal_pool.proofs.TaskDeques.Common.{◌≡◌, ◌≤◌, ◌++◌, map, take, drop, length, vec_len, vec_capacity, owner_room, with_part_cut, new_thief, owner_seats, thief_seats}
use Rattle.steal_pool.proofs.task_deques.dealing.row.Given as goal

abbrev pub invariant-loop-place : goal.invariant-loop-place
invariant-loop-place g l =
    let before = owner_seats l.initial.owners.items in
    (owner_seats l.owners.items ≡ map with_part_cut (take l.place before) ++ drop l.place before)
    × (thief_seats l.row.items ≡ map new_thief (take l.place before))
    × (vec_len l.row ≡ l.place) × (l.count ≤ vec_capacity l.row) × (vec_len l.owners ≡ l.count) × (length before ≡ l.count)
    × (map owner_room l.owners.items ≡ map owner_room l.initial.owners.items)
