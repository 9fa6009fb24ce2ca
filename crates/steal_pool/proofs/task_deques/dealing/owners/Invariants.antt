-- A pool's deques are made (`dealing::owners`): at each turn, each owner so far has all 64 parts of an empty deque
-- with this room, and the list has room for the rest.
use Rattle.steal_pool.proofs.TaskDeques.Common.{◌≡◌, ◌≤◌, [], All, vec_len, vec_capacity, tally, owner_seat, owner_room}
use Rattle.steal_pool.proofs.task_deques.dealing.owners.Given as goal

abbrev pub invariant-loop-made : goal.invariant-loop-made
invariant-loop-made g l =
    (vec_len l.owners ≡ l._made) × (l.count ≤ vec_capacity l.owners) × All (λ owner. (owner_seat owner).tally ≡ tally 64 [] []) l.owners.items
    × All (λ owner. owner_room owner ≡ l.room) l.owners.items
