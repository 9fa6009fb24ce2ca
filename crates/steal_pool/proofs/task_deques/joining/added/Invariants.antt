-- A pool's tasks are summed up (`joining::added`): at each turn, the sums are those of the deques passed so far, each
-- of which has all its tasks accounted for.
use Rattle.steal_pool.proofs.TaskDeques.Common.{◌≡◌, ◌+◌, ◌*◌, ◌≤◌, take, length, sum_by, All, vec_len, owner_seats, IsAccounted}
use Rattle.steal_pool.proofs.task_deques.joining.added.Given as goal

abbrev pub invariant-loop-place : goal.invariant-loop-place
invariant-loop-place g l =
    let owners = owner_seats l.initial.owners.items in
    (owner_seats l.owners.items ≡ owners)
    × (l.pushed ≡ sum_by (λ deque. length deque.tally.pushed) (take l.place owners))
    × (l.taken ≡ sum_by (λ deque. length deque.tally.taken) (take l.place owners))
    × All IsAccounted (take l.place owners)
    × (l.pushed ≡ l.taken + l.left)
    × (l.pushed ≤ l.place * 18446744073709551615)
    × (vec_len l.owners ≡ l.place-end) × (l.place-end ≤ 64)
