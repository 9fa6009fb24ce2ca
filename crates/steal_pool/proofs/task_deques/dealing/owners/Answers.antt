-- A pool's deques are made (`dealing::owners`): one owner more, with all 64 parts of an empty deque, each time.
use Rattle.steal_pool.proofs.TaskDeques.Common.{◌≡◌, [], arith, All-push, tally, owner_seat, owner_room}
use Rattle.steal_pool.proofs.task_deques.dealing.owners.Goals as goal

pub loop-made-preserved : goal.loop-made-preserved
loop-made-preserved g c =
    let at = c.loop-made in
    let owner = c.in_ok-with_room.field-0 in (
      omega (arith, c.push_reserved.ensures.len),
      omega (arith, c.push_reserved.ensures.capacity),
      rw c.push_reserved.ensures.items (All-push (λ o. (owner_seat o).tally ≡ tally 64 [] []) at.owners.items owner at.invariant.2 c.in_ok-with_room.ensures.tally),
      rw c.push_reserved.ensures.items (All-push (λ o. owner_room o ≡ c.args.room) at.owners.items owner at.invariant.3 c.in_ok-with_room.ensures.room),
    )
