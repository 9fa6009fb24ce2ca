-- A pool's deques are made and dealt (`dealing::deal`): each owner's deque has room for the tasks that were asked for.
use Rattle.steal_pool.proofs.TaskDeques.Common.{◌≡◌, All, IfOk-weaker, worker_room}
use Rattle.steal_pool.proofs.TaskDeques.SeatLemmas.{room-dealt}
use Rattle.steal_pool.proofs.task_deques.dealing.deal.Goals as goal

pub returns-clause-room : goal.returns-clause-room
returns-clause-room g c =
    let made = c.in_ok-owners.owners in
    IfOk-weaker c.paired.result _ (λ all. All (λ ends. worker_room ends ≡ c.args.room) all.items)
    (λ all is. room-dealt c.args.room made.items c.rows.new.owners.items all.items c.in_ok-owners.ensures.room c.in_ok-rows.ensures.room is) c.paired.ensures.room
