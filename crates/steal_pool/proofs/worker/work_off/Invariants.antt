-- A pool's worker does the frame of a task (`worker::work_off`): at each turn, its ends are at the same deques as at
-- the beginning.
use Rattle.std.proofs.Common.{◌≡◌}
use Rattle.steal_pool.specs.task_deques.Deals.{posts}
use Rattle.steal_pool.proofs.worker.work_off.Given as goal

abbrev pub invariant-loop : goal.invariant-loop
invariant-loop g l = posts l.tasks.ends ≡ posts l.initial.tasks.ends
