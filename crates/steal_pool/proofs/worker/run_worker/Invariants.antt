-- A pool's worker does tasks (`worker::run_worker`): at each turn, its ends are at the same deques as at the
-- beginning.
use Rattle.std.proofs.Common.{◌≡◌}
use Rattle.steal_pool.specs.task_deques.Deals.{posts}
use Rattle.steal_pool.proofs.worker.run_worker.Given as goal

abbrev pub invariant-loop : goal.invariant-loop
invariant-loop g l = posts l.tasks.ends ≡ posts l.initial.tasks.ends
