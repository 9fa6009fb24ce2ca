-- A worker of a pool takes its steps under one lock (`held::steps`): at each turn, its ends are at the same deques as at
-- the beginning, and its badge's share is greater by at most the turns so far.
use Rattle.std.proofs.Common.{◌≡◌, ◌+◌, ◌≤◌}
use Rattle.steal_pool.specs.task_deques.Deals.{posts}
use Rattle.steal_pool.proofs.held.steps.Given as goal

abbrev pub invariant-loop : goal.invariant-loop
invariant-loop g l = (posts l.tasks.ends ≡ posts l.initial.tasks.ends) × (g.T.Badge.WorkerBadge.share l.badge ≤ g.T.Badge.WorkerBadge.share l.initial.badge + l.counter)
