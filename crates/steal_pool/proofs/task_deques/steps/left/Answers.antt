-- The tasks left in a deque (`steps::left`): an owner with all 64 parts knows that what was pushed is what was taken
-- and these.
use Rattle.steal_pool.proofs.TaskDeques.Common.{arith, worker_view}
use Rattle.steal_pool.proofs.TaskDeques.TallyLemmas.{weigh-one}
use Rattle.steal_pool.proofs.task_deques.steps.left.Goals as goal

pub returns-clause-counts : goal.returns-clause-counts
returns-clause-counts g c =
    let learned = c.len_as.ensures.rule in
    omega (arith, learned.2 c.requires (λ _. 1), learned.1, weigh-one (worker_view c.args.owner.now).pushed, weigh-one (worker_view c.args.owner.now).taken, weigh-one learned.0)
