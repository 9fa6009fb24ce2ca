-- The tasks that wait in a deque (`steps::waiting`): an owner with all 64 parts knows that they are those pushed and
-- not taken.
use Rattle.steal_pool.proofs.TaskDeques.Common.{arith, worker_view}
use Rattle.steal_pool.proofs.TaskDeques.TallyLemmas.{weigh-one}
use Rattle.steal_pool.proofs.task_deques.steps.waiting.Goals as goal

pub returns-clause-counts : goal.returns-clause-counts
returns-clause-counts g c = λ all.
    let learned = c.len_as.ensures.rule in
    omega (arith, learned.2 all (λ _. 1), learned.1, weigh-one (worker_view c.args.owner.now).pushed, weigh-one (worker_view c.args.owner.now).taken, weigh-one learned.0)
