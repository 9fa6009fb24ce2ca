-- What a pool ends with (`pool::end_of`): its numbers of tasks are the sums over all deques that came back.
use Rattle.std.proofs.Common.{sym, subst}
use Rattle.steal_pool.specs.Ends.{AreTasksOf}
use Rattle.steal_pool.proofs.pool.end_of.Goals as goal

pub returns-clause-tasks : goal.returns-clause-tasks
returns-clause-tasks g c =
    let sums = c.sums-sums in
    subst (λ back. AreTasksOf back c.count-workers.result sums.result.pushed sums.result.taken) (sym c.of-ends.ensures) (record {
      count = c.count-workers.ensures;
      whole = c.args.worked.whole;
      each_once = sums.ensures.each_once;
      pushes = sums.ensures.pushed;
      takes = sums.ensures.taken;
    })
