-- A test's worker pushes a task (`deques::pushes`): which deques the ends belong to doesn't change.
use Rattle.steal_pool.proofs.TaskDeques.SeatLemmas.{posts-same}
use Rattle.thread_tests.proofs.tests.deques.pushes.Goals as goal

pub returns-clause-posts : goal.returns-clause-posts
returns-clause-posts g c = posts-same c.args.all.now.items _ c.index_mut.result.now c.push.new.self c.index_mut.ensures.value c.push.ensures.posts
