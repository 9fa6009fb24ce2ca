-- A test's sums of all deques (`deques::sums`): at each turn, the ends that came back and those left are all, and
-- there is room for them.
use Rattle.std.proofs.Common.{◌≡◌, ◌+◌, ◌≤◌, ◌++◌, map, length}
use Rattle.std.specs.Vec.Iter.{into_iter_items, into_iter_len}
use Rattle.steal_pool.specs.task_deques.Deals.{posts, posts_of, returned, returned_room}
use Rattle.thread_tests.proofs.tests.deques.sums.Given as goal

abbrev pub invariant-loop-ends : goal.invariant-loop-ends
invariant-loop-ends g l =
    (map posts_of (returned l.back) ++ map posts (into_iter_items l.ends-iterator) ≡ map posts l.fn.all.items)
    × (length (returned l.back) + into_iter_len l.ends-iterator ≤ returned_room l.back)
