-- A pool waits for its threads (`threads::join_all`): at each turn, the deque ends that came back and those promised
-- by the threads left are all, and there is room for them.
use Rattle.std.proofs.Common.{◌≡◌, ◌+◌, ◌≤◌, ◌++◌, map, length}
use Rattle.std.specs.Vec.Iter.{into_iter_items, into_iter_len}
use Rattle.steal_pool.specs.task_deques.Deals.{posts, posts_of, returned, returned_room}
use Rattle.steal_pool.proofs.threads.join_all.Given as goal

abbrev pub invariant-loop-handle : goal.invariant-loop-handle
invariant-loop-handle g l =
    (map posts_of (returned l.back) ++ map (λ handle. posts handle.promise.0.value) (into_iter_items l.handle-iterator) ≡ map (λ handle. posts handle.promise.0.value) l.fn.handles.items)
    × (length (returned l.back) + into_iter_len l.handle-iterator ≤ returned_room l.back)
