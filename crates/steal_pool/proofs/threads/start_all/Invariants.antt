-- A pool starts its threads (`threads::start_all`): at each turn, the ends promised by the threads started and those
-- left to be dealt are all, and there is room for the handles.
use Rattle.std.proofs.Common.{◌≡◌, ◌+◌, ◌≤◌, ◌++◌, map, vec_len, vec_capacity}
use Rattle.std.specs.Vec.Iter.{into_iter_items, into_iter_len}
use Rattle.steal_pool.specs.task_deques.Deals.{posts}
use Rattle.steal_pool.proofs.threads.start_all.Given as goal

abbrev pub invariant-loop-ends : goal.invariant-loop-ends
invariant-loop-ends g l =
    (map (λ handle. posts handle.promise.0.value) l.handles.items ++ map posts (into_iter_items l.ends-iterator) ≡ map posts l.fn.dealt.items)
    × (vec_len l.handles ≡ l.number) × (l.number + into_iter_len l.ends-iterator ≡ vec_len l.fn.dealt) × (vec_len l.fn.dealt ≤ vec_capacity l.handles)
