-- Meaning: what a pool of workers ends with.
use Rattle.std.specs.Prelude.{◌≡◌, ℕ, map, length, sum_by, All}
use Rattle.std.specs.declared.alloc.Global.{Global}
use Rattle.steal_pool.specs.declared.task_deques.returned.Returned.{Returned}
use Rattle.steal_pool.specs.task_deques.Deals.{returned, posts_of, whole_deques, IsAccounted, IsWhole}

-- these ends of the deques of so many workers came back, after so many pushes and takes: all seats of all deques are there,
-- what was pushed on each deque is what was taken from it and what is left, each task as often, and the two numbers are
-- the sums over all deques
pub record AreTasksOf (back : Returned Global) (workers pushed taken : ℕ) : Type 0 where
  pub count : workers ≡ length (returned back)
  pub whole : IsWhole (map posts_of (returned back))
  pub each_once : All IsAccounted (whole_deques (returned back))
  pub pushes : pushed ≡ sum_by (λ deque. length deque.tally.pushed) (whole_deques (returned back))
  pub takes : taken ≡ sum_by (λ deque. length deque.tally.taken) (whole_deques (returned back))
