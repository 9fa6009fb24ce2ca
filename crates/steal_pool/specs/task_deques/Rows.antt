-- Representation: two workers' seats at a pool's deques, on which the definitions are tried.
use Rattle.std.specs.Prelude.{ℕ, List, [], ◌∷◌}
use Rattle.jamboree_rules.specs.declared.pool_rules.task.Task.{Task}
use Rattle.steal_pool.specs.task_deques.Tallies.{tally}
use Rattle.steal_pool.specs.task_deques.Seats.{Deque, DequeSeat}
use Rattle.steal_pool.specs.task_deques.Deals.{WorkerSeats}

-- the task of a frame that worker 1 made ready
abbrev pub worker_task : ℕ → Task
worker_task serial = record { frame = record { tenant = 1; serial = serial }; home = 1 }

-- a seat at a deque, with so many parts, which has pushed and taken these tasks
abbrev pub seat : Deque → ℕ → List Task → List Task → DequeSeat
seat deque parts pushed taken = record { deque = deque; tally = tally parts pushed taken }

-- the new seats of a worker's thieves at two deques, each with one part
abbrev pub two_thieves : Deque → Deque → List DequeSeat
two_thieves one two = seat one 1 [] [] ∷ seat two 1 [] [] ∷ []

-- a worker with so many parts of a new deque of its own, and these thieves' seats
abbrev pub new_worker : ℕ → Deque → List DequeSeat → WorkerSeats
new_worker parts deque thieves = record { own = seat deque parts [] []; thieves = thieves }

-- two workers, each with so many parts and a thief's seat at each deque
abbrev pub two_workers : ℕ → Deque → Deque → List WorkerSeats
two_workers parts one two = new_worker parts one (two_thieves one two) ∷ new_worker parts two (two_thieves one two) ∷ []

-- worker 1 has pushed the tasks 1, 2 and 3 and taken 3 again, and worker 2 has stolen 1
abbrev pub played_seats : Deque → Deque → List WorkerSeats
played_seats one two =
    record { own = seat one 62 (worker_task 1 ∷ worker_task 2 ∷ worker_task 3 ∷ []) (worker_task 3 ∷ []); thieves = two_thieves one two }
    ∷ record { own = seat two 62 [] []; thieves = seat one 1 [] (worker_task 1 ∷ []) ∷ seat two 1 [] [] ∷ [] } ∷ []
