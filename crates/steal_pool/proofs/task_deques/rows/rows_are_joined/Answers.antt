-- Rows of a pool's deques: how thieves' seats are joined to the owners', by computing the definitions on two workers.
use Rattle.steal_pool.proofs.TaskDeques.Common.{[], ◌∷◌, refl, arith, All-from_recursion, IsAccounted, worker_task, seat}
use Rattle.steal_pool.proofs.task_deques.rows.rows_are_joined.Goals as goal

pub returns : goal.returns
returns c = record {
  row = λ one two. refl;
  shorter = λ one two. refl;
  longer = λ one two. refl;
  whole = λ one two. refl;
  accounted = λ one two. All-from_recursion IsAccounted (seat one 64 (worker_task 1 ∷ worker_task 2 ∷ worker_task 3 ∷ []) (worker_task 3 ∷ worker_task 1 ∷ []) ∷ seat two 64 [] [] ∷ [])
      ((worker_task 2 ∷ [], λ h. omega arith), (([], λ h. refl), tt));
  made_up = λ one is. let none = is.1 (λ _. 1) in omega arith;
}
