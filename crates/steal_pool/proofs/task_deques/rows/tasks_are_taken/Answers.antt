-- Rows of a pool's deques: which tasks a worker takes or steals, by computing the definitions on two workers.
use Rattle.steal_pool.proofs.TaskDeques.Common.{[], ◌∷◌, refl, inl, inr, arith, seat}
use Rattle.steal_pool.proofs.task_deques.rows.tasks_are_taken.Goals as goal

pub returns : goal.returns
returns c = record {
  own = λ one two. inl refl;
  emptied = λ h. omega arith;
  one_left = λ is. let more = is (λ _. 1) in omega arith;
  stolen = λ one two. inr (refl, (seat one 1 [] [] ∷ [], seat two 1 [] [], [], refl, refl));
}
