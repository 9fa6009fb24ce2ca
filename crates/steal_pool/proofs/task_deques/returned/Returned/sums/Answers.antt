-- What came back of a pool's deques (`Returned::sums`): of each deque, what was pushed is what was taken and left,
-- each task as often.
use Rattle.steal_pool.proofs.TaskDeques.Common.{All, sym, subst, ◌∙◌, arith, IsAccounted}
use Rattle.steal_pool.proofs.TaskDeques.JoinLemmas.{whole_back, few-back}
use Rattle.steal_pool.proofs.task_deques.returned.Returned.sums.Goals as goal

pub added-requires-clause-few : goal.added-requires-clause-few
added-requires-clause-few g c = omega (arith, few-back c.args.self c.requires, c.joined.ensures.count)

pub returns-clause-each_once : goal.returns-clause-each_once
returns-clause-each_once g c = subst (All IsAccounted) (c.joined.ensures.seats ∙ sym (whole_back c.args.self)) c.added.ensures.each_once
