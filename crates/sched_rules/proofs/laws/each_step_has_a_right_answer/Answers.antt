-- Of any step at any core: the defined result is a right answer to it, so the law `each_step_has_a_right_answer`.
use Rattle.sched_rules.proofs.Isolation.{right-answer}
use Rattle.sched_rules.proofs.laws.each_step_has_a_right_answer.Goals as goal

pub returns : goal.returns
returns g c procedure before step = right-answer (g.P.Procedure.functions procedure) before step
