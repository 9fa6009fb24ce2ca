-- Of a core of searches: BadAct is told of a Submit alone, so the law `bad_acts_come_of_submits_alone`.
use Rattle.jamboree_core.proofs.Possible.{answer-none-bad}
use Rattle.jamboree_core.proofs.laws.bad_acts_come_of_submits_alone.Goals as goal

pub returns : goal.returns
returns c grain origins before step answer shaped core none right = answer-none-bad grain origins before step answer shaped core none right
