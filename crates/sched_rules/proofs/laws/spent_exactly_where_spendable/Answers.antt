-- Of a frame that is there: a Spend of it is taken exactly where it is spendable, so the law
-- `spent_exactly_where_spendable`.
use Rattle.sched_rules.proofs.Isolation.{spendable-where}
use Rattle.sched_rules.proofs.laws.spent_exactly_where_spendable.Goals as goal

pub returns : goal.returns
returns g c procedure tenant name frame is = spendable-where (g.P.Procedure.functions procedure) tenant name frame is
