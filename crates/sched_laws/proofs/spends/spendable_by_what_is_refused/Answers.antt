-- Of a job that may be given up: exactly where no step is left, or its frame's Advance would be refused by BadAct, NoNodes
-- or NoSegments, or its Inlet by BadAct, so the law `spendable_by_what_is_refused`.
use Rattle.sched_laws.proofs.Spending.{may-be-spent}
use Rattle.sched_laws.proofs.spends.spendable_by_what_is_refused.Goals as goal

pub returns : goal.returns
returns g c procedure = may-be-spent (g.P.Procedure.functions procedure)
