-- Of the tenants' numbers in a core: none above the greatest is in use after a step either, so the law
-- `every_number_stays_taken`.
use Rattle.sched_laws.proofs.FitAnswers.{known-answer}
use Rattle.sched_laws.proofs.laws.every_number_stays_taken.Goals as goal

pub returns : goal.returns
returns g c procedure = known-answer (g.P.Procedure.functions procedure)
