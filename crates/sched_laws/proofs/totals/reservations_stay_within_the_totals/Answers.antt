-- Of all tenants' reservations in a core: together they stay within its totals after each step and each list of steps,
-- so the law `reservations_stay_within_the_totals`.
use Rattle.sched_laws.proofs.Sums.{reserved-answer, reserved-answers}
use Rattle.sched_laws.proofs.totals.reservations_stay_within_the_totals.Goals as goal

pub returns-clause-step : goal.returns-clause-step
returns-clause-step g c procedure = reserved-answer (g.P.Procedure.functions procedure)

pub returns-clause-run : goal.returns-clause-run
returns-clause-run g c procedure = reserved-answers (g.P.Procedure.functions procedure)
