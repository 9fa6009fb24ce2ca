-- Of frames that wait in a core: each has a child after any steps, so the law `a_frame_waits_only_for_children`.
use Rattle.sched_laws.proofs.WaitSteps.{waits-answer, waits-answers}
use Rattle.sched_laws.proofs.onward.a_frame_waits_only_for_children.Goals as goal

pub returns-clause-step : goal.returns-clause-step
returns-clause-step g c procedure = waits-answer (g.P.Procedure.functions procedure)

pub returns-clause-run : goal.returns-clause-run
returns-clause-run g c procedure = waits-answers (g.P.Procedure.functions procedure)
