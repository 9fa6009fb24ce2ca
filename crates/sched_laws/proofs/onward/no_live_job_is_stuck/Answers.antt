-- Of jobs that live: none is stuck, so the law `no_live_job_is_stuck`.
use Rattle.sched_laws.proofs.NotStuck.{not-stuck}
use Rattle.sched_laws.proofs.onward.no_live_job_is_stuck.Goals as goal

pub returns : goal.returns
returns g c procedure = not-stuck (g.P.Procedure.functions procedure)
