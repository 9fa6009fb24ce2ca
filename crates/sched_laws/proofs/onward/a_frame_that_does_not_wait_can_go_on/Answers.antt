-- Of frames that don't wait: a worker can go on with each, so the law `a_frame_that_does_not_wait_can_go_on`.
use Rattle.sched_laws.proofs.GoingOn.{alone}
use Rattle.sched_laws.proofs.NotStuck.{among}
use Rattle.sched_laws.proofs.onward.a_frame_that_does_not_wait_can_go_on.Goals as goal

pub returns-clause-alone : goal.returns-clause-alone
returns-clause-alone g c procedure = alone (g.P.Procedure.functions procedure)

pub returns-clause-among : goal.returns-clause-among
returns-clause-among g c procedure = among (g.P.Procedure.functions procedure)
