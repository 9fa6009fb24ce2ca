-- Of a run on a new core whose taken Submits have roots that fit: each job holds what its tenant's Submit asked for, so
-- the law `each_job_holds_what_it_was_asked`.
use Rattle.sched_laws.proofs.Common.{[], shared_by_nobody}
use Rattle.sched_laws.proofs.FitAnswers.{run-fits, nobody-fits}
use Rattle.sched_laws.proofs.laws.each_job_holds_what_it_was_asked.Goals as goal

pub returns : goal.returns
returns g c procedure totals steps answers number tenant right roots at =
    let own = g.met.P.Procedure in
    let fits = g.P.Procedure.fits procedure in
    let rooted = g.P.Procedure.rooted procedure in
    let core = run-fits (g.P.Procedure.functions procedure) fits rooted (λ n. []) (shared_by_nobody totals) steps answers
    (record { next = own.next_keeps procedure; inlet = own.inlet_keeps procedure; accept = own.accept_keeps procedure }) tt tt
    (nobody-fits fits rooted totals) right roots in
    core.tenants number tenant at
