-- The core does a Submit (`Engine::submit`): the new root is there, the list of jobs has room, and the outcome is the
-- definition's.
use Rattle.sched_core.proofs.Common.{◌≡◌, ◌+◌, refl, arith, err_from_is_err_and, Live, with_job, shaped-in}
use Rattle.sched_core.proofs.TakenStep.{step_result-refused, step_result-taken, then-changed}
use Rattle.sched_core.proofs.Ending.{with-there}
use Rattle.sched_core.proofs.Beginning.{submit-opens, fresh-root}
use Rattle.sched_core.proofs.engine.Engine.submit.Goals as goal

pub returns-in_err-may_submit-clause-step_result : goal.returns-in_err-may_submit-clause-step_result
returns-in_err-may_submit-clause-step_result g c =
    let p = err_from_is_err_and c.from_residual.result c.from_residual.ensures.1 in
    step_result-refused p.1 p.2 c.in_err-may_submit.ensures.refusal refl

pub begin_job-requires-clause-there : goal.begin_job-requires-clause-there
begin_job-requires-clause-there g c =
    let functions = g.P.Procedure.functions c.args.self.now.procedure in
    let o = submit-opens functions _ c.args.number c.args.words.now c.args.size c.in_ok-may_submit.ensures.refusal c.open-root.ensures.opened in
    with-there _ o.1

pub begin_job-requires-clause-room : goal.begin_job-requires-clause-room
begin_job-requires-clause-room g c =
    let functions = g.P.Procedure.functions c.args.self.now.procedure in
    let o = submit-opens functions _ c.args.number c.args.words.now c.args.size c.in_ok-may_submit.ensures.refusal c.open-root.ensures.opened in
    rw o.1.there (grind (arith, o.0.passes.1.0))

pub begin_job-requires-clause-fresh : goal.begin_job-requires-clause-fresh
begin_job-requires-clause-fresh g c =
    let functions = g.P.Procedure.functions c.args.self.now.procedure in
    let o = submit-opens functions _ c.args.number c.args.words.now c.args.size c.in_ok-may_submit.ensures.refusal c.open-root.ensures.opened in
    let fresh = fresh-root o.0.tenant (shaped-in c.args.number c.args.self.now.store.tenants o.0.tenant c.requires o.0.owner) in
    rw (o.1.there, c.open-root.ensures.name, o.0.owner) fresh

pub returns-clause-step_result : goal.returns-clause-step_result
returns-clause-step_result g c =
    let functions = g.P.Procedure.functions c.args.self.now.procedure in
    let o = submit-opens functions _ c.args.number c.args.words.now c.args.size c.in_ok-may_submit.ensures.refusal c.open-root.ensures.opened in
    let name : c.open-root.result ≡ record { tenant = c.args.number; serial = o.0.tenant.serials + 1 } = rw o.0.owner at c.open-root.ensures.name in
    let w2 = then-changed (with_job (Live (o.0.tenant.serials + 1))) o.1 (rw name at c.begin_job.ensures) in
    step_result-taken o.0.among (rw (name, c.job_count.ensures.count, o.0.owner) refl) w2.is
