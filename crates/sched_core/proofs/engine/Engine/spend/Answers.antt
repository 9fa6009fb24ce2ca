-- The core does a Spend (`Engine::spend`): the frame's root is there, its job is ended as spent, and the outcome is
-- the definition's.
use Rattle.sched_core.proofs.Common.{◌≡◌, refl, root_of, Spent as SpentJob, on_tenant, ended}
use Rattle.sched_core.proofs.TakenStep.{step_result-taken, begins, then-changed}
use Rattle.sched_core.proofs.Ending.{spend-going, spend-root}
use Rattle.sched_core.proofs.engine.Engine.spend.Goals as goal

pub end_at-requires-clause-there : goal.end_at-requires-clause-there
end_at-requires-clause-there g c =
    let t = spend-going (g.P.Procedure.functions c.args.self.now.procedure) c.args.self.now.store c.args.name c.in_ok-may_spend.ensures.refusal in
    let root : c.root-root.result ≡ record { tenant = c.args.name.tenant; serial = root_of t.frame.path } = rw (t.owner, t.found) at c.root-root.ensures in
    rw root (spend-root c.args.self.now.store c.args.name t.owner t.found c.requires)

pub returns-clause-step_result : goal.returns-clause-step_result
returns-clause-step_result g c =
    let t = spend-going (g.P.Procedure.functions c.args.self.now.procedure) c.args.self.now.store c.args.name c.in_ok-may_spend.ensures.refusal in
    let root : c.root-root.result ≡ record { tenant = c.args.name.tenant; serial = root_of t.frame.path } = rw (t.owner, t.found) at c.root-root.ensures in
    let w = begins _ c.args.self.now.store t.owner in
    let ends : c.end_at.new.store ≡ on_tenant c.args.name.tenant (ended (root_of t.frame.path) SpentJob) c.args.self.now.store = rw root at c.end_at.ensures in
    let w1 = then-changed (ended (root_of t.frame.path) SpentJob) w ends in
    step_result-taken t.among (rw (c.job_under-job.ensures, root, t.owner) refl) w1.is
