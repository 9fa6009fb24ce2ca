-- Of any list of steps with right answers: each tenant is what its own steps make of it, so the law
-- `no_tenant_is_disturbed`.
use Rattle.sched_rules.proofs.Isolation.{headline}
use Rattle.sched_rules.proofs.laws.no_tenant_is_disturbed.Goals as goal

pub returns : goal.returns
returns g c procedure before steps answers known right = headline (g.P.Procedure.functions procedure) before steps answers known right
