-- A use of the law of isolation (`seven_in_a_running_core`): tenant 7, there before a list of steps, is after it what
-- its own steps make of it.
use Rattle.promise_uses.proofs.Common.{Option, ap, ◌∙◌, Tenant, alone_from, answers_from, only, taken_steps}
use Rattle.promise_uses.proofs.isolation.seven_in_a_running_core.Goals as goal

pub returns : goal.returns
returns g c procedure before steps answers tenant there known right =
    let seven = (c.no_tenant_is_disturbed.ensures procedure before steps answers known right).undisturbed 7 in (
      seven.state ∙ ap (λ (one : Option Tenant). alone_from (g.P.Procedure.functions procedure) one (only 7 (taken_steps steps answers))) there,
      seven.replies ∙ ap (λ (one : Option Tenant). answers_from (g.P.Procedure.functions procedure) one (only 7 (taken_steps steps answers))) there,
    )
