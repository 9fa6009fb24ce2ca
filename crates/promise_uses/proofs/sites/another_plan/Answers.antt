-- Answers for a use: one plan comes in at a site's desk, or is refused for its reason.
use Rattle.promise_uses.proofs.Common.{if-ok}
use Rattle.promise_uses.proofs.Parts.{if-err}
use Rattle.promise_uses.proofs.sites.another_plan.Goals as goal

pub returns : goal.returns
returns g c =
    let e = c.reload.ensures in
    let r = c.reload.result in
    record {
      came = if-ok r (λ came told. (told.1.0.before, told.1.0.seen, told.1.0.unmade, told.1.0.mine, told.1.1)) e.came;
      granted = if-ok r (λ came told. told.1.0.granted.1) e.came;
      here = if-ok r (λ came told. told.0) e.came;
      refused = if-err r (λ refused told. (told.0, told.1.0, told.1.1.1, told.1.2)) e.refused;
    }
