-- Answers for SiteDesk::reload: what the method under the lock says of this desk's book.
use Rattle.std.specs.Prelude.{IfErr, IfOk}
use Rattle.site_desk.proofs.Common.{◌≡◌, subst, IsNotReplanned, IsReplannedBy}
use Rattle.site_desk.proofs.site_desk.SiteDesk.reload.Goals as goal

pub returns-clause-came : goal.returns-clause-came
returns-clause-came g c =
    let at : c.deref_mut.result.now.value.at ≡ c.args.self.now = rw c.deref_mut.ensures.value c.enter.ensures in
    subst (λ n. IfOk c.replan.result (λ came. (came.1.at ≡ n) × IsReplannedBy (g.J.SiteNaming.plan n) c.args.plan came.0 came.1.books)) at c.replan.ensures.came

pub returns-clause-refused : goal.returns-clause-refused
returns-clause-refused g c =
    let at : c.deref_mut.result.now.value.at ≡ c.args.self.now = rw c.deref_mut.ensures.value c.enter.ensures in
    subst (λ n. IfErr c.replan.result (λ refused. (refused.0 ≡ c.args.plan) × IsNotReplanned (g.J.SiteNaming.plan n) c.args.plan refused.1)) at c.replan.ensures.refused
