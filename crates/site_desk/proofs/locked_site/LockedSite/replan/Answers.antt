-- Answers for LockedSite::replan: a plan that comes in is the book history's last event, and one that doesn't is refused at its end.
use Rattle.site_desk.proofs.Common.{sym, ◌∙◌, refl, subst, IsNotReplanned, SiteOf}
use Rattle.site_desk.proofs.Granting.{not_replanned}
use Rattle.site_desk.proofs.locked_site.LockedSite.replan.Goals as goal

pub returns-in-Some-clause-refused : goal.returns-in-Some-clause-refused
returns-in-Some-clause-refused g c =
    let was = c.self.inside in
    let why = sym c.why_not_replan.ensures ∙ c.in-Some.is in
    (refl, subst (λ (s : SiteOf). IsNotReplanned (g.J.SiteNaming.plan s.at) c.args.plan c.in-Some.refusal) c.self.view_is (not_replanned _ _ was.book c.args.plan c.in-Some.refusal c.self.invariant.5 why))
