-- A site's session leaves (`leave` of `SiteOffice`): it has no seat then, and what the seat knew is kept.
use Rattle.site_office.proofs.Common.{sym, subst, ◌∙◌, ◌≡◌, Some, Gone, Leave, at_site, IsSiteTurn}
use Rattle.site_office.proofs.TurnLemmas.{left-turn, placed}
use Rattle.site_office.proofs.office.SiteOfficeOffice.leave.Goals as goal

pub left-requires : goal.left-requires
left-requires g c =
    let was = c.args.self.now in
    let here = c.in-Some.seat in
    placed was.desk.now was.seat here (sym c.take.ensures.value ∙ c.in-Some.is) was.placed

pub returns-in-Some : goal.returns-in-Some
returns-in-Some g c =
    let was = c.args.self.now in
    let here = c.in-Some.seat in
    let is : was.seat ≡ Some here = sym c.take.ensures.value ∙ c.in-Some.is in
    subst (λ o. IsSiteTurn g.J.SiteNaming.begun (at_site was.desk.now was.seat was.knew) Leave Gone (at_site was.desk.now o (Some c.left.result))) (sym c.take.ensures.after)
    (left-turn g.J.SiteNaming.begun was.desk.now was.seat was.knew here c.left.result is (placed was.desk.now was.seat here is was.placed) c.left.ensures)
