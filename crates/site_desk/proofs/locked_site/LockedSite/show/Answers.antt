-- A session looks at the history of a site's desk (`LockedSite::show`): the hall is where the history that it sees
-- leads to.
use Rattle.site_desk.proofs.Common.{◌≡◌, ◌<◌, sym, ap, ◌∙◌, subst, SiteOf, SiteSeatOf}
use Rattle.site_desk.proofs.locked_site.LockedSite.show.Goals as goal

pub returns-clause-look : goal.returns-clause-look
returns-clause-look g c =
    let was = c.self.inside in
    let seat = c.seat.inside in
    let here : seat.at ≡ was.at = ap (λ (s : SiteSeatOf). s.at) c.seat.view_is ∙ c.requires ∙ sym (ap (λ (s : SiteOf). s.at) c.self.view_is) in
    let later = subst (λ n. (g.J.SiteNaming.begun n).shared.newest < seat.core.seat.tenant) here c.seat.invariant.1 in
    rw (← c.self.view_is) (rw (← c.seat.view_is) (c.show.ensures.look (g.J.SiteNaming.begun was.at) c.self.invariant.2 later))

pub returns-clause-core : goal.returns-clause-core
returns-clause-core g c = rw (← c.self.view_is) (c.show.ensures.core (g.J.SiteNaming.begun c.self.inside.at) c.self.invariant.2)
