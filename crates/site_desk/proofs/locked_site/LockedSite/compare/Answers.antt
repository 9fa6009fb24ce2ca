-- Two sessions of a site's desk look at its history (`LockedSite::compare`): each step of it was taken, and each event
-- that they see of the book was granted.
use Rattle.site_desk.proofs.Common.{ap, sym, ◌∙◌, subst, BookEvent, IsGrantedFrom, Known}
use Rattle.site_desk.proofs.Granting.{looked}
use Rattle.site_desk.proofs.locked_site.LockedSite.compare.Goals as goal

pub returns-clause-legal : goal.returns-clause-legal
returns-clause-legal g c = rw (← c.self.view_is) (rw c.compare.ensures.history.0 c.self.invariant.2.legal)

pub returns-clause-books : goal.returns-clause-books
returns-clause-books g c =
    let was = c.self.inside in
    let plan = g.J.SiteNaming.plan was.at in
    let granted = c.self.invariant.5.1 in
    let same = ap (λ l. l.entries) c.show.ensures.history in
    let granted' = subst (λ es. IsGrantedFrom plan es) (sym same) granted in
    let first = looked plan _ _ c.show.new.token.known granted c.show.ensures.seen c.show.ensures.own c.show.ensures.token in
    let second = looked plan _ _ c.show-2.new.token.known granted' c.show-2.ensures.seen c.show-2.ensures.own c.show-2.ensures.token in
    rw (← c.self.view_is) (rw (← c.one.view_is) (rw (← c.other.view_is) (first, second, ap (λ (k : Known BookEvent). k.seen) c.show.ensures.token ∙ (sym same ∙ sym (ap (λ (k : Known BookEvent). k.seen) c.show-2.ensures.token)))))
