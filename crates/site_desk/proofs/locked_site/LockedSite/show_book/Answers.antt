-- A session looks at what the book of a site's desk granted (`LockedSite::show_book`): the book is where the events
-- that it sees lead to.
use Rattle.site_desk.proofs.Common.{◌≡◌, ap, sym, subst, BookEvent, Known, book_at}
use Rattle.site_desk.proofs.Granting.{looked}
use Rattle.site_desk.proofs.locked_site.LockedSite.show_book.Goals as goal

pub returns-clause-look : goal.returns-clause-look
returns-clause-look g c =
    let r = c.show.ensures in
    rw (← c.self.view_is) (rw (← c.seat.view_is) (looked _ _ _ c.show.new.token.known c.self.invariant.5.1 r.seen r.own r.token))

pub returns-clause-book : goal.returns-clause-book
returns-clause-book g c =
    let was = c.self.inside in
    let seen = ap (λ (k : Known BookEvent). k.seen) c.show.ensures.token in
    rw (← c.self.view_is) (subst (λ es. was.book ≡ book_at (g.J.SiteNaming.plan was.at) es) (sym seen) c.self.invariant.5.0)
