-- A use of a site's `compare` (`two_customers`): what two customers' sessions at one desk have seen is of one history,
-- and of one history of the book.
use Rattle.promise_uses.proofs.Common.{◌≡◌, List, ℕ, sym, subst, IsPrefix, own, SearchStep}
use Rattle.promise_uses.proofs.Parts.{seen-by}
use Rattle.promise_uses.proofs.SiteParts.{both-here, book-seen-by}
use Rattle.site_book.specs.declared.event.BookEvent.{BookEvent}
use Rattle.site_desk.specs.Granted.{events_of}
use Rattle.promise_uses.proofs.sites.two_customers.Goals as goal

pub returns : goal.returns
returns g c =
    let e = c.compare.ensures in
    let one = c.args.one.now in
    let other = c.args.other.now in
    let at = c.args.desk.now in
    let yes = both-here one.at other.at at c.compare.result e.own c.requires.here.0 c.requires.here.1 in
    let first = (e.one yes).1 in
    let second = (e.other yes).1 in
    let history = e.history yes in
    let books = e.books yes in
    let plan = g.J.SiteNaming.plan at in
    record {
      same = yes;
      kept = ((e.one yes).0, (e.other yes).0);
      begin = (first.0, subst (λ (l : List (ℕ × SearchStep)). IsPrefix other.known.seen l) (sym history) second.0);
      own = (seen-by one.known c.compare.new.one.known first, subst (λ (l : List (ℕ × SearchStep)). own other.known.maker l ≡ other.known.mine) (sym history) (seen-by other.known c.compare.new.other.known second));
      legal = e.legal yes;
      begin_of_book = (books.0.0.0, subst (λ (l : List (ℕ × BookEvent)). IsPrefix other.books.seen l) (sym books.2) books.1.0.0);
      own_of_book = (book-seen-by one.books c.compare.new.one.books books.0.0, subst (λ (l : List (ℕ × BookEvent)). own other.books.maker l ≡ other.books.mine) (sym books.2) (book-seen-by other.books c.compare.new.other.books books.1.0));
      out = c.all_comes_back.ensures.out plan (events_of c.compare.new.one.books.seen);
    }
