-- A site's book of customers raises a session (`CustomerBook::raise`): with the larger grant all are still within
-- their budgets.
use Rattle.site_book.proofs.Common.{length, ap, sym, subst, arith, IsKept}
use Rattle.site_book.proofs.BookLemmas.{raised, length-with-ask}
use Rattle.site_book.proofs.book.CustomerBook.raise.Goals as goal

pub invariant_of-self : goal.invariant_of-self
invariant_of-self c =
    let gs = c.self.inside.grants.items in
    let same = length-with-ask c.args.who c.args.session c.args.ask gs in (
      subst (IsKept c.self.inside.plan) (sym c.set_ask.ensures.grants) (raised _ gs c.args.self.now c.self.view_is c.self.invariant.0 c.args.who c.args.session c.args.ask c.requires),
      omega (arith, ap length c.set_ask.ensures.grants, same, c.self.invariant.1),
      omega (arith, c.set_ask.ensures.capacity, c.self.invariant.2),
    )
