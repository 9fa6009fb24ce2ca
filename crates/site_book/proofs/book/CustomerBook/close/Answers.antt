-- A site's book of customers closes a session (`CustomerBook::close`): without that grant all are still within their
-- budgets.
use Rattle.site_book.proofs.Common.{length, ap, sym, subst, arith, IsKept}
use Rattle.site_book.proofs.GrantLemmas.{length-without}
use Rattle.site_book.proofs.Keepings.{kept-close}
use Rattle.site_book.proofs.book.CustomerBook.close.Goals as goal

pub invariant_of-self : goal.invariant_of-self
invariant_of-self c =
    let gs = c.self.inside.grants.items in
    let fewer = length-without c.args.who c.args.session gs in (
      subst (IsKept c.self.inside.plan) (sym c.take_out.ensures.grants) (kept-close _ gs c.args.who c.args.session c.self.invariant.0),
      omega (arith, ap length c.take_out.ensures.grants, fewer, c.self.invariant.1),
      omega (arith, c.take_out.ensures.capacity, c.self.invariant.2),
    )
