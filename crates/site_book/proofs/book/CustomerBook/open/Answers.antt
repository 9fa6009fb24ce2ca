-- A site's book of customers opens a session (`CustomerBook::open`): with that grant all are still within their
-- budgets, and the list has room for it.
use Rattle.site_book.proofs.Common.{length, ap, sym, subst, arith, length_push, IsKept}
use Rattle.site_book.proofs.BookLemmas.{opened, pushed-is}
use Rattle.site_book.proofs.Keepings.{kept-few}
use Rattle.site_book.proofs.book.CustomerBook.open.Goals as goal

pub unwrap-requires : goal.unwrap-requires
unwrap-requires c =
    let gs = c.self.inside.grants.items in
    let kept = opened _ gs c.args.self.now c.self.view_is c.self.invariant.0 c.args.who c.args.session c.args.ask c.requires in
    let one = length_push gs (record { who = c.args.who; session = c.args.session; ask = c.args.ask }) in
    c.push.ensures.succeeds (omega (arith, kept-few c.self.inside.plan _ kept, one, c.self.invariant.2, c.self.inside.grants.ok))

pub invariant_of-self : goal.invariant_of-self
invariant_of-self c =
    let gs = c.self.inside.grants.items in
    let kept = opened _ gs c.args.self.now c.self.view_is c.self.invariant.0 c.args.who c.args.session c.args.ask c.requires in
    let list = pushed-is _ _ _ _ _ c.unwrap.ensures c.push.ensures.items in
    let long = ap length list in (
      subst (IsKept c.self.inside.plan) (sym list) kept,
      omega (arith, long, kept-few c.self.inside.plan _ kept),
      omega (arith, c.push.ensures.capacity, c.self.invariant.2),
    )
