-- A site's book of customers changes its plan (`CustomerBook::replan`): all grants are within the new plan's budgets.
use Rattle.site_book.proofs.Common.{sym, subst, IsKept}
use Rattle.site_book.proofs.BookLemmas.{replanned}
use Rattle.site_book.proofs.book.CustomerBook.replan.Goals as goal

pub invariant_of-self : goal.invariant_of-self
invariant_of-self c =
    let gs = c.self.inside.grants.items in (
      subst (λ p. IsKept p gs) (sym c.replace.ensures.after) (replanned _ gs c.args.self.now c.self.view_is c.args.plan c.requires),
      c.self.invariant.1,
      c.self.invariant.2,
    )
