-- A use of a site's `budget` (`budget_of_a_customer`): customer 3 is within its budget, by the history of what its
-- desk's book granted.
use Rattle.promise_uses.proofs.Common.{sym, ◌∙◌, subst, ap, used, Own, Named}
use Rattle.site_book.specs.Amounts.{IsAmountWithin}
use Rattle.site_book.specs.Plans.{limit_of}
use Rattle.site_book.specs.declared.amount.Amount.{Amount}
use Rattle.site_book.specs.declared.who.Who.{Who}
use Rattle.site_desk.specs.Granted.{book_at, events_of}
use Rattle.promise_uses.proofs.sites.budget_of_a_customer.Goals as goal

pub returns-clause-within : goal.returns-clause-within
returns-clause-within g c =
    let e = c.budget.ensures in
    let here = c.requires.here in
    let plan = g.J.SiteNaming.plan c.args.desk.now in
    let seen = c.budget.new.seat.books.seen in
    let book = book_at plan seen in
    let fits = (e.look here).1.0 in
    let may = e.may here ∙ ap (λ (w : Who). limit_of book.plan (Own w)) c.requires.three in
    let has = e.has here ∙ ap (λ (w : Who). used (Own w) book.grants) c.requires.three in
    let within = c.nobody_is_over_budget.ensures.within plan (events_of seen) fits (Own (Named 3)) in
    subst (λ (x : Amount × Amount). IsAmountWithin x.0 x.1) (λ i. (sym has i, sym may i)) within
