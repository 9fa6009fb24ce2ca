-- Answers for a use: a budget that is asked at another desk is that of a history of that desk's book.
use Rattle.promise_uses.proofs.Common.{sym, ◌∙◌, subst, ap, used, Own, Named}
use Rattle.site_book.specs.Amounts.{IsAmountWithin}
use Rattle.site_book.specs.Plans.{limit_of}
use Rattle.site_book.specs.declared.amount.Amount.{Amount}
use Rattle.site_book.specs.declared.who.Who.{Who}
use Rattle.site_desk.specs.Granted.{book_at, events_of}
use Rattle.promise_uses.proofs.sites.budget_at_another_desk.Goals as goal

pub returns : goal.returns
returns g c =
    let plan = g.J.SiteNaming.plan c.args.desk.now in
    let told = c.budget.ensures.elsewhere c.requires.elsewhere in
    let once = told.1 in
    let book = book_at plan once.0 in
    let may = once.2 ∙ ap (λ (w : Who). limit_of book.plan (Own w)) c.requires.three in
    let has = once.3 ∙ ap (λ (w : Who). used (Own w) book.grants) c.requires.three in
    let within = c.nobody_is_over_budget.ensures.within plan (events_of once.0) once.1.0 (Own (Named 3)) in
    record {
      within = subst (λ (x : Amount × Amount). IsAmountWithin x.0 x.1) (λ i. (sym has i, sym may i)) within;
      may = (once.0, once.1.1, may);
      unseen = told.0;
    }
