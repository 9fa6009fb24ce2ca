-- A site's budgets are joined while a plan is replaced (`reloads::budgets_of_both`): the next customer's is the lesser
-- of both plans'.
use Rattle.std.proofs.Common.{◌+◌, ◌≤◌, ◌∙◌, ap, arith}
use Rattle.site_book.specs.Plans.{budget_of}
use Rattle.site_book.specs.declared.who.Who.TheVariants.{Named}
use Rattle.site_rules.specs.Reloads.{least_of_both}
use Rattle.site_rules.proofs.ReloadLemmas.{both-next}
use Rattle.site_rules.proofs.reloads.budgets_of_both.Goals as goal

pub loop-number-preserved : goal.loop-number-preserved
loop-number-preserved c =
    let a = c.args.a.now in
    let b = c.args.b.now in
    let is = c.least_of_both.ensures ∙ (ap (λ x. least_of_both x c.budget-in-loop-number.result) c.budget.ensures ∙ ap (λ y. least_of_both (budget_of a (Named c.loop-number.number)) y) c.budget-in-loop-number.ensures) in (
      omega (arith, c.loop-number-test.true),
      both-next a b c.loop-number.number c.args.customers c.loop-number.budgets.items c.push.new.self.items _ c.least_of_both.result c.loop-number-test.true is c.in_ok-push.ensures.items c.loop-number.invariant.1,
    )
