-- One hall's plan more: it is that of the definition.
use Rattle.std.proofs.Common.{◌≡◌, ◌∙◌, List, ap, arith}
use Rattle.site_book.specs.Plans.{PlanOf}
use Rattle.site_book.specs.declared.amount.Amount.{Amount}
use Rattle.site_file.proofs.HomeLemmas.{plans-next}
use Rattle.site_file.specs.Homes.{GuestsOf, plan_at}
use Rattle.site_file.proofs.homes.plans_of.Goals as goal

pub loop-hall-preserved : goal.loop-hall-preserved
loop-hall-preserved c =
    let own = c.args.guests.now in
    let guests : GuestsOf = record { totals = own.totals; each = own.each; network = own.network; together = own.together } in
    let with : List Amount → PlanOf = λ budgets. record { totals = own.totals; customers = budgets; guest = own.each; network = own.network; guests = own.together } in
    let is : c.in-Some.plan ≡ plan_at c.loop-hall.hall guests c.args.budgets.now c.args.customers.now = c.in-Some.ensures.plan ∙ ap with c.in_ok-there.ensures in (
      omega (arith, c.loop-hall-test.true),
      plans-next guests c.args.budgets.now c.args.customers.now c.loop-hall.hall c.args.count c.loop-hall.plans.items c.push.new.self.items _ c.in-Some.plan c.loop-hall-test.true is c.in_ok-push-in-Some.ensures.items c.loop-hall.invariant.1,
    )
