-- Meaning: what a plan of a site's hall allows: its named customers, and its guests.
use Rattle.std.specs.Prelude.{Bool, ◌&&◌, nat_le, List, slice_index_or}
use Rattle.site_book.specs.declared.amount.Amount.{Amount}
use Rattle.site_book.specs.declared.held.Group.{Group}
use Rattle.site_book.specs.declared.held.Group.TheVariants.{Own, Network, Guests, All}
use Rattle.site_book.specs.declared.who.Who.{Who}
use Rattle.site_book.specs.declared.who.Who.TheVariants.{Named, V4, V6}
use Rattle.site_book.specs.Amounts.{nothing, plus, sum_of, is_amount_within}

-- what the hall has for all sessions, the budgets of the named customers, and what each guest, the guests of one wider network and all
-- guests together may have
pub record PlanOf : Type 0 where
  pub totals : Amount
  pub customers : List Amount
  pub guest : Amount
  pub network : Amount
  pub guests : Amount

-- what a customer may have: a guest what the plan allows each guest, and a named customer its own budget; nothing
-- where the plan doesn't name it
abbrev pub budget_of : PlanOf → Who → Amount
budget_of plan (Named number) = slice_index_or plan.customers number nothing
budget_of plan (V4 address) = plan.guest
budget_of plan (V6 network) = plan.guest

-- what some of the sessions may have together
abbrev pub limit_of : PlanOf → Group → Amount
limit_of plan (Own who) = budget_of plan who
limit_of plan (Network who) = plan.network
limit_of plan Guests = plan.guests
limit_of plan All = plan.totals

-- whether all sums fit: a hall has 64 sessions at most, and all budgets together are within what it has
abbrev pub sums_fit : PlanOf → Bool
sums_fit plan = nat_le plan.totals.sessions 64 && is_amount_within (plus plan.guests (sum_of plan.customers)) plan.totals
