-- Meaning: what must be left in the book of a site's customers for a session and for a raise, in plain numbers.
use Rattle.std.specs.Prelude.{◌≡◌, ℕ, true, List}
use Rattle.tenant_quota.specs.Reserves.{ReserveOf, IsAbove}
use Rattle.site_book.specs.declared.held.Grant.{Grant}
use Rattle.site_book.specs.declared.held.Group.TheVariants.{Own, Network, Guests}
use Rattle.site_book.specs.declared.who.Who.{Who}
use Rattle.site_book.specs.Names.{is_guest, network_of}
use Rattle.site_book.specs.Amounts.{of_one, plus, IsAmountWithin}
use Rattle.site_book.specs.Plans.{PlanOf, budget_of}
use Rattle.site_book.specs.Grants.{used, grants_without}

-- a customer's budget has room for so much more than what the customer has; and for a guest, so has the budget of its
-- wider network's guests together, and that of all guests together
pub record HasBudgetFor (plan : PlanOf) (who : Who) (ask : ReserveOf) (grants : List Grant) : Type 0 where
  pub own : IsAmountWithin (plus (of_one ask) (used (Own who) grants)) (budget_of plan who)
  pub network : is_guest who ≡ true → IsAmountWithin (plus (of_one ask) (used (Network (network_of who)) grants)) plan.network
  pub guests : is_guest who ≡ true → IsAmountWithin (plus (of_one ask) (used Guests grants)) plan.guests

-- a session that is there may be raised: it gets more, and with what it has then all is within the budgets
pub record MayGrow (plan : PlanOf) (who : Who) (session : ℕ) (ask : ReserveOf) (grants : List Grant) (held : Grant) : Type 0 where
  pub more : IsAbove held.ask ask
  pub left : HasBudgetFor plan who ask (grants_without who session grants)
