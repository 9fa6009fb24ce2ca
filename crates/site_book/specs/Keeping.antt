-- Representation: what the book of a site's customers keeps true.
use Rattle.std.specs.Prelude.{◌≡◌, List, true}
use Rattle.site_book.specs.declared.held.Grant.{Grant}
use Rattle.site_book.specs.declared.held.Group.{Group}
use Rattle.site_book.specs.Amounts.{IsAmountWithin}
use Rattle.site_book.specs.Plans.{PlanOf, limit_of, sums_fit}
use Rattle.site_book.specs.Grants.{used}

-- the sums fit, and whatever part of the grants is looked at, it has no more than the plan allows
pub record IsKept (plan : PlanOf) (grants : List Grant) : Type 0 where
  pub fit : sums_fit plan ≡ true
  pub within : (part : Group) → IsAmountWithin (used part grants) (limit_of plan part)
