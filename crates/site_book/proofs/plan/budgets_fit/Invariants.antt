-- A site's plan tests whether its budgets are within the hall's totals (`plan::budgets_fit`): at each turn, the
-- budgets still to come are within what is left exactly where all are within the totals.
use Rattle.site_book.proofs.Common.{◌≡◌, length, is_amount_within, plus, sum_of}
use Rattle.site_book.proofs.plan.budgets_fit.Given as goal

-- the rest is within what is left exactly where all is within the totals
abbrev pub invariant-loop-customer : goal.invariant-loop-customer
invariant-loop-customer l = is_amount_within (sum_of l.rest) l.left ≡ is_amount_within (plus l.fn.guests (sum_of l.customers)) l.fn.totals

abbrev pub decreases-loop-customer : goal.decreases-loop-customer
decreases-loop-customer l = length l.rest
