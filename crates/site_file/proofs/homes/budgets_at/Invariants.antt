-- The budgets of a hall: those so far and those of the customers that are left are all.
use Rattle.std.proofs.Common.{◌≡◌, ◌++◌, length}
use Rattle.site_file.specs.Homes.{budgets_at}
use Rattle.site_file.proofs.homes.budgets_at.Given as goal

abbrev pub invariant-loop-terms : goal.invariant-loop-terms
invariant-loop-terms l = l.there.items ++ budgets_at l.hall l.left l.rest ≡ budgets_at l.hall l.budgets l.customers

abbrev pub decreases-loop-terms : goal.decreases-loop-terms
decreases-loop-terms l = length l.rest
