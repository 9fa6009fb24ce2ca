-- A site's budgets are joined while a plan is replaced (`reloads::budgets_of_both`): at each turn, those so far and
-- those left make all.
use Rattle.std.proofs.Common.{◌≡◌, ◌-◌, ◌++◌, ◌≤◌, length}
use Rattle.site_rules.specs.Reloads.{budgets_of_both}
use Rattle.site_rules.proofs.reloads.budgets_of_both.Given as goal

abbrev pub invariant-loop-number : goal.invariant-loop-number
invariant-loop-number l = (l.number ≤ l.customers) × (l.budgets.items ++ budgets_of_both l.a l.b l.number (l.customers - l.number) ≡ budgets_of_both l.a l.b 0 l.customers)
