-- The plans of all halls: those so far and those of the halls that are left are all.
use Rattle.std.proofs.Common.{◌≡◌, ◌-◌, ◌++◌, ◌≤◌}
use Rattle.site_file.specs.Homes.{GuestsOf, plans_from}
use Rattle.site_file.proofs.homes.plans_of.Given as goal

abbrev pub invariant-loop-hall : goal.invariant-loop-hall
invariant-loop-hall l =
    let guests : GuestsOf = record { totals = l.guests.totals; each = l.guests.each; network = l.guests.network; together = l.guests.together } in
    (l.hall ≤ l.count) × (l.plans.items ++ plans_from l.hall (l.count - l.hall) guests l.budgets l.customers ≡ plans_from 0 l.count guests l.budgets l.customers)
