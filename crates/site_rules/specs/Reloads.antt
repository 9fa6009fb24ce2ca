-- Meaning: the plan by which a hall of a site goes while the site changes from one file to another.
use Rattle.std.specs.Prelude.{ℕ, zero, suc, min, List, [], ◌∷◌}
use Rattle.site_book.specs.declared.amount.Amount.{Amount}
use Rattle.site_book.specs.declared.who.Who.TheVariants.{Named}
use Rattle.site_book.specs.Plans.{PlanOf, budget_of}

-- the lesser of two amounts in each of sessions, segments and nodes
abbrev pub least_of_both : Amount → Amount → Amount
least_of_both a b = record { sessions = min a.sessions b.sessions; segments = min a.segments b.segments; nodes = min a.nodes b.nodes }

-- the lesser budget by both plans of so many customers, from this number on
abbrev pub budgets_of_both : PlanOf → PlanOf → ℕ → ℕ → List Amount
budgets_of_both a b from zero = []
budgets_of_both a b from (suc many) = least_of_both (budget_of a (Named from)) (budget_of b (Named from)) ∷ budgets_of_both a b (suc from) many

-- what both plans allow, of a hall with the totals of the first, for so many customers
abbrev pub plan_of_both : PlanOf → PlanOf → ℕ → PlanOf
plan_of_both a b many =
    record { totals = a.totals; customers = budgets_of_both a b 0 many; guest = least_of_both a.guest b.guest; network = least_of_both a.network b.network; guests = least_of_both a.guests b.guests }
