-- Meaning: the plan of each hall, where each customer has its budget in one of them, its home.
use Rattle.std.specs.Prelude.{ℕ, zero, suc, ◌≡◌, ◌==◌, List, [], ◌∷◌, if◌then◌else◌}
use Rattle.site_book.specs.Amounts.{nothing}
use Rattle.site_book.specs.Plans.{PlanOf}
use Rattle.site_book.specs.declared.amount.Amount.{Amount}
use Rattle.site_file.specs.declared.directory.Terms.{Terms}

-- what each hall has, and what each guest, the guests of a wider network and all guests may have there
pub record GuestsOf : Type 0 where
  pub totals : Amount
  pub each : Amount
  pub network : Amount
  pub together : Amount

-- the first of these budgets; nothing where there is none
abbrev pub first_budget : List Amount → Amount
first_budget [] = nothing
first_budget (budget ∷ budgets) = budget

-- those behind it
abbrev pub later_budgets : List Amount → List Amount
later_budgets [] = []
later_budgets (budget ∷ budgets) = budgets

-- the budgets that customers have in a hall, of those that they have at home: nothing where it isn't their home
abbrev pub budgets_at : ℕ → List Amount → List Terms → List Amount
budgets_at hall budgets [] = []
budgets_at hall budgets (terms ∷ customers) = (if terms.hall == hall then first_budget budgets else nothing) ∷ budgets_at hall (later_budgets budgets) customers

-- the plan of a hall
abbrev pub plan_at : ℕ → GuestsOf → List Amount → List Terms → PlanOf
plan_at hall guests budgets customers =
    record { totals = guests.totals; customers = budgets_at hall budgets customers; guest = guests.each; network = guests.network; guests = guests.together }

-- the plans of so many halls, from this one on
abbrev pub plans_from : ℕ → ℕ → GuestsOf → List Amount → List Terms → List PlanOf
plans_from hall zero guests budgets customers = []
plans_from hall (suc many) guests budgets customers = plan_at hall guests budgets customers ∷ plans_from (suc hall) many guests budgets customers

-- plans by which each customer has its budget at home, and nothing elsewhere
abbrev pub AreAtHome : List PlanOf → List Terms → Type 0
AreAtHome plans customers = (guests : GuestsOf) × (budgets : List Amount) × (many : ℕ) × (plans ≡ plans_from 0 many guests budgets customers)

-- so much of each, for rows
abbrev pub amount_of : ℕ → Amount
amount_of many = record { sessions = many; segments = many; nodes = many }
