-- Meaning: what a site's desks are made of, and the names of their histories.
use Rattle.std.specs.Prelude.{◌≡◌, ℕ, ◌+◌, ◌-◌, ◌==◌, List, [], ◌∷◌, if◌then◌else◌}
use Rattle.atomic_table.specs.Seated.{TableId}
use Rattle.desk.specs.Traces.{no_table}
use Rattle.hall.specs.Halls.{HallOf, empty_hall}
use Rattle.site_book.specs.Amounts.{nothing}
use Rattle.site_book.specs.Books.{BookOf}
use Rattle.site_book.specs.Plans.{PlanOf}
use Rattle.fair_share.specs.Shares.{SharesOf}

-- a hall and its book, what customers were served before, which history is the hall's, and which the book's
pub record StockOf : Type 0 where
  pub hall : HallOf
  pub book : BookOf
  pub shares : SharesOf
  pub opened : TableId
  pub granted : TableId

-- what the desk of a number is named by: the history of its hall and that of its book, and the hall and the plan with which they begin
pub record NamesOf : Type 0 where
  pub table : ℕ → TableId
  pub begun : ℕ → HallOf
  pub granted : ℕ → TableId
  pub plan : ℕ → PlanOf

-- what a desk of this number is made of: the hall, history and plan that the number names
abbrev pub IsStock : NamesOf → ℕ → StockOf → Type 0
IsStock names at stock = (stock.opened ≡ names.table at) × (stock.hall ≡ names.begun at) × (stock.granted ≡ names.granted at) × (stock.book.plan ≡ names.plan at)

-- each of these stocks is what the desk of its number is made of; the numbers follow each other from this one on
abbrev pub AreStocked : NamesOf → ℕ → List StockOf → Type 0
AreStocked names at [] = Unit {0}
AreStocked names at (stock ∷ stocks) = IsStock names at stock × AreStocked names (at + 1) stocks

-- the element at a place of a list, counted from 0; another value beyond its end
abbrev pub at_place : {X : Type 0} → (StockOf → X) → X → List StockOf → ℕ → X
at_place field none [] at = none
at_place field none (stock ∷ stocks) at = if at == 0 then field stock else at_place field none stocks (at - 1)

-- a plan by which nobody may have anything
abbrev pub no_plan : PlanOf
no_plan = record { totals = nothing; customers = []; guest = nothing; network = nothing; guests = nothing }

-- the names of the desks that are made of these stocks, by their places
abbrev pub desk_names : List StockOf → NamesOf
desk_names stocks = record {
  table = at_place (λ stock. stock.opened) no_table stocks;
  begun = at_place (λ stock. stock.hall) (empty_hall 0 (record { segments = 0; nodes = 0 })) stocks;
  granted = at_place (λ stock. stock.granted) no_table stocks;
  plan = at_place (λ stock. stock.book.plan) no_plan stocks;
}
