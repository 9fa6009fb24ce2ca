-- The names that clauses use for the desks of a site: each desk is made of what the names say for its number.
use Rattle.site_desk.proofs.Common.{◌≡◌, ℕ, ◌+◌, List, [], ◌∷◌, ◌++◌, length, sym, ap, ◌∙◌, subst, arith, nat_tests}
use Rattle.site_desk.specs.Stocks.{NamesOf, StockOf, IsStock, AreStocked, at_place, desk_names}

-- what stands at each place of a list that has one more at its head
later : {X : Type 0} (field : StockOf → X) (none : X) (s : StockOf) (stocks : List StockOf) (n : ℕ) → at_place field none (s ∷ stocks) (n + 1) ≡ at_place field none stocks n
later field none s stocks n = grind (arith, nat_tests)

-- the names from a place on are those of a list
record AreNames (names : NamesOf) (at : ℕ) (stocks : List StockOf) : Type 0 where
  table : (n : ℕ) → names.table (at + n) ≡ (desk_names stocks).table n
  begun : (n : ℕ) → names.begun (at + n) ≡ (desk_names stocks).begun n
  granted : (n : ℕ) → names.granted (at + n) ≡ (desk_names stocks).granted n
  plan : (n : ℕ) → names.plan (at + n) ≡ (desk_names stocks).plan n

stocked-from : (names : NamesOf) (at : ℕ) (stocks : List StockOf) → AreNames names at stocks → AreStocked names at stocks
stocked-from names at [] are = tt
stocked-from names at (s ∷ stocks) are =
    let here : at + 0 ≡ at = omega arith in
    let next : (n : ℕ) → (at + 1) + n ≡ at + (n + 1) = λ n. omega arith in (
      (sym (are.table 0) ∙ ap names.table here, sym (are.begun 0) ∙ ap names.begun here, sym (are.granted 0) ∙ ap names.granted here, sym (are.plan 0) ∙ ap names.plan here),
      stocked-from names (at + 1) stocks (record {
        table = λ n. ap names.table (next n) ∙ (are.table (n + 1) ∙ later _ _ s stocks n);
        begun = λ n. ap names.begun (next n) ∙ (are.begun (n + 1) ∙ later _ _ s stocks n);
        granted = λ n. ap names.granted (next n) ∙ (are.granted (n + 1) ∙ later _ _ s stocks n);
        plan = λ n. ap names.plan (next n) ∙ (are.plan (n + 1) ∙ later _ _ s stocks n);
      }),
    )

-- by the names of these themselves
pub stocked : (stocks : List StockOf) → AreStocked (desk_names stocks) 0 stocks
stocked stocks =
    let same : (n : ℕ) → 0 + n ≡ n = λ n. omega arith in
    let names = desk_names stocks in
    stocked-from names 0 stocks (record { table = λ n. ap names.table (same n); begun = λ n. ap names.begun (same n); granted = λ n. ap names.granted (same n); plan = λ n. ap names.plan (same n) })

-- all but the last, and the last
pub last-of : (names : NamesOf) (at : ℕ) (stocks : List StockOf) (stock : StockOf) → AreStocked names at (stocks ++ stock ∷ []) → AreStocked names at stocks × IsStock names (at + length stocks) stock
last-of names at [] stock is =
    let here : at ≡ at + 0 = omega arith in
    (tt, subst (λ n. IsStock names n stock) here is.0)
last-of names at (s ∷ stocks) stock is =
    let rest = last-of names (at + 1) stocks stock is.1 in
    let many : (at + 1) + length stocks ≡ at + length (s ∷ stocks) = omega arith in
    ((is.0, rest.0), subst (λ n. IsStock names n stock) many rest.1)
