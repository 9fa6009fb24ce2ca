-- One hall's plan more of a file's halls (`src/homes.rt`).
use Rattle.std.proofs.Common.{◌≡◌, ℕ, suc, ◌+◌, ◌-◌, ◌<◌, ◌++◌, ◌∙◌, List, [], ◌∷◌, append_assoc, ap, arith, sym}
use Rattle.site_book.specs.Plans.{PlanOf}
use Rattle.site_book.specs.declared.amount.Amount.{Amount}
use Rattle.site_file.specs.Homes.{GuestsOf, plan_at, plans_from}
use Rattle.site_file.specs.declared.directory.Terms.{Terms}

module _ (guests : GuestsOf) (budgets : List Amount) (customers : List Terms) where
  pub plans-next : (hall count : ℕ) (own new whole : List PlanOf) (one : PlanOf) → hall < count → one ≡ plan_at hall guests budgets customers → new ≡ own ++ one ∷ [] →
      own ++ plans_from hall (count - hall) guests budgets customers ≡ whole → new ++ plans_from (hall + 1) (count - (hall + 1)) guests budgets customers ≡ whole
  plans-next hall count own new whole one less is more so =
      let many : count - hall ≡ suc (count - (hall + 1)) = omega (arith, less) in
      let next : hall + 1 ≡ suc hall = omega arith in
      ap (λ x. x ++ plans_from (hall + 1) (count - (hall + 1)) guests budgets customers) more
      ∙ (ap (λ x. (own ++ x ∷ []) ++ plans_from (hall + 1) (count - (hall + 1)) guests budgets customers) is
      ∙ (ap (λ k. (own ++ plan_at hall guests budgets customers ∷ []) ++ plans_from k (count - (hall + 1)) guests budgets customers) next
      ∙ (append_assoc own _ _
      ∙ (ap (λ k. own ++ plans_from hall k guests budgets customers) (sym many) ∙ so))))
