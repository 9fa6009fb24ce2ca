-- What both of two plans of a site allow, compared with what each allows.
use Rattle.std.proofs.Common.{◌≡◌, ℕ, zero, suc, ◌+◌, ◌-◌, ◌<◌, ◌++◌, ◌&&◌, List, [], ◌∷◌, Bool, true, false, not, append_assoc, arith, get_or, subst, sym, ap, ◌∙◌, refl, zero-add}
use Rattle.std.proofs.lemmas.Bool.{and_from, and_parts}
use Rattle.std.proofs.lemmas.Bool.Decides.{nat_tests}
use Rattle.std.specs.Option.{is_none}
use Rattle.site_book.proofs.AmountLemmas.{within-nothing, within-test, test-within, within-trans}
use Rattle.site_book.specs.Amounts.{IsAmountWithin, is_amount_within, nothing}
use Rattle.site_book.specs.Books.{is_over, part_over, are_within}
use Rattle.site_book.specs.Grants.{used, is_in}
use Rattle.site_book.specs.Names.{network_of}
use Rattle.site_book.specs.Plans.{PlanOf, budget_of, limit_of}
use Rattle.site_book.specs.declared.amount.Amount.{Amount}
use Rattle.site_book.specs.declared.held.Grant.{Grant}
use Rattle.site_book.specs.declared.held.Group.{Group}
use Rattle.site_book.specs.declared.held.Group.TheVariants.{Own, Network, Guests}
use Rattle.site_book.specs.declared.who.Who.{Who}
use Rattle.site_book.specs.declared.who.Who.TheVariants.{Named, V4, V6}
use Rattle.site_rules.specs.Reloads.{least_of_both, budgets_of_both, plan_of_both}

-- one budget more
pub both-step : (a b : PlanOf) (from many : ℕ) (own : List Amount) → (own ++ least_of_both (budget_of a (Named from)) (budget_of b (Named from)) ∷ []) ++ budgets_of_both a b (suc from) many ≡ own ++ budgets_of_both a b from (suc many)
both-step a b from many own = append_assoc own _ _

pub both-next : (a b : PlanOf) (number customers : ℕ) (own new whole : List Amount) (one : Amount) → number < customers → one ≡ least_of_both (budget_of a (Named number)) (budget_of b (Named number)) → new ≡ own ++ one ∷ [] →
    own ++ budgets_of_both a b number (customers - number) ≡ whole → new ++ budgets_of_both a b (number + 1) (customers - (number + 1)) ≡ whole
both-next a b number customers own new whole one less is more so =
    let many : customers - number ≡ suc (customers - (number + 1)) = omega (arith, less) in
    let next : number + 1 ≡ suc number = omega arith in
    ap (λ x. x ++ budgets_of_both a b (number + 1) (customers - (number + 1))) more
    ∙ (ap (λ x. (own ++ x ∷ []) ++ budgets_of_both a b (number + 1) (customers - (number + 1))) is
    ∙ (ap (λ k. (own ++ least_of_both (budget_of a (Named number)) (budget_of b (Named number)) ∷ []) ++ budgets_of_both a b k (customers - (number + 1))) next
    ∙ (both-step a b number (customers - (number + 1)) own
    ∙ (ap (λ k. own ++ budgets_of_both a b number k) (sym many) ∙ so))))

pub least_of_both-first : (a b : Amount) → IsAmountWithin (least_of_both a b) a
least_of_both-first a b = grind arith

pub least_of_both-second : (a b : Amount) → IsAmountWithin (least_of_both a b) b
least_of_both-second a b = grind arith

module _ (a b : PlanOf) where
  named-first : (many from number : ℕ) → IsAmountWithin (get_or (budgets_of_both a b from many) number nothing) (budget_of a (Named (from + number)))
  named-first zero from number = within-nothing _
  named-first (suc many) from zero = subst (λ k. IsAmountWithin (least_of_both (budget_of a (Named from)) (budget_of b (Named from))) (budget_of a (Named k))) (omega arith) (least_of_both-first _ _)
  named-first (suc many) from (suc number) =
      subst (λ k. IsAmountWithin (get_or (budgets_of_both a b (suc from) many) number nothing) (budget_of a (Named k))) (omega arith) (named-first many (suc from) number)

  named-second : (many from number : ℕ) → IsAmountWithin (get_or (budgets_of_both a b from many) number nothing) (budget_of b (Named (from + number)))
  named-second zero from number = within-nothing _
  named-second (suc many) from zero = subst (λ k. IsAmountWithin (least_of_both (budget_of a (Named from)) (budget_of b (Named from))) (budget_of b (Named k))) (omega arith) (least_of_both-second _ _)
  named-second (suc many) from (suc number) =
      subst (λ k. IsAmountWithin (get_or (budgets_of_both a b (suc from) many) number nothing) (budget_of b (Named k))) (omega arith) (named-second many (suc from) number)

  budget-first : (many : ℕ) (who : Who) → IsAmountWithin (budget_of (plan_of_both a b many) who) (budget_of a who)
  budget-first many (Named number) = subst (λ k. IsAmountWithin (get_or (budgets_of_both a b zero many) number nothing) (budget_of a (Named k))) (zero-add number) (named-first many zero number)
  budget-first many (V4 address) = least_of_both-first _ _
  budget-first many (V6 network) = least_of_both-first _ _

  budget-second : (many : ℕ) (who : Who) → IsAmountWithin (budget_of (plan_of_both a b many) who) (budget_of b who)
  budget-second many (Named number) = subst (λ k. IsAmountWithin (get_or (budgets_of_both a b zero many) number nothing) (budget_of b (Named k))) (zero-add number) (named-second many zero number)
  budget-second many (V4 address) = least_of_both-second _ _
  budget-second many (V6 network) = least_of_both-second _ _

-- who isn't beyond a lesser amount isn't beyond a greater one
over-more : (own : Bool) (has less more : Amount) → IsAmountWithin less more → (own && not (is_amount_within has less)) ≡ false → (own && not (is_amount_within has more)) ≡ false
over-more own has less more le nay = grind (arith, nat_tests)

-- where a plan allows nobody less than another, what is within that is within it
module _ (less more : PlanOf) (own : (who : Who) → IsAmountWithin (budget_of less who) (budget_of more who)) (network : IsAmountWithin less.network more.network) (guests : IsAmountWithin less.guests more.guests) where
  part-more : (all : List Grant) (who : Who) → is_none (part_over less all who) ≡ true → is_none (part_over more all who) ≡ true
  part-more all who none =
      let own_not : is_over less (Own who) who all ≡ false = grind arith in
      let network_not : is_over less (Network (network_of who)) who all ≡ false = grind arith in
      let guests_not : is_over less Guests who all ≡ false = grind arith in
      rw (
        over-more (is_in (Own who) who) (used (Own who) all) (budget_of less who) (budget_of more who) (own who) own_not,
        over-more (is_in (Network (network_of who)) who) (used (Network (network_of who)) all) less.network more.network network network_not,
        over-more (is_in Guests who) (used Guests all) less.guests more.guests guests guests_not,
      ) refl

  pub are-more : (all grants : List Grant) → are_within less all grants ≡ true → are_within more all grants ≡ true
  are-more all [] within = refl
  are-more all (held ∷ grants) within =
      let both = and_parts (is_none (part_over less all held.who)) (are_within less all grants) within in
      and_from _ _ (part-more all held.who both.0) (are-more all grants both.1)

pub first-allows : (a b : PlanOf) (many : ℕ) (grants : List Grant) → are_within (plan_of_both a b many) grants grants ≡ true → are_within a grants grants ≡ true
first-allows a b many grants within =
    are-more (plan_of_both a b many) a (budget-first a b many) (least_of_both-first _ _) (least_of_both-first _ _) grants grants within

pub second-allows : (a b : PlanOf) (many : ℕ) (grants : List Grant) → are_within (plan_of_both a b many) grants grants ≡ true → are_within b grants grants ≡ true
second-allows a b many grants within =
    are-more (plan_of_both a b many) b (budget-second a b many) (least_of_both-second _ _) (least_of_both-second _ _) grants grants within
