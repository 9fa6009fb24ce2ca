-- Each event in the book of a site's customers leaves all within their budgets.
use Rattle.site_book.proofs.Common.{◌≡◌, ℕ, ◌≤◌, true, false, List, [], ◌∷◌, ◌++◌, length, Option, Some, None, refl, ap, ◌∙◌, inl, inr, ◌⊎◌, arith, cases_Bool, and_parts, and_from, and_right, is_none, ReserveOf, Grant, Group, Own, Network, Guests, All, BookRefusal, Who, is_guest, network_of, nothing, IsAmountWithin, PlanOf, limit_of, sums_fit, is_in, used, grant_of, grants_without, grants_raised, BookOf, BookEvent, Opens, Raises, Closes, Replans, why_over, why_no_raise, is_over, part_over, are_within, why_not_replan, answer_of_book, taken, book_after_answer, book_after, HasBudgetFor, IsKept}
use Rattle.site_book.proofs.AmountLemmas.{within-test, test-within, within-trans, within-nothing, same-is_same, same-self}
use Rattle.site_book.proofs.NameLemmas.{same-is, in-own}
use Rattle.site_book.proofs.GrantLemmas.{within-push, used-without-le, used-with-ask, used-with-ask-other, found-own, used-all}
use Rattle.site_book.proofs.BudgetLemmas.{IsPart, in-network, allowed, passes, grow-from}
use Rattle.site_book.proofs.Totals.{all-within, few-sessions}

pub kept-new : (plan : PlanOf) → sums_fit plan ≡ true → IsKept plan []
kept-new plan fit = record { fit = fit; within = λ part. within-nothing (limit_of plan part) }

-- a plan keeps grants of which each part is within its limit
module _ (plan : PlanOf) (gs : List Grant) where
  pub kept-of : sums_fit plan ≡ true → ((part : Group) → IsPart part → IsAmountWithin (used part gs) (limit_of plan part)) → IsKept plan gs
  kept-of fit parts = record { fit = fit; within = λ part. each part }
    where
      each : (part : Group) → IsAmountWithin (used part gs) (limit_of plan part)
      each (Own who) = parts (Own who) tt
      each (Network who) = parts (Network who) tt
      each Guests = parts Guests tt
      each All = all-within plan gs fit parts

  -- a hall has at most 64 grants
  pub kept-few : IsKept plan gs → length gs ≤ 64
  kept-few kept = let all = kept.within All in omega (arith, all.sessions, used-all gs, few-sessions plan kept.fit)

-- a plan keeps the grants after a session opens, is raised or closes
module _ (plan : PlanOf) (gs : List Grant) (who : Who) (session : ℕ) where
  -- where it asks for so much
  module _ (ask : ReserveOf) where
    pub kept-open : IsKept plan gs → why_over plan who ask gs ≡ None → IsKept plan (gs ++ record { who = who; session = session; ask = ask } ∷ [])
    kept-open kept none =
        let has = allowed plan who ask gs none in
        kept-of plan _ kept.fit (λ part is. within-push part gs _ (limit_of plan part) (kept.within part) (passes plan who ask gs has part is))

    pub kept-grow : (held : Grant) → IsKept plan gs → grant_of who session gs ≡ Some held → HasBudgetFor plan who ask (grants_without who session gs) → IsKept plan (grants_raised who session ask gs)
    kept-grow held kept is has =
        let same : who ≡ held.who = same-is who held.who (and_parts _ _ (found-own who session gs held is)).0 in
        kept-of plan (grants_raised who session ask gs) kept.fit (λ part is_part. elim (cases_Bool (is_in part held.who)) [
          | inl aye ↦ rw (used-with-ask (is_in part) who session ask gs held is aye) (passes plan who ask (grants_without who session gs) has part is_part (ap (is_in part) same ∙ aye))
          | inr nay ↦ rw (used-with-ask-other (is_in part) who session ask gs held is nay) (kept.within part)
        ])

    pub kept-raise : (found : Option Grant) → IsKept plan gs → grant_of who session gs ≡ found → why_no_raise plan who session ask gs found ≡ None → IsKept plan (grants_raised who session ask gs)
    kept-raise None kept is none = absurd cc
    kept-raise (Some held) kept is none = kept-grow held kept is (grow-from plan who session ask gs held none).left

  pub kept-close : IsKept plan gs → IsKept plan (grants_without who session gs)
  kept-close kept = grind (arith, kept-of, within-trans, used-without-le)

-- another plan

-- where part_over finds no part, each of which the customer is one is within its limit
module _ (plan : PlanOf) (gs : List Grant) (who : Who) where
  within-over : (part : Group) → is_over plan part who gs ≡ false → is_in part who ≡ true → IsAmountWithin (used part gs) (limit_of plan part)
  within-over part nay own = within-test _ _ (grind arith)

  each-part : IsAmountWithin (used (Own who) gs) (limit_of plan (Own who)) → (is_guest who ≡ true → IsAmountWithin (used (Network (network_of who)) gs) plan.network) →
      (is_guest who ≡ true → IsAmountWithin (used Guests gs) plan.guests) → (part : Group) → IsPart part → is_in part who ≡ true → IsAmountWithin (used part gs) (limit_of plan part)
  each-part own_is network_is guests_is part is own = grind (arith, same-is, and_parts)

  -- no part of which the customer is one has more than it may have
  pub none-over : is_none (part_over plan gs who) ≡ true → (part : Group) → IsPart part → is_in part who ≡ true → IsAmountWithin (used part gs) (limit_of plan part)
  none-over none part is own =
      let own_not : is_over plan (Own who) who gs ≡ false = grind arith in
      let network_not : is_over plan (Network (network_of who)) who gs ≡ false = grind arith in
      let guests_not : is_over plan Guests who gs ≡ false = grind arith in
      let network_is = λ (guest : is_guest who ≡ true). within-over (Network (network_of who)) network_not (in-network who guest) in
      each-part (within-over (Own who) own_not (in-own who)) network_is (within-over Guests guests_not) part is own

-- of some of the grants: one of them is of the part, which is within the plan then, or none is
some-within : (plan : PlanOf) (all gs : List Grant) (part : Group) → IsPart part → are_within plan all gs ≡ true → IsAmountWithin (used part all) (limit_of plan part) ⊎ (used part gs ≡ nothing)
some-within plan all [] part is within = inr refl
some-within plan all (g ∷ gs) part is within =
    let both = and_parts (is_none (part_over plan all g.who)) (are_within plan all gs) within in
    elim (cases_Bool (is_in part g.who)) [
      | inl aye ↦ inl (none-over plan all g.who both.0 part is aye)
      | inr nay ↦ rw nay (some-within plan all gs part is both.1)
    ]

pub within-plan : (plan : PlanOf) (gs : List Grant) → are_within plan gs gs ≡ true → (part : Group) → IsPart part → IsAmountWithin (used part gs) (limit_of plan part)
within-plan plan gs within part is = grind (arith, some-within, within-nothing)

-- what is within a plan lets it in
module _ (plan : PlanOf) (all : List Grant) (within : (part : Group) → IsAmountWithin (used part all) (limit_of plan part)) where
  not-over : (part : Group) (who : Who) → is_over plan part who all ≡ false
  not-over part who = rw (test-within (used part all) (limit_of plan part) (within part)) (and_right (is_in part who) false refl)

  none-part : (who : Who) → is_none (part_over plan all who) ≡ true
  none-part who = rw (not-over (Own who) who, not-over (Network (network_of who)) who, not-over Guests who) refl

  are-within : (gs : List Grant) → are_within plan all gs ≡ true
  are-within [] = refl
  are-within (g ∷ gs) = and_from _ _ (none-part g.who) (are-within gs)

-- what a plan that comes in has passed
pub record ComesIn (book : BookOf) (plan : PlanOf) : Type 0 where
  pub totals : plan.totals ≡ book.plan.totals
  pub fit : sums_fit plan ≡ true
  pub within : are_within plan book.grants book.grants ≡ true

-- a plan that isn't refused lets the grants in, and keeps them
module _ (book : BookOf) (plan : PlanOf) where
  pub comes-in : why_not_replan book plan ≡ None → ComesIn book plan
  comes-in none = grind (arith, same-is_same)

  pub kept-replan : why_not_replan book plan ≡ None → IsKept plan book.grants
  kept-replan none = let is = comes-in none in kept-of plan book.grants is.fit (within-plan plan book.grants is.within)

  pub let-in : plan.totals ≡ book.plan.totals → sums_fit plan ≡ true → ((part : Group) → IsAmountWithin (used part book.grants) (limit_of plan part)) → why_not_replan book plan ≡ None
  let-in totals fit within = grind (arith, same-self, are-within)

-- whatever happens

kept-taken : (book : BookOf) (event : BookEvent) → answer_of_book book event ≡ None → IsKept book.plan book.grants → IsKept (taken book event).plan (taken book event).grants
kept-taken book (Opens who session ask) none kept = kept-open book.plan book.grants who session ask kept none
kept-taken book (Raises who session ask) none kept = kept-raise book.plan book.grants who session ask _ kept refl none
kept-taken book (Closes who session) none kept = kept-close book.plan book.grants who session kept
kept-taken book (Replans plan) none kept = kept-replan book plan none

-- after each event the book's plan keeps its grants
module _ (book : BookOf) (event : BookEvent) where
  kept-answer : (answer : Option BookRefusal) → answer_of_book book event ≡ answer → IsKept book.plan book.grants → IsKept (book_after_answer book event answer).plan (book_after_answer book event answer).grants
  kept-answer answer is kept = grind (arith, kept-taken)

  pub kept-after : IsKept book.plan book.grants → IsKept (book_after book event).plan (book_after book event).grants
  kept-after kept = kept-answer (answer_of_book book event) refl kept
