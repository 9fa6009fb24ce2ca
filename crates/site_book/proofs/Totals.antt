-- In the book of a site's customers: where each part is within its budget, and the budgets fit, all sessions together
-- are within the totals of the hall.
use Rattle.site_book.proofs.Common.{◌≡◌, ℕ, suc, ◌+◌, ◌-◌, ◌≤◌, Bool, true, false, ◌&&◌, ◌||◌, leb, eqb, List, [], ◌∷◌, get_or, refl, sym, subst, inl, inr, zero-add, add-zero, arith, cases_Bool, and_parts, leb-true, le-leb, eq-eqb, Amount, Grant, Group, Own, Guests, All, Who, Named, V4, V6, same_who, is_guest, nothing, plus, sum_of, is_amount_within, IsAmountWithin, PlanOf, limit_of, sums_fit, is_in, used_by, used}
use Rattle.site_book.proofs.AmountLemmas.{within-test, within-trans, within-same, within-more, within-both, plus-swap}
use Rattle.site_book.proofs.GrantLemmas.{used-split, used-alike}
use Rattle.site_book.proofs.BudgetLemmas.{IsPart}

-- a guest, or a customer that is named from this place on
abbrev from_place : ℕ → Who → Bool
from_place k (Named number) = leb k number
from_place k (V4 address) = true
from_place k (V6 network) = true

from-all : (w : Who) → is_in All w ≡ from_place 0 w
from-all w = grind (arith, le-leb)

-- who has nothing isn't there
out-first : (part : Group) (g : Grant) (gs : List Grant) → IsAmountWithin (used part (g ∷ gs)) nothing → is_in part g.who ≡ false
out-first part g gs none = grind arith

used-tail : (part : Group) (g : Grant) (gs : List Grant) → IsAmountWithin (used part gs) (used part (g ∷ gs))
used-tail part g gs = grind (arith, within-more, within-same)

-- who has place k or a later one: the customer at k, or who has a later one
module _ (k : ℕ) where
  place-split : (n : ℕ) → leb k n ≡ (eqb k n || leb (suc k) n)
  place-split n = grind arith

  place-apart : (n : ℕ) → (eqb k n && leb (suc k) n) ≡ false
  place-apart n = grind arith

  from-split : (w : Who) → from_place k w ≡ (is_in (Own (Named k)) w || from_place (suc k) w)
  from-split w = grind (arith, place-split)

  from-apart : (w : Who) → (is_in (Own (Named k)) w && from_place (suc k) w) ≡ false
  from-apart w = grind (arith, place-apart)

  -- nobody is named from a place on: then only guests are left
  from-guests : (w : Who) → ((n : ℕ) → same_who (Named (k + n)) w ≡ false) → from_place k w ≡ is_guest w
  from-guests (Named number) out = elim (cases_Bool (leb k number)) [
    | inl aye ↦ (let le = leb-true k number aye in let same = eq-eqb (k + (number - k)) number (omega arith) in let other = out (number - k) in absurd cc)
    | inr nay ↦ nay
  ]
  from-guests (V4 address) out = refl
  from-guests (V6 network) out = refl

  none-named : (gs : List Grant) → ((n : ℕ) → IsAmountWithin (used (Own (Named (k + n))) gs) nothing) → used_by (from_place k) gs ≡ used Guests gs
  none-named [] none = refl
  none-named (g ∷ gs) none = grind (arith, none-named gs, from-guests, out-first, within-trans, used-tail)

  next : (n : ℕ) → k + suc n ≡ suc k + n
  next n = omega arith

-- guests and the customers from a place on use no more than all of them may have
module _ (gs : List Grant) (guests : Amount) (few : IsAmountWithin (used Guests gs) guests) where
  bound : (customers : List Amount) (k : ℕ) → ((n : ℕ) → IsAmountWithin (used (Own (Named (k + n))) gs) (get_or customers n nothing)) → IsAmountWithin (used_by (from_place k) gs) (plus guests (sum_of customers))
  bound [] k own = let same = none-named k gs own in grind arith
  bound (c ∷ cs) k own =
      let first : IsAmountWithin (used (Own (Named k)) gs) c = subst (λ n. IsAmountWithin (used (Own (Named n)) gs) c) (add-zero k) (own 0) in
      let rest = bound cs (suc k) (λ n. subst (λ m. IsAmountWithin (used (Own (Named m)) gs) (get_or cs n nothing)) (next k n) (own (suc n))) in
      let both = within-both _ _ _ _ first rest in
      let split = used-split (from_place k) (is_in (Own (Named k))) (from_place (suc k)) gs (from-split k) (from-apart k) in
      rw split (subst (IsAmountWithin _) (plus-swap c guests (sum_of cs)) both)

-- where a plan's sums fit, all grants are within its totals, and there are at most 64 sessions
module _ (plan : PlanOf) where
  sums-within : sums_fit plan ≡ true → (leb plan.totals.sessions 64 ≡ true) × (is_amount_within (plus plan.guests (sum_of plan.customers)) plan.totals ≡ true)
  sums-within fit = and_parts _ _ fit

  pub all-within : (gs : List Grant) → sums_fit plan ≡ true → ((part : Group) → IsPart part → IsAmountWithin (used part gs) (limit_of plan part)) → IsAmountWithin (used All gs) plan.totals
  all-within gs fit parts =
      let budgets = λ (n : ℕ). subst (λ m. IsAmountWithin (used (Own (Named m)) gs) (get_or plan.customers n nothing)) (sym (zero-add n)) (parts (Own (Named n)) tt) in
      let all = bound gs plan.guests (parts Guests tt) plan.customers 0 budgets in
      let same = used-alike (is_in All) (from_place 0) gs from-all in
      rw same (within-trans _ _ _ all (within-test _ _ (sums-within fit).1))

  pub few-sessions : sums_fit plan ≡ true → plan.totals.sessions ≤ 64
  few-sessions fit = leb-true _ _ (sums-within fit).0
