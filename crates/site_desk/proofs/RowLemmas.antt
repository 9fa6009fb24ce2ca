-- What the rows of a book's history need of short lists, and of two plans that differ.
use Rattle.site_desk.proofs.Common.{◌≡◌, ℕ, List, [], ◌∷◌, ◌++◌, refl, sym, ap, arith, Bool, Some, BookEvent, Opens, Replans, PlanOf}
use Rattle.site_book.specs.Books.{first_refusal}
use Rattle.site_book.specs.Rows.{ask, even, one_sided, school, small}
use Rattle.site_book.specs.declared.amount.Amount.{Amount}
use Rattle.site_book.specs.declared.refusal.BookRefusal.TheVariants.{Beyond, OverBudget, Unfit}

module _ {X : Type 0} where
  pub not-nothing : (xs : List X) (x : X) → [] ≡ xs ++ x ∷ [] → ⊥
  not-nothing [] x is = cc is
  not-nothing (y ∷ xs) x is = cc is

  -- what stands before the last of one, and of two
  pub none-before : (xs : List X) (a x : X) → a ∷ [] ≡ xs ++ x ∷ [] → xs ≡ []
  none-before [] a x is = refl
  none-before (y ∷ xs) a x is = absurd (not-nothing xs x (let e : [] ≡ xs ++ x ∷ [] = cc is in e))

  pub first-of-two : (xs : List X) (a b x : X) → a ∷ b ∷ [] ≡ xs ++ x ∷ [] → xs ≡ a ∷ []
  first-of-two [] a b x is = absurd (let e : b ∷ [] ≡ [] = cc is in cc e)
  first-of-two (y ∷ xs) a b x is =
      let first : a ≡ y = cc is in
      let later : b ∷ [] ≡ xs ++ x ∷ [] = cc is in
      λ i. sym first i ∷ none-before xs b x later i

abbrev segments_of : List Amount → ℕ
segments_of [] = 0
segments_of (a ∷ amounts) = a.segments

-- two plans by which the first customer may have another number of segments
pub other-plan : one_sided ≡ even → ⊥
other-plan is = let e : ◌≡◌ {A = ℕ} 20 10 = ap (λ (p : PlanOf). segments_of p.customers) is in omega (arith, e)

-- the segments of an opening, and those of the first customer by another plan
abbrev segments_in : List BookEvent → ℕ
segments_in (Opens who session quota ∷ events) = quota.segments
segments_in (Replans plan ∷ events) = segments_of plan.customers
segments_in _ = 0

-- two openings of other amounts, and two other plans
pub other-amount : ◌≡◌ {A = List BookEvent} (Opens school 2 (ask 5 100) ∷ []) (Opens school 2 (ask 6 100) ∷ []) → ⊥
other-amount is = let e : ◌≡◌ {A = ℕ} 5 6 = ap segments_in is in omega (arith, e)

pub other-replan : ◌≡◌ {A = List BookEvent} (Replans even ∷ []) (Replans small ∷ []) → ⊥
other-replan is = let e : ◌≡◌ {A = ℕ} 10 20 = ap segments_in is in omega (arith, e)

-- another plan is never refused for a budget
pub whose-reason : (a b : Bool) → first_refusal ((a, Unfit) ∷ (b, Beyond) ∷ []) ≡ Some OverBudget → ⊥
whose-reason a b is = grind arith
