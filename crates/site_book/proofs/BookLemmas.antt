-- What the calls of the book of a site's customers leave in its fields.
use Rattle.site_book.proofs.Common.{◌≡◌, ℕ, ◌<◌, ◌≤◌, Bool, true, false, cond, List, [], ◌∷◌, ◌++◌, length, get_or, set, Option, Some, None, Result, Ok, is_ok, refl, ap, sym, ◌∙◌, subst, inl, inr, arith, if◌then◌else◌, IfNone, cases_lt, remove, ReserveOf, Amount, Grant, Group, All, BookRefusal, Gone, Lower, Who, nothing, of_one, plus, minus, IsAmountWithin, PlanOf, is_in, used, grant_place, grant_of, grants_without, grants_raised, is_no_raise, BookOf, why_over, why_no_raise, why_not_replan, IsKept}
use Rattle.site_book.proofs.GrantLemmas.{IsPlace, place-is, place-none, without-none, used-removed}
use Rattle.site_book.proofs.Keepings.{kept-open, kept-raise, kept-replan}
use Rattle.site_book.proofs.RunLemmas.{room-open, room-raise}
use Rattle.site_book.proofs.Totals.{few-sessions}

module _ (who : Who) (session : ℕ) where
  -- a session that is there has its place
  pub place-there : (gs : List Grant) → (grant_of who session gs ≡ None → ⊥) → grant_place who session gs < length gs
  place-there gs some = elim (cases_lt (grant_place who session gs) (length gs)) [ inl less ↦ less | inr past ↦ absurd (some (place-none who session gs past)) ]

  pub length-with-ask : (ask : ReserveOf) (gs : List Grant) → length (grants_raised who session ask gs) ≡ length gs
  length-with-ask ask [] = refl
  length-with-ask ask (g ∷ gs) = grind (arith, length-with-ask ask gs)

-- what stands at the place that was found, and what a removal and a write there do
module _ (gs read : List Grant) (who : Who) (session i : ℕ) (same : read ≡ gs) (is : i ≡ grant_place who session read) where
  at-place : i < length gs → IsPlace who session gs i
  at-place less =
      let place : i ≡ grant_place who session gs = is ∙ ap (grant_place who session) same in
      subst (IsPlace who session gs) (sym place) (place-is who session gs (subst (λ k. k < length gs) place less))

  pub found-held : (held : Grant) → i < length gs → held ≡ get_or gs i held → grant_of who session gs ≡ Some held
  found-held held less at = (at-place less).found held at

  pub removed-list : i < length gs → remove gs i ≡ grants_without who session gs
  removed-list less = (at-place less).removed

  pub raised-list : (held : Grant) (ask : ReserveOf) → i < length gs → held ≡ get_or gs i held → set gs i (record held { ask = ask }) ≡ grants_raised who session ask gs
  raised-list held ask less at = (at-place less).written held ask at

  -- where there is none
  pub kept-list : length gs ≤ i → gs ≡ grants_without who session gs
  kept-list past = grind (arith, without-none)

-- the grant at a place is in the part, and the rest is what is left without it
module _ (part : Group) (gs : List Grant) (i : ℕ) (held : Grant) (u : Amount) (less : i < length gs) (at : held ≡ get_or gs i held) (is : u ≡ used part gs) where
  all-is : (b : Bool) → is_in part held.who ≡ b → u ≡ cond b (plus (of_one held.ask) (used part (remove gs i))) (used part (remove gs i))
  all-is b own = is ∙ (used-removed (is_in part) gs i held less at ∙ ap (λ b. cond b (plus (of_one held.ask) (used part (remove gs i))) (used part (remove gs i))) own)

  pub own-within : (one : Amount) → is_in part held.who ≡ true → one ≡ plus (of_one held.ask) nothing → IsAmountWithin one u
  own-within one own only = let all = all-is true own in grind arith

  pub own-less : (one r : Amount) → is_in part held.who ≡ true → one ≡ plus (of_one held.ask) nothing → r ≡ minus u one → r ≡ used part (remove gs i)
  own-less one r own only left = let all = all-is true own in grind arith

  pub other-same : is_in part held.who ≡ false → u ≡ used part (remove gs i)
  other-same other = all-is false other

-- the fields are kept, where the book is what they stand for

abbrev viewed : PlanOf → List Grant → BookOf
viewed plan gs = record { plan = plan; grants = gs }

-- a book that shows a plan and grants: after a plan that isn't refused, the plan keeps the grants
module _ (plan : PlanOf) (gs : List Grant) (book : BookOf) (view : viewed plan gs ≡ book) where
  pub replanned : (later : PlanOf) → why_not_replan book later ≡ None → IsKept later gs
  replanned later none = grind (arith, kept-replan)

  -- where it keeps the grants, it keeps them after a session or a raise that isn't refused
  module _ (kept : IsKept plan gs) where
    pub opened : (who : Who) (session : ℕ) (ask : ReserveOf) → why_over book.plan who ask book.grants ≡ None → IsKept plan (gs ++ record { who = who; session = session; ask = ask } ∷ [])
    opened who session ask none = kept-open plan gs who session ask kept (subst (λ (b : BookOf). why_over b.plan who ask b.grants ≡ None) (sym view) none)

    pub raised : (who : Who) (session : ℕ) (ask : ReserveOf) → why_no_raise book.plan who session ask book.grants (grant_of who session book.grants) ≡ None → IsKept plan (grants_raised who session ask gs)
    raised who session ask none = grind (arith, kept-raise)

    -- the hall has room for what isn't refused

    pub opens-room : (who : Who) (ask : ReserveOf) (why : Option BookRefusal) → why ≡ why_over book.plan who ask book.grants → IfNone why (IsAmountWithin (plus (of_one ask) (used All book.grants)) book.plan.totals)
    opens-room who ask why is = grind (arith, room-open)

    pub raises-room : (who : Who) (session : ℕ) (ask : ReserveOf) (why : Option BookRefusal) → why ≡ why_no_raise book.plan who session ask book.grants (grant_of who session book.grants) →
        IfNone why (IsAmountWithin (plus (of_one ask) (used All (grants_without who session book.grants))) book.plan.totals)
    raises-room who session ask why is = grind (arith, room-raise)

    pub few-seats : book.plan.totals.sessions ≤ 64
    few-seats = subst (λ (b : BookOf). b.plan.totals.sessions ≤ 64) view (few-sessions plan kept.fit)

-- a push that succeeded
pub pushed-is : {E : Type 0} (r : Result (Unit {0}) E) (u : Unit {0}) (l more es : List Grant) → r ≡ Ok u → l ≡ (if is_ok r then more else es) → l ≡ more
pushed-is r u l more es is pushed = pushed ∙ ap (λ x. if is_ok x then more else es) is

-- why a session isn't raised, by the tests in their order

abbrev raise_by : PlanOf → Who → ℕ → ReserveOf → List Grant → Bool → Option BookRefusal
raise_by plan who session ask gs lower = cond lower (Some Lower) (why_over plan who ask (grants_without who session gs))

-- why a raise is refused, by the grant that was found, or its place
module _ (plan : PlanOf) (who : Who) (session : ℕ) (ask : ReserveOf) (gs : List Grant) where
  pub raise-is : (held : Grant) (lower : Bool) → grant_of who session gs ≡ Some held → is_no_raise held.ask ask ≡ lower → raise_by plan who session ask gs lower ≡ why_no_raise plan who session ask gs (grant_of who session gs)
  raise-is held lower is low = sym (ap (why_no_raise plan who session ask gs) is ∙ ap (raise_by plan who session ask gs) low)

  pub gone-why : (i : ℕ) → i ≡ grant_place who session gs → length gs ≤ i → Some Gone ≡ why_no_raise plan who session ask gs (grant_of who session gs)
  gone-why i place past = grind (arith, place-none)
