-- What holds of the book of a site's customers after each list of events.
use Rattle.site_book.proofs.Common.{◌≡◌, ℕ, true, List, [], ◌∷◌, ◌++◌, Option, Some, None, refl, ap, ◌∙◌, subst, arith, ReserveOf, Amount, Grant, All, BookRefusal, Who, of_one, plus, IsAmountWithin, PlanOf, used, grant_of, grants_without, grants_raised, BookOf, BookEvent, why_over, why_no_raise, answer_of_book, book_after_answer, book_after, book_after_events, answers, Name, names_without, open_after, still_open, names_granted, IsKept}
use Rattle.site_book.proofs.GrantLemmas.{used-push, used-with-ask}
use Rattle.site_book.proofs.BudgetLemmas.{grow-from}
use Rattle.site_book.proofs.Keepings.{comes-in, kept-after, kept-open, kept-grow}

pub kept-run : (book : BookOf) (events : List BookEvent) → IsKept book.plan book.grants → IsKept (book_after_events book events).plan (book_after_events book events).grants
kept-run book [] kept = kept
kept-run book (event ∷ events) kept = kept-run (book_after book event) events (kept-after book event kept)

-- the totals stay

totals-answer : (book : BookOf) (event : BookEvent) (answer : Option BookRefusal) → answer_of_book book event ≡ answer → (book_after_answer book event answer).plan.totals ≡ book.plan.totals
totals-answer book event answer is = grind (arith, comes-in)

pub totals-run : (book : BookOf) (events : List BookEvent) → (book_after_events book events).plan.totals ≡ book.plan.totals
totals-run book [] = refl
totals-run book (event ∷ events) = totals-run (book_after book event) events ∙ totals-answer book event (answer_of_book book event) refl

-- the hall has room for what the book grants
module _ (plan : PlanOf) (gs : List Grant) (who : Who) where
  pub room-open : (ask : ReserveOf) → IsKept plan gs → why_over plan who ask gs ≡ None → IsAmountWithin (plus (of_one ask) (used All gs)) plan.totals
  room-open ask kept none = rw used-push at ((kept-open plan gs who 0 ask kept none).within All)

  pub room-raise : (session : ℕ) (ask : ReserveOf) (found : Option Grant) → IsKept plan gs → grant_of who session gs ≡ found → why_no_raise plan who session ask gs found ≡ None →
      IsAmountWithin (plus (of_one ask) (used All (grants_without who session gs))) plan.totals
  room-raise session ask None kept is none = absurd cc
  room-raise session ask (Some held) kept is none =
      let grown = kept-grow plan gs who session ask held kept is (grow-from plan who session ask gs held none).left in
      subst (λ (a : Amount). IsAmountWithin a plan.totals) (used-with-ask (λ w. true) who session ask gs held is refl) (grown.within All)

-- sessions that are open

names-push : (g : Grant) (gs : List Grant) → names_granted (gs ++ g ∷ []) ≡ names_granted gs ++ (g.who, g.session) ∷ []
names-push g [] = refl
names-push g (h ∷ gs) = ap (λ (x : List Name). (h.who, h.session) ∷ x) (names-push g gs)

-- the names of the grants after one is closed, and after one is raised
module _ (who : Who) (session : ℕ) where
  names-without : (gs : List Grant) → names_granted (grants_without who session gs) ≡ names_without who session (names_granted gs)
  names-without [] = refl
  names-without (g ∷ gs) = grind (arith, names-without gs)

  pub names-with-ask : (ask : ReserveOf) (gs : List Grant) → names_granted (grants_raised who session ask gs) ≡ names_granted gs
  names-with-ask ask [] = refl
  names-with-ask ask (g ∷ gs) = grind (arith, names-with-ask ask gs)

names-answer : (book : BookOf) (event : BookEvent) (answer : Option BookRefusal) → answer_of_book book event ≡ answer → names_granted (book_after_answer book event answer).grants ≡ open_after (names_granted book.grants) event answer
names-answer book event answer is = grind (arith, names-push, names-with-ask, names-without)

pub names-run : (book : BookOf) (events : List BookEvent) → names_granted (book_after_events book events).grants ≡ still_open (names_granted book.grants) events (answers book events)
names-run book [] = refl
names-run book (event ∷ events) =
    names-run (book_after book event) events ∙ ap (λ (x : List Name). still_open x events (answers (book_after book event) events)) (names-answer book event (answer_of_book book event) refl)

pub no-names : (gs : List Grant) → names_granted gs ≡ [] → gs ≡ []
no-names [] none = refl
no-names (g ∷ gs) none = absurd cc
