-- A book's history goes on by an event that is granted.
use Rattle.site_desk.proofs.Common.{◌≡◌, ℕ, List, [], ◌∷◌, ◌++◌, None, Some, Option, refl, ap, sym, ◌∙◌, subst, BookOf, PlanOf, BookEvent, taken}
use Rattle.site_book.specs.Books.{answer_of_book, book_after, book_after_answer, new_book, why_not_replan}
use Rattle.site_book.specs.Grants.{used}
use Rattle.site_book.specs.Plans.{limit_of}
use Rattle.site_book.specs.declared.amount.Amount.{Amount}
use Rattle.site_book.specs.declared.held.Group.{Group}
use Rattle.site_book.specs.Events.{book_after_events}
use Rattle.site_book.specs.declared.refusal.BookRefusal.{BookRefusal}
use Rattle.desk.specs.Histories.{Took}
use Rattle.desk.specs.Traces.{own, Known}
use mathlib.Core.List.{IsPrefix}
use Rattle.site_desk.specs.Granted.{events_of, book_at, AreGranted, IsBookBy, IsBookLook, IsGrantedFrom, IsNotReplanned, IsPartOnce}

events-more : (history : List (ℕ × BookEvent)) (maker : ℕ) (event : BookEvent) → events_of (history ++ (maker, event) ∷ []) ≡ events_of history ++ event ∷ []
events-more [] maker event = refl
events-more (entry ∷ entries) maker event = ap (λ (es : List BookEvent). entry.1 ∷ es) (events-more entries maker event)

book-more : (book : BookOf) (events : List BookEvent) (event : BookEvent) → book_after_events book (events ++ event ∷ []) ≡ book_after (book_after_events book events) event
book-more book [] event = refl
book-more book (e ∷ events) event = book-more (book_after book e) events event

granted-more : (book : BookOf) (events : List BookEvent) (event : BookEvent) → AreGranted book events → answer_of_book (book_after_events book events) event ≡ None → AreGranted book (events ++ event ∷ [])
granted-more book [] event all none = (none, tt)
granted-more book (e ∷ events) event all none = (all.0, granted-more (book_after book e) events event all.1 none)

-- the book after a granted event
pub one-more : (plan : PlanOf) (history : List (ℕ × BookEvent)) (book after : BookOf) (maker : ℕ) (event : BookEvent) → IsBookBy plan history book → answer_of_book book event ≡ None → after ≡ taken book event → IsBookBy plan (history ++ (maker, event) ∷ []) after
one-more plan history book after maker event is none went =
    let events = events_of history in
    let new = new_book plan in
    let more = events-more history maker event in
    let answer = subst (λ b. answer_of_book b event ≡ None) is.0 none in
    let there : book_after book event ≡ taken book event = ap (λ (o : Option BookRefusal). book_after_answer book event o) none in
    let end : book_after book event ≡ book_at plan (history ++ (maker, event) ∷ []) = ap (λ (b : BookOf). book_after b event) is.0 ∙ (sym (book-more new events event) ∙ ap (λ (es : List BookEvent). book_after_events new es) (sym more)) in (
      went ∙ (sym there ∙ end),
      (is.1.0, subst (λ es. AreGranted new es) (sym more) (granted-more new events event is.1.1 answer)),
    )

-- a maker that sees all of a book's history
pub looked : (plan : PlanOf) (history : List (ℕ × BookEvent)) (before now : Known BookEvent) → IsGrantedFrom plan history → IsPrefix before.seen history → own before.maker history ≡ before.mine → now ≡ record { maker = before.maker; seen = history; mine = before.mine } → IsBookLook plan before now
looked plan history before now granted begins mine is = subst (λ (k : Known BookEvent). IsBookLook plan before k) (sym is) ((begins, mine, refl, refl), granted)

-- a maker adds an event of its own
pub added : (history after : List (ℕ × BookEvent)) (before now : Known BookEvent) (event : BookEvent) → IsPrefix before.seen history → own before.maker history ≡ before.mine → now ≡ record { maker = before.maker; seen = after; mine = before.mine ++ event ∷ [] } → after ≡ history ++ (before.maker, event) ∷ [] → Took before event now
added history after before now event begins mine is more = (
  begins.0,
  ap (λ (k : Known BookEvent). k.seen) is ∙ (more ∙ ap (λ (h : List (ℕ × BookEvent)). h ++ (before.maker, event) ∷ []) (sym begins.1)),
  ap (λ (h : List (ℕ × BookEvent)). own before.maker h) begins.1 ∙ mine,
  ap (λ (k : Known BookEvent). k.mine) is,
  ap (λ (k : Known BookEvent). k.maker) is,
)

-- what a part may have and has by a book that has come from a new one by its history
pub part_once : (plan : PlanOf) (history : List (ℕ × BookEvent)) (book : BookOf) (part : Group) (amounts : Amount × Amount) → IsBookBy plan history book → amounts.0 ≡ limit_of book.plan part → amounts.1 ≡ used part book.grants → IsPartOnce plan part amounts
part_once plan history book part amounts by may has =
    (history, by.1, may ∙ ap (λ (b : BookOf). limit_of b.plan part) by.0, has ∙ ap (λ (b : BookOf). used part b.grants) by.0)

-- another plan that such a book refuses
pub not_replanned : (plan : PlanOf) (history : List (ℕ × BookEvent)) (book : BookOf) (next : PlanOf) (refusal : BookRefusal) → IsBookBy plan history book → why_not_replan book next ≡ Some refusal → IsNotReplanned plan next refusal
not_replanned plan history book next refusal by why = (history, by.1, sym (ap (λ (b : BookOf). why_not_replan b next) by.0) ∙ why)
