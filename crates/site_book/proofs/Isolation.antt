-- In the book of a site's customers: what others do changes nothing for customers who share no budget with them.
use Rattle.site_book.proofs.Common.{◌≡◌, ℕ, Bool, true, false, not, ◌&&◌, cond, List, [], ◌∷◌, Option, Some, None, refl, ap, sym, ◌∙◌, inl, inr, arith, cases_Bool, and_parts, and_from, is_none, ReserveOf, Amount, Grant, Group, Own, Network, Guests, BookRefusal, OverBudget, OverNetwork, OverGuests, Lower, Who, Named, same_who, is_guest, network_of, of_one, plus, is_amount_within, PlanOf, limit_of, is_in, used, grants_without, is_no_raise, BookOf, BookEvent, Opens, Raises, Closes, Replans, first_refusal, why_over, why_no_raise, part_over, are_within, why_not_replan, answer_of_book, taken, book_after_answer, book_after, book_after_events, is_of, is_event_kept, only_events, answers_of, grants_of}
use Rattle.site_book.proofs.NameLemmas.{same-is}
use Rattle.site_book.proofs.BudgetLemmas.{IsPart}
use Rattle.site_book.proofs.Keepings.{comes-in}
use Rattle.site_book.proofs.Views.{used-theirs, grant-theirs, without-theirs, without-others, with-ask-theirs, with-ask-others, push-theirs, push-others}

-- who shares a budget with one of them is one of them
abbrev pub IsWhole : (Who → Bool) → Type 0
IsWhole is_one = (part : Group) → IsPart part → (v w : Who) → is_one v ≡ true → is_in part v ≡ true → is_in part w ≡ true → is_one w ≡ true

-- the book as they see it
abbrev pub their_book : (Who → Bool) → BookOf → BookOf
their_book is_one book = record { plan = book.plan; grants = grants_of is_one book.grants }

module _ (is_one : Who → Bool) where
  -- an event that stays

  taken-theirs : (book : BookOf) (event : BookEvent) → is_event_kept is_one event None ≡ true → taken (their_book is_one book) event ≡ their_book is_one (taken book event)
  taken-theirs book event own = grind (arith, push-theirs, with-ask-theirs, without-theirs)

  kept-answer : (book : BookOf) (event : BookEvent) (answer : Option BookRefusal) → answer_of_book book event ≡ answer → is_event_kept is_one event answer ≡ true →
      answer_of_book (their_book is_one book) event ≡ answer → book_after (their_book is_one book) event ≡ their_book is_one (book_after_answer book event answer)
  kept-answer book event answer is kept same = grind (arith, taken-theirs)

  -- one that doesn't
  other-answer : (book : BookOf) (event : BookEvent) (answer : Option BookRefusal) → is_event_kept is_one event answer ≡ false → their_book is_one (book_after_answer book event answer) ≡ their_book is_one book
  other-answer book event answer other = grind (arith, push-others, with-ask-others, without-others)

  -- where they are whole, what the book says of their events is the same without others' grants
  module _ (whole : IsWhole is_one) where
    part-theirs : (part : Group) (who : Who) (gs : List Grant) (test : Amount → Bool) → IsPart part → is_one who ≡ true → (is_in part who && test (used part (grants_of is_one gs))) ≡ (is_in part who && test (used part gs))
    part-theirs part who gs test is own = elim (cases_Bool (is_in part who)) [
      | inl aye ↦ ap (λ (a : Amount). is_in part who && test a) (used-theirs is_one (is_in part) gs (λ w one. whole part is who w own aye one))
      | inr nay ↦ rw nay refl
    ]

    over-theirs : (plan : PlanOf) (who : Who) (ask : ReserveOf) (gs : List Grant) → is_one who ≡ true → why_over plan who ask (grants_of is_one gs) ≡ why_over plan who ask gs
    over-theirs plan who ask gs own =
        let same = λ (part : Group) (is : IsPart part). part-theirs part who gs (λ a. not (is_amount_within (plus (of_one ask) a) (limit_of plan part))) is own in
        λ i. first_refusal ((same (Own who) tt i, OverBudget) ∷ (same (Network (network_of who)) tt i, OverNetwork) ∷ (same Guests tt i, OverGuests) ∷ [])

    part_over-theirs : (plan : PlanOf) (who : Who) (gs : List Grant) → is_one who ≡ true → part_over plan (grants_of is_one gs) who ≡ part_over plan gs who
    part_over-theirs plan who gs own =
        let same = λ (part : Group) (is : IsPart part). part-theirs part who gs (λ a. not (is_amount_within a (limit_of plan part))) is own in
        let network = Network (network_of who) in
        λ i. cond (same (Own who) tt i) (Some (Own who)) (cond (same network tt i) (Some network) (cond (same Guests tt i) (Some Guests) None))

    -- a plan that all grants are within, theirs alone are within
    within-theirs : (plan : PlanOf) (all gs : List Grant) → are_within plan all gs ≡ true → are_within plan (grants_of is_one all) (grants_of is_one gs) ≡ true
    within-theirs plan all [] within = refl
    within-theirs plan all (g ∷ gs) within =
        let both = and_parts (is_none (part_over plan all g.who)) (are_within plan all gs) within in
        let rest = within-theirs plan all gs both.1 in
        elim (cases_Bool (is_one g.who)) [
          | inl own ↦ rw own (and_from _ _ (ap is_none (part_over-theirs plan g.who all own) ∙ both.0) rest)
          | inr other ↦ rw other rest
        ]

    raise-theirs : (plan : PlanOf) (who : Who) (session : ℕ) (ask : ReserveOf) (gs : List Grant) (found : Option Grant) → is_one who ≡ true →
        why_no_raise plan who session ask (grants_of is_one gs) found ≡ why_no_raise plan who session ask gs found
    raise-theirs plan who session ask gs None own = refl
    raise-theirs plan who session ask gs (Some held) own =
        let same = ap (why_over plan who ask) (sym (without-theirs is_one who session own gs)) ∙ over-theirs plan who ask (grants_without who session gs) own in
        ap (λ (o : Option BookRefusal). cond (is_no_raise held.ask ask) (Some Lower) o) same

    -- what they are answered is the same, and after an event that is kept the book is theirs of the one after it
    module _ (book : BookOf) where
      pub answer-theirs : (event : BookEvent) → is_of is_one event ≡ true → answer_of_book (their_book is_one book) event ≡ answer_of_book book event
      answer-theirs (Opens who session ask) own = over-theirs book.plan who ask book.grants own
      answer-theirs (Raises who session ask) own = grind (arith, grant-theirs, raise-theirs)
      answer-theirs (Closes who session) own = refl
      answer-theirs (Replans plan) own = absurd cc

      replan-theirs : (plan : PlanOf) → why_not_replan book plan ≡ None → why_not_replan (their_book is_one book) plan ≡ None
      replan-theirs plan none = grind (arith, within-theirs, comes-in)

      same-answer : (event : BookEvent) → is_event_kept is_one event (answer_of_book book event) ≡ true → answer_of_book (their_book is_one book) event ≡ answer_of_book book event
      same-answer event kept = grind (arith, answer-theirs, replan-theirs)

      after-kept : (event : BookEvent) → is_event_kept is_one event (answer_of_book book event) ≡ true → book_after (their_book is_one book) event ≡ their_book is_one (book_after book event)
      after-kept event kept = kept-answer book event (answer_of_book book event) refl kept (same-answer event kept)

    -- lists of events
    pub run-theirs : (book : BookOf) (events : List BookEvent) → book_after_events (their_book is_one book) (only_events is_one book events) ≡ their_book is_one (book_after_events book events)
    run-theirs book [] = refl
    run-theirs book (event ∷ events) = grind (arith, run-theirs (book_after book event) events, after-kept, other-answer)

-- some of those who are whole are told the same without the others' events
module _ (few many : Who → Bool) (among : (w : Who) → few w ≡ true → many w ≡ true) where
  of-many : (event : BookEvent) → is_of few event ≡ true → is_of many event ≡ true
  of-many event own = grind arith

  of-kept : (event : BookEvent) (answer : Option BookRefusal) → is_event_kept many event answer ≡ false → is_of few event ≡ false
  of-kept event answer other = grind arith

  pub told-theirs : IsWhole many → (book : BookOf) (events : List BookEvent) → answers_of few book events ≡ answers_of few (their_book many book) (only_events many book events)
  told-theirs whole book [] = refl
  told-theirs whole book (event ∷ events) =
      let later = told-theirs whole (book_after book event) events in
      let alike = λ (b d : BookOf) (e : b ≡ d). ap (λ (x : BookOf). answers_of few x (only_events many (book_after book event) events)) (sym e) in
      elim (cases_Bool (is_event_kept many event (answer_of_book book event))) [
        | inl kept ↦ (let rest = later ∙ alike _ _ (after-kept many whole book event kept) in
            rw kept (elim (cases_Bool (is_of few event)) [
              | inl own ↦ (let same = answer-theirs many whole book event (of-many event own) in rw own (λ i. sym same i ∷ rest i))
              | inr not_own ↦ rw not_own rest
            ]))
        | inr other ↦ rw (other, of-kept event (answer_of_book book event) other) (later ∙ alike _ _ (sym (other-answer many book event (answer_of_book book event) other)))
      ]

-- a named customer, and all guests

pub named-whole : (number : ℕ) → IsWhole (same_who (Named number))
named-whole number h1 is v w own one two = grind (arith, same-is, and_parts)

pub guests-whole : IsWhole is_guest
guests-whole h0 is v w own one two = grind (arith, same-is, and_parts)

pub guest-among : (guest : Who) → is_guest guest ≡ true → (w : Who) → same_who guest w ≡ true → is_guest w ≡ true
guest-among guest is w same = grind (arith, same-is)
