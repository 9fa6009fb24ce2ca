-- At a site's desk: after each call the book's grants are still those of the hall's tenants, one to one.
use Rattle.site_desk.proofs.Common.{◌≡◌, ◌≢◌, ℕ, ◌+◌, ◌<◌, ◌≤◌, length, OnErr, inl, inr, true, false, List, [], ◌∷◌, ◌++◌, Option, Some, None, Result, Ok, Err, refl, ap, sym, ◌∙◌, subst, arith, cases_Bool, is_some, AreRising, ReserveOf, Refusal, StepOf, Admit, AdmitMore, Leave, DidOf, Tenant, admitted_with, is_lower, tenant_of, tenant_in, with_outcome, reservations_in, is_full, is_beyond, AreNumbersGiven, tenant_in-new, IsTaken, Leaf, LeafAnswer, jamboree, HallOf, IsDecided, IsDone, Amount, Grant, All, Lower, Who, of_one, plus, IsAmountWithin, used, grant_of, grants_without, BookOf, Opens, Raises, Closes, taken, why_no_raise, why_over, BookedOf, IsBooked, IsRaise, IsRaiseTold, IsTurnedAway, TookInHall, is_within_seat, turned_by, BookedSeat, seats_in_book, seats_in_hall, number_of}
use Rattle.site_book.specs.declared.refusal.BookRefusal.{BookRefusal}
use Rattle.sched_rules.specs.declared.refusal.Refusal.TheVariants.{NoJob, OutOfMemory as HallOutOfMemory}
use Rattle.hall.specs.declared.desk_rules.asked.SeatAsked.{SeatAsked}
use Rattle.desk.specs.Noted.{NotedOf}
use Rattle.desk.specs.Seats.{SeatOf, seeing, IsAsked}
use Rattle.desk.specs.Histories.{IsToldOf}
use Rattle.site_desk.proofs.SeatLemmas.{set_seat, drop_seats, seat_at, amount_of, hall-same, hall-new, hall-set, hall-drop, IsThere, hall-at, book-push, book-set, book-drop, book-at, taken-upto, rising-push, rising-set, rising-drop, book-amount, used-found, not-full, not-beyond}
use Rattle.site_desk.proofs.HallSteps.{went, admit-outcome, more-outcome, leave-outcome, stayed, moved, admit-refused, raise-refused}

abbrev Step : Type 0
Step = StepOf LeafAnswer

-- a taken step with what it left
record HasGone (before after : HallOf) (step : Step) : Type 0 where
  did : DidOf Leaf
  how : IsTaken (jamboree before.grain) before.shared step did
  tenants : after.shared.tenants ≡ with_outcome (tenant_of step) how.outcome.0 before.shared.tenants
  totals : after.shared.totals ≡ before.shared.totals
  given : AreNumbersGiven after.shared

gone : (before after : HallOf) (step : Step) → AreNumbersGiven before.shared → TookInHall before step after → HasGone before after step
gone before after step known took =
    let p = went (jamboree before.grain) before.shared after.shared step took.0 known took.1.one in
    let m = moved (jamboree before.grain) before.shared after.shared step p.0.outcome.0 p.1 in
    record { did = took.0; how = p.0; tenants = m.0; totals = m.1; given = subst AreNumbersGiven (sym p.1) p.0.known }

-- a hall and a book with these seats
booked-as : (hall hall' : HallOf) (book book' : BookOf) (seats : List BookedSeat) → IsBooked hall book → hall'.shared.totals ≡ hall.shared.totals → AreNumbersGiven hall'.shared → book'.plan.totals ≡ book.plan.totals → seats_in_hall hall'.shared.tenants ≡ seats → seats_in_book book'.grants ≡ seats → AreRising number_of seats → IsBooked hall' book'
booked-as hall hall' book book' seats is totals given plan by_hall by_book rising =
    let segments = ap (λ (q : ReserveOf). q.segments) totals in
    let nodes = ap (λ (q : ReserveOf). q.nodes) totals in
    let plan_segments = ap (λ (a : Amount). a.segments) plan in
    record {
      seated = by_book ∙ sym by_hall;
      rising = subst (AreRising number_of) (sym by_hall) rising;
      given = given;
      segments = omega (arith, is.segments, segments, plan_segments);
      nodes = omega (arith, is.nodes, nodes, ap (λ (a : Amount). a.nodes) plan);
    }

-- a tenant more

pub booked-admit : (hall hall' : HallOf) (book book' : BookOf) (who : Who) (n : ℕ) (q : ReserveOf) → IsBooked hall book → n ≡ hall.shared.newest + 1 → TookInHall hall (Admit n q) hall' → book' ≡ taken book (Opens who n q) → IsBooked hall' book'
booked-admit hall hall' book book' who n q is next took entered =
    let g = gone hall hall' (Admit n q) is.given took in
    let less : hall.shared.newest < n = omega (arith, next) in
    let none = tenant_in-new hall.shared.newest n hall.shared.tenants less is.given in
    let left = admit-outcome (jamboree hall.grain) (tenant_in hall.shared.tenants n) n q g.how.outcome none g.how.own in
    let seats = seats_in_hall hall.shared.tenants in
    let by_hall : seats_in_hall hall'.shared.tenants ≡ seats ++ (n, q) ∷ [] = ap seats_in_hall (g.tenants ∙ ap (λ o. with_outcome n o hall.shared.tenants) left) ∙ hall-new n (admitted_with q) hall.shared.tenants none in
    let by_book : seats_in_book book'.grants ≡ seats ++ (n, q) ∷ [] = ap (λ (b : BookOf). seats_in_book b.grants) entered ∙ (book-push book.grants (record { who = who; session = n; ask = q }) ∙ ap (λ (ss : List BookedSeat). ss ++ (n, q) ∷ []) is.seated) in
    booked-as hall hall' book book' (seats ++ (n, q) ∷ []) is g.totals g.given (ap (λ (b : BookOf). b.plan.totals) entered) by_hall by_book (rising-push hall.shared.newest n q seats less (taken-upto hall.shared.newest hall.shared.tenants is.given) is.rising)

-- the tenant of a grant

rising-book : (hall : HallOf) (book : BookOf) → IsBooked hall book → AreRising number_of (seats_in_book book.grants)
rising-book hall book is = subst (AreRising number_of) (sym is.seated) is.rising

pub tenant-of : (hall : HallOf) (book : BookOf) (who : Who) (n : ℕ) (held : Grant) → IsBooked hall book → grant_of who n book.grants ≡ Some held → IsThere hall.shared.tenants n held.ask
tenant-of hall book who n held is found =
    hall-at n held.ask hall.shared.tenants (ap (seat_at n) (sym is.seated) ∙ book-at who n book.grants held found (rising-book hall book is))

-- a new number has no grant
pub not-granted : (hall : HallOf) (book : BookOf) (who : Who) (n : ℕ) → IsBooked hall book → n ≡ hall.shared.newest + 1 → grant_of who n book.grants ≡ None
not-granted hall book who n is next = by (grant_of who n book.grants) refl
  where
    by : (o : Option Grant) → grant_of who n book.grants ≡ o → o ≡ None
    by None found = refl
    by (Some held) found =
        let less : hall.shared.newest < n = omega (arith, next) in
        let none = tenant_in-new hall.shared.newest n hall.shared.tenants less is.given in
        let there = (tenant-of hall book who n held is found).at in absurd (cc (sym there ∙ none))

-- a tenant raised

pub booked-raise : (hall hall' : HallOf) (book book' : BookOf) (who : Who) (n : ℕ) (q : ReserveOf) (held : Grant) → IsBooked hall book → grant_of who n book.grants ≡ Some held → TookInHall hall (AdmitMore n q) hall' → book' ≡ taken book (Raises who n q) → IsBooked hall' book'
booked-raise hall hall' book book' who n q held is found took entered =
    let g = gone hall hall' (AdmitMore n q) is.given took in
    let there = tenant-of hall book who n held is found in
    let own = ap (λ (o : Option Tenant). o) there.at in
    let left = more-outcome (jamboree hall.grain) there.tenant n q g.how.outcome (rw there.at at g.how.own) in
    let seats = seats_in_hall hall.shared.tenants in
    let by_hall : seats_in_hall hall'.shared.tenants ≡ set_seat n q seats = ap seats_in_hall (g.tenants ∙ ap (λ o. with_outcome n o hall.shared.tenants) left) ∙ hall-set n there.tenant (record there.tenant { reserve = q }) hall.shared.tenants there.at in
    let by_book : seats_in_book book'.grants ≡ set_seat n q seats = ap (λ (b : BookOf). seats_in_book b.grants) entered ∙ (book-set who n q book.grants held found (rising-book hall book is) ∙ ap (set_seat n q) is.seated) in
    booked-as hall hall' book book' (set_seat n q seats) is g.totals g.given (ap (λ (b : BookOf). b.plan.totals) entered) by_hall by_book (rising-set n q seats is.rising)

-- a tenant fewer

pub booked-leave : (hall hall' : HallOf) (book book' : BookOf) (who : Who) (n : ℕ) (held : Grant) → IsBooked hall book → grant_of who n book.grants ≡ Some held → TookInHall hall (Leave n) hall' → book' ≡ taken book (Closes who n) → IsBooked hall' book'
booked-leave hall hall' book book' who n held is found took entered =
    let g = gone hall hall' (Leave n) is.given took in
    let left = leave-outcome (jamboree hall.grain) (tenant_in hall.shared.tenants n) n g.how.outcome g.how.own in
    let seats = seats_in_hall hall.shared.tenants in
    let by_hall : seats_in_hall hall'.shared.tenants ≡ drop_seats n seats = ap seats_in_hall (g.tenants ∙ ap (λ o. with_outcome n o hall.shared.tenants) left) ∙ hall-drop n hall.shared.tenants in
    let by_book : seats_in_book book'.grants ≡ drop_seats n seats = ap (λ (b : BookOf). seats_in_book b.grants) entered ∙ (book-drop who n book.grants held found (rising-book hall book is) ∙ ap (drop_seats n) is.seated) in
    booked-as hall hall' book book' (drop_seats n seats) is g.totals g.given (ap (λ (b : BookOf). b.plan.totals) entered) by_hall by_book (rising-drop n seats is.rising)

-- a step within its seat

booked-went : (hall hall' : HallOf) (book : BookOf) (step : Step) → IsBooked hall book → is_within_seat step ≡ true → TookInHall hall step hall' → IsBooked hall' book
booked-went hall hall' book step is within took =
    let g = gone hall hall' step is.given took in
    let s = stayed (jamboree hall.grain) (tenant_in hall.shared.tenants (tenant_of step)) step g.how.outcome within g.how.own in
    let seats = seats_in_hall hall.shared.tenants in
    let by_hall : seats_in_hall hall'.shared.tenants ≡ seats = ap seats_in_hall (g.tenants ∙ ap (λ o. with_outcome (tenant_of step) o hall.shared.tenants) s.now) ∙ hall-same (tenant_of step) s.before s.tenant hall.shared.tenants s.was s.reserve in
    booked-as hall hall' book book seats is g.totals g.given refl by_hall is.seated is.rising

pub booked-step : (hall hall' : HallOf) (book : BookOf) (step : Step) (answer : Result (DidOf Leaf) Refusal) → IsBooked hall book → is_within_seat step ≡ true → IsDecided hall step answer hall' → IsBooked hall' book
booked-step hall hall' book step (Ok did) is within decided = booked-went hall hall' book step is within (did, decided)
booked-step hall hall' book step (Err refusal) is within decided = subst (λ h. IsBooked h book) (sym decided.refused) is

-- the same of an ask, and of a cancel

pub booked-ask : (asked : SeatAsked) (before after : SeatOf) (noted noted' : NotedOf) (book : BookOf) (step : Step) (answer : Result ℕ Refusal) → IsBooked noted.hall book → is_within_seat step ≡ true → IsAsked asked before answer after
    → (length before.asked ≢ 256 → IsDone noted.hall step answer noted'.hall) → OnErr answer (noted' ≡ noted) → IsBooked noted'.hall book
booked-ask asked before after noted noted' book step (Ok job) is within took done same = booked-went noted.hall noted'.hall book step is within (done took.2)
booked-ask asked before after noted noted' book step (Err refusal) is within took done same = subst (λ (n : NotedOf). IsBooked n.hall book) (sym same) is

pub booked-cancel : (asked : Option SeatAsked) (noted noted' : NotedOf) (book : BookOf) (step : Step) (answer : Result (Unit {0}) Refusal) → IsBooked noted.hall book → is_within_seat step ≡ true → (asked ≡ None → answer ≡ Err NoJob)
    → (asked ≢ None → IsDone noted.hall step answer noted'.hall) → OnErr answer (noted' ≡ noted) → IsBooked noted'.hall book
booked-cancel asked noted noted' book step (Ok done) is within none step_done same = booked-went noted.hall noted'.hall book step is within (step_done (λ e. absurd (cc (none e))))
booked-cancel asked noted noted' book step (Err refusal) is within none step_done same = subst (λ (n : NotedOf). IsBooked n.hall book) (sym same) is

-- room

all-seats : (hall : HallOf) (book : BookOf) → IsBooked hall book → used All book.grants ≡ amount_of (seats_in_hall hall.shared.tenants)
all-seats hall book is = book-amount book.grants ∙ ap amount_of is.seated

pub has-room : (hall : HallOf) (book : BookOf) (q : ReserveOf) → IsBooked hall book → book.plan.totals.sessions ≤ 64 → IsAmountWithin (plus (of_one q) (used All book.grants)) book.plan.totals → is_full (reservations_in hall.shared) q ≡ false
has-room hall book q is few room = not-full hall.shared q (used All book.grants) book.plan.totals (all-seats hall book is) room few is.segments is.nodes

-- what a raise that the book doesn't refuse has
pub record MayRaise (hall : HallOf) (book : BookOf) (who : Who) (n : ℕ) (q : ReserveOf) : Type 0 where
  pub held : Grant
  pub found : grant_of who n book.grants ≡ Some held
  pub tenant : Tenant
  pub at : tenant_in hall.shared.tenants n ≡ Some tenant
  pub more : is_lower tenant.reserve q ≡ false
  pub room : is_beyond (reservations_in hall.shared) tenant.reserve q ≡ false

raise-by : (hall : HallOf) (book : BookOf) (who : Who) (n : ℕ) (q : ReserveOf) (found : Option Grant) → IsBooked hall book → grant_of who n book.grants ≡ found → why_no_raise book.plan who n q book.grants found ≡ None → IsAmountWithin (plus (of_one q) (used All (grants_without who n book.grants))) book.plan.totals → MayRaise hall book who n q
raise-by hall book who n q None is at none room = absurd cc
raise-by hall book who n q (Some held) is at none room =
    let there = tenant-of hall book who n held is at in
    record {
      held = held;
      found = at;
      tenant = there.tenant;
      at = there.at;
      more = ap (λ (r : ReserveOf). is_lower r q) there.reserve ∙ not-lower held none;
      room = ap (λ (r : ReserveOf). is_beyond (reservations_in hall.shared) r q) there.reserve ∙ not-beyond hall.shared held.ask q (used All book.grants) (used All (grants_without who n book.grants)) book.plan.totals (all-seats hall book is) (used-found who n book.grants held at) room is.segments is.nodes;
    }
  where
    not-lower : (held : Grant) → why_no_raise book.plan who n q book.grants (Some held) ≡ None → is_lower held.ask q ≡ false
    not-lower held none = elim (cases_Bool (is_lower held.ask q)) [
      | inl aye ↦ (let some : ◌≡◌ {A = Option BookRefusal} (Some Lower) None = rw aye at none in absurd cc)
      | inr nay ↦ nay
    ]

pub may-raise : (hall : HallOf) (book : BookOf) (who : Who) (n : ℕ) (q : ReserveOf) → IsBooked hall book → why_no_raise book.plan who n q book.grants (grant_of who n book.grants) ≡ None → IsAmountWithin (plus (of_one q) (used All (grants_without who n book.grants))) book.plan.totals → MayRaise hall book who n q
may-raise hall book who n q is none room = raise-by hall book who n q (grant_of who n book.grants) is refl none room

-- a grant that is there
pub found-of : (o : Option Grant) → is_some o ≡ true → (held : Grant) × (o ≡ Some held)
found-of None none = absurd cc
found-of (Some held) some = (held, refl)

-- who isn't admitted, or raised, though the book allows it

not-changed : (hall hall' : HallOf) (book : BookOf) (step : Step) (refusal : Refusal) → IsDecided hall step (Err refusal) hall' → ◌≡◌ {A = BookedOf} (record { hall = hall'; book = book }) (record { hall = hall; book = book })
not-changed hall hall' book step refusal decided = ap (λ (h : HallOf). record { hall = h; book = book }) decided.refused

pub not-admitted : (hall hall' : HallOf) (book : BookOf) (who : Who) (q : ReserveOf) (refusal : Refusal) → why_over book.plan who q book.grants ≡ None → is_full (reservations_in hall.shared) q ≡ false → IsDecided hall (Admit (hall.shared.newest + 1) q) (Err refusal) hall'
    → IsTurnedAway (record { hall = hall; book = book }) who q (turned_by refusal) (record { hall = hall'; book = book })
not-admitted hall hall' book who q refusal none room decided =
    let same = not-changed hall hall' book (Admit (hall.shared.newest + 1) q) refusal decided in
    elim (admit-refused (jamboree hall.grain) hall.shared hall'.shared (hall.shared.newest + 1) q refusal refl room decided.one) [
      | inl old ↦ rw old.0 (old.1, same)
      | inr memory ↦ rw memory (none, same, rw memory at decided)
    ]

out-of-memory : (hall hall' : HallOf) (book : BookOf) (who : Who) (n : ℕ) (q : ReserveOf) (refusal : Refusal) → MayRaise hall book who n q → IsDecided hall (AdmitMore n q) (Err refusal) hall' → refusal ≡ HallOutOfMemory
out-of-memory hall hall' book who n q refusal may decided = raise-refused (jamboree hall.grain) hall.shared hall'.shared n q may.tenant refusal may.at may.more may.room decided.one

pub not-raised : (hall hall' : HallOf) (book : BookOf) (who : Who) (n : ℕ) (q : ReserveOf) (refusal : Refusal) → why_no_raise book.plan who n q book.grants (grant_of who n book.grants) ≡ None → MayRaise hall book who n q → IsDecided hall (AdmitMore n q) (Err refusal) hall'
    → IsRaise (record { hall = hall; book = book }) who n q (Err (turned_by refusal)) (record { hall = hall'; book = book })
not-raised hall hall' book who n q refusal none may decided =
    let same = not-changed hall hall' book (AdmitMore n q) refusal decided in
    let memory = out-of-memory hall hall' book who n q refusal may decided in
    rw memory (none, same, rw memory at decided)

pub not-raised-told : (hall hall' : HallOf) (book : BookOf) (begun : HallOf) (who : Who) (before after : SeatOf) (q : ReserveOf) (refusal : Refusal) → MayRaise hall book who before.tenant q → IsDecided hall (AdmitMore before.tenant q) (Err refusal) hall'
    → after ≡ seeing after.known before → IsToldOf {X = Unit {0}} begun before.known (AdmitMore before.tenant q) (Err refusal) after.known → IsRaiseTold begun before q (Err (turned_by refusal)) after
not-raised-told hall hall' book begun who before after q refusal may decided seen told =
    let memory = out-of-memory hall hall' book who before.tenant q refusal may decided in
    rw memory (seen, rw memory at told)
