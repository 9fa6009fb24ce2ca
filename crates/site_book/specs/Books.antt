-- Meaning: what the book of a site's customers holds, why it refuses what it is asked for, and what comes of it.
use Rattle.std.specs.Prelude.{ℕ, Bool, true, not, ◌&&◌, is_none, List, [], ◌∷◌, ◌++◌, Option, Some, None, if◌then◌else◌}
use Rattle.tenant_quota.specs.Reserves.{ReserveOf}
use Rattle.site_book.specs.declared.amount.Amount.{Amount}
use Rattle.site_book.specs.declared.event.BookEvent.{BookEvent}
use Rattle.site_book.specs.declared.event.BookEvent.TheVariants.{Opens, Raises, Closes, Replans}
use Rattle.site_book.specs.declared.held.Grant.{Grant}
use Rattle.site_book.specs.declared.held.Group.{Group}
use Rattle.site_book.specs.declared.held.Group.TheVariants.{Own, Network, Guests}
use Rattle.site_book.specs.declared.held.Overrun.{Overrun}
use Rattle.site_book.specs.declared.refusal.BookRefusal.{BookRefusal}
use Rattle.site_book.specs.declared.refusal.BookRefusal.TheVariants.{OverBudget, OverNetwork, OverGuests, Gone, Lower, Unfit, Beyond}
use Rattle.site_book.specs.declared.who.Who.{Who}
use Rattle.site_book.specs.Names.{network_of}
use Rattle.site_book.specs.Amounts.{of_one, plus, is_amount_within, is_same}
use Rattle.site_book.specs.Plans.{PlanOf, limit_of, sums_fit}
use Rattle.site_book.specs.Grants.{is_in, used, grant_of, grants_without, grants_raised, is_no_raise}

-- the plan, and the grants that are out in the order in which they were opened
pub record BookOf : Type 0 where
  pub plan : PlanOf
  pub grants : List Grant

-- the book of a hall with this plan, in which nothing has happened
abbrev pub new_book : PlanOf → BookOf
new_book plan = record { plan = plan; grants = [] }

-- the refusal of the first of these tests that applies; None where none applies
abbrev pub first_refusal : List (Bool × BookRefusal) → Option BookRefusal
first_refusal [] = None
first_refusal (test ∷ tests) = if test.0 then Some test.1 else first_refusal tests

-- whether a part of the customers (one customer, a network's guests, all guests, or all) would have more than it may
-- have, if this customer had so much more; no where the customer isn't one of the part
abbrev pub is_beyond_part : PlanOf → Group → Who → ReserveOf → Amount → Bool
is_beyond_part plan part who ask has = is_in part who && not (is_amount_within (plus (of_one ask) has) (limit_of plan part))

-- why so much more is beyond the customer's own budget, its wider network's or all guests', which have these amounts
-- already; the first in this order, None where it is within all three
abbrev pub why_beyond : PlanOf → Who → ReserveOf → Amount → Amount → Amount → Option BookRefusal
why_beyond plan who ask own network guests =
    first_refusal ((is_beyond_part plan (Own who) who ask own, OverBudget) ∷ (is_beyond_part plan (Network (network_of who)) who ask network, OverNetwork) ∷ (is_beyond_part plan Guests who ask guests, OverGuests) ∷ [])

-- why a customer isn't granted so much more beside these grants; None where it is granted
abbrev pub why_over : PlanOf → Who → ReserveOf → List Grant → Option BookRefusal
why_over plan who ask grants = why_beyond plan who ask (used (Own who) grants) (used (Network (network_of who)) grants) (used Guests grants)

-- why a session isn't raised: it isn't there, it isn't raised by this, or with what it has then a budget is passed
abbrev pub why_no_raise : PlanOf → Who → ℕ → ReserveOf → List Grant → Option Grant → Option BookRefusal
why_no_raise plan who session ask grants None = Some Gone
why_no_raise plan who session ask grants (Some held) = if is_no_raise held.ask ask then Some Lower else why_over plan who ask (grants_without who session grants)

-- whether a part of the customers, of which this customer is one, has more than it may have
abbrev pub is_over : PlanOf → Group → Who → List Grant → Bool
is_over plan part who grants = is_in part who && not (is_amount_within (used part grants) (limit_of plan part))

-- the first part of the customers, of those that this customer belongs to, that has more than it may have
abbrev pub part_over : PlanOf → List Grant → Who → Option Group
part_over plan grants who =
    if is_over plan (Own who) who grants then Some (Own who) else if is_over plan (Network (network_of who)) who grants then Some (Network (network_of who)) else if is_over plan Guests who grants then Some Guests else None

-- what is told of a grant whose part has more than it may have: whose it is, which part, and both amounts
abbrev pub overrun_as : PlanOf → List Grant → Grant → Option Group → Option Overrun
overrun_as plan grants held None = None
overrun_as plan grants held (Some part) =
    Some (record { who = held.who; session = held.session; part = part; has = used part grants; may = limit_of plan part })

-- by how much a grant's part has more than a plan allows; None where no part of it does
abbrev pub overrun_of : PlanOf → List Grant → Grant → Option Overrun
overrun_of plan grants held = overrun_as plan grants held (part_over plan grants held.who)

-- whether no part of any of these grants has more than the plan allows, of all grants
abbrev pub are_within : PlanOf → List Grant → List Grant → Bool
are_within plan all [] = true
are_within plan all (held ∷ grants) = is_none (part_over plan all held.who) && are_within plan all grants

-- why another plan doesn't come in: it is of another hall, or its sums don't fit; or what is out is beyond it
abbrev pub why_not_replan : BookOf → PlanOf → Option BookRefusal
why_not_replan book plan =
    first_refusal ((not (is_same plan.totals book.plan.totals && sums_fit plan), Unfit) ∷ (not (are_within plan book.grants book.grants), Beyond) ∷ [])

-- the answer to an event: why it is refused, or None where it isn't
abbrev pub answer_of_book : BookOf → BookEvent → Option BookRefusal
answer_of_book book (Opens who session ask) = why_over book.plan who ask book.grants
answer_of_book book (Raises who session ask) = why_no_raise book.plan who session ask book.grants (grant_of who session book.grants)
answer_of_book book (Closes who session) = None
answer_of_book book (Replans plan) = why_not_replan book plan

-- the book after an event that wasn't refused
abbrev pub taken : BookOf → BookEvent → BookOf
taken book (Opens who session ask) = record book { grants = book.grants ++ record { who = who; session = session; ask = ask } ∷ [] }
taken book (Raises who session ask) = record book { grants = grants_raised who session ask book.grants }
taken book (Closes who session) = record book { grants = grants_without who session book.grants }
taken book (Replans plan) = record book { plan = plan }

-- the book after an event of which this was the answer: a refusal changes nothing
abbrev pub book_after_answer : BookOf → BookEvent → Option BookRefusal → BookOf
book_after_answer book event None = taken book event
book_after_answer book event (Some refusal) = book

-- the book after an event: as it was where the event is refused
abbrev pub book_after : BookOf → BookEvent → BookOf
book_after book event = book_after_answer book event (answer_of_book book event)
