-- Representation: a site's small hall, and events in the book of its customers, on which the definitions are tried.
use Rattle.std.specs.Prelude.{ℕ, List, [], ◌∷◌, map, Option}
use Rattle.tenant_quota.specs.Reserves.{ReserveOf}
use Rattle.site_book.specs.declared.amount.Amount.{Amount}
use Rattle.site_book.specs.declared.refusal.BookRefusal.{BookRefusal}
use Rattle.site_book.specs.declared.who.Who.{Who}
use Rattle.site_book.specs.declared.who.Who.TheVariants.{Named}
use Rattle.site_book.specs.Plans.{PlanOf}
use Rattle.site_book.specs.Amounts.{nothing}
use Rattle.site_book.specs.Books.{new_book, overrun_of}
use Rattle.site_book.specs.declared.event.BookEvent.{BookEvent}
use Rattle.site_book.specs.declared.event.BookEvent.TheVariants.{Opens, Closes, Replans}
use Rattle.site_book.specs.declared.held.Overrun.{Overrun}
use Rattle.site_book.specs.Events.{answers, book_after_events}

-- an amount of so many sessions, segments and nodes
abbrev pub amount : ℕ → ℕ → ℕ → Amount
amount sessions segments nodes = record { sessions = sessions; segments = segments; nodes = nodes }

-- a reservation of so many segments and nodes
abbrev pub ask : ℕ → ℕ → ReserveOf
ask segments nodes = record { segments = segments; nodes = nodes }

-- a hall of 4 sessions, 40 segments and 400 nodes, with one named customer, and guests that may have a session each, of 5 segments and 50
-- nodes, and two in a wider network
abbrev pub hall_for : Amount → Amount → PlanOf
hall_for school guests = record { totals = amount 4 40 400; customers = school ∷ []; guest = amount 1 5 50; network = amount 2 8 90; guests = guests }

-- the plan of the small hall: its one named customer, the school, may have two sessions, and all guests two
abbrev pub small : PlanOf
small = hall_for (amount 2 20 200) (amount 2 9 100)

-- whose the sessions of the school are: the customer that the plan names first
abbrev pub school : Who
school = Named 0

-- the answers of the small hall's book to these events
abbrev pub answers_told : List BookEvent → List (Option BookRefusal)
answers_told events = answers (new_book small) events

-- a hall of 4 sessions, 20 segments and 200 nodes, with two named customers and no guests
abbrev pub two_for : Amount → Amount → PlanOf
two_for first second = record { totals = amount 4 20 200; customers = first ∷ second ∷ []; guest = nothing; network = nothing; guests = nothing }

-- a plan by which the first of two customers may have all of the hall, in two sessions
abbrev pub one_sided : PlanOf
one_sided = two_for (amount 2 20 200) nothing

-- a plan by which each of two customers may have half of the hall
abbrev pub even : PlanOf
even = two_for (amount 2 10 100) (amount 2 10 100)

-- events of the book: the first customer opens its two sessions, the even plan is to come in, and the second customer
-- opens its two
abbrev pub sold : List BookEvent
sold =
    Opens (Named 0) 1 (ask 10 100) ∷ Opens (Named 0) 2 (ask 10 100) ∷ Replans even
    ∷ Opens (Named 1) 3 (ask 5 50) ∷ Opens (Named 1) 4 (ask 5 50) ∷ []

-- events by which the even plan comes in once the first customer's session has ended
abbrev pub ended_in_time : List BookEvent
ended_in_time = Opens (Named 0) 1 (ask 10 100) ∷ Closes (Named 0) 1 ∷ Replans even ∷ Opens (Named 1) 2 (ask 5 50) ∷ Opens (Named 0) 3 (ask 10 100) ∷ []

-- why the book refuses each of these events, where its plan lets the first customer have all
abbrev pub told_one_sided : List BookEvent → List (Option BookRefusal)
told_one_sided events = answers (new_book one_sided) events

-- whose sessions have more than the even plan allows after these events, and by how much
abbrev pub beyond_even : List BookEvent → List (Option Overrun)
beyond_even events = let grants = (book_after_events (new_book one_sided) events).grants in map (overrun_of even grants) grants
