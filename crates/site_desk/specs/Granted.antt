-- Meaning: the history of a book, which are the events that it granted since it was made, each with the number of its maker.
use Rattle.std.specs.Prelude.{◌≡◌, ℕ, ◌==◌, ◌&&◌, Bool, true, false, List, [], ◌∷◌, ◌++◌, Some, None, is_some}
use Rattle.tenant_quota.specs.Reserves.{ReserveOf}
use Rattle.desk.specs.Histories.{Saw}
use Rattle.desk.specs.Traces.{own, Known}
use Rattle.site_book.specs.declared.event.BookEvent.{BookEvent}
use Rattle.site_book.specs.declared.event.BookEvent.TheVariants.{Opens, Raises, Replans}
use Rattle.site_book.specs.declared.amount.Amount.{Amount}
use Rattle.site_book.specs.declared.held.Group.{Group}
use Rattle.site_book.specs.declared.refusal.BookRefusal.{BookRefusal}
use Rattle.site_book.specs.declared.who.Who.{Who}
use Rattle.site_book.specs.Names.{same_who}
use Rattle.site_book.specs.Grants.{grant_of, used}
use Rattle.site_book.specs.Books.{BookOf, new_book, answer_of_book, book_after, why_not_replan}
use Rattle.site_book.specs.Events.{book_after_events}
use Rattle.site_book.specs.Plans.{PlanOf, limit_of, sums_fit}

-- the events of a book's history, in order, without who made them
abbrev pub events_of : List (ℕ × BookEvent) → List BookEvent
events_of [] = []
events_of (entry ∷ entries) = entry.1 ∷ events_of entries

-- the book at the end of a history, which began with this plan and nobody
abbrev pub book_at : PlanOf → List (ℕ × BookEvent) → BookOf
book_at plan history = book_after_events (new_book plan) (events_of history)

-- each of these events is granted by the book to which the ones before it lead
abbrev pub AreGranted : BookOf → List BookEvent → Type 0
AreGranted book [] = Unit {0}
AreGranted book (event ∷ events) = (answer_of_book book event ≡ None) × AreGranted (book_after book event) events

-- the events of a history that began with this plan, whose sums fit, were all granted
abbrev pub IsGrantedFrom : PlanOf → List (ℕ × BookEvent) → Type 0
IsGrantedFrom plan history = (sums_fit plan ≡ true) × AreGranted (new_book plan) (events_of history)

-- the book has come from a new one with this plan by the events of a history
abbrev pub IsBookBy : PlanOf → List (ℕ × BookEvent) → BookOf → Type 0
IsBookBy plan history book = (book ≡ book_at plan history) × IsGrantedFrom plan history

-- a new maker has seen the events up to one, which is all that it made; all of them were granted
pub record IsFirstOf (plan : PlanOf) (event : BookEvent) (known : Known BookEvent) : Type 0 where
  pub before : List (ℕ × BookEvent)
  pub seen : known.seen ≡ before ++ (known.maker, event) ∷ []
  pub unmade : own known.maker before ≡ []
  pub mine : known.mine ≡ event ∷ []
  pub granted : IsGrantedFrom plan known.seen

-- a new session's maker has seen the events up to its own opening
abbrev pub IsOpened : PlanOf → Who → ℕ → ReserveOf → Known BookEvent → Type 0
IsOpened plan who number ask known = IsFirstOf plan (Opens who number ask) known

-- another plan came in, by which a book goes on whose plan was this one until then: its maker has seen the events up to that
abbrev pub IsReplannedBy : PlanOf → PlanOf → PlanOf → Known BookEvent → Type 0
IsReplannedBy plan next was known = (by : IsFirstOf plan (Replans next) known) × (was ≡ (book_at plan by.before).plan)

-- another plan didn't come in, for this reason, at the end of a history, all of which was granted
abbrev pub IsNotReplanned : PlanOf → PlanOf → BookRefusal → Type 0
IsNotReplanned plan next refusal = (history : List (ℕ × BookEvent)) × IsGrantedFrom plan history × (why_not_replan (book_at plan history) next ≡ Some refusal)

-- a maker has seen the book's history go on, without an event of its own; all of it was granted
abbrev pub IsBookLook : PlanOf → Known BookEvent → Known BookEvent → Type 0
IsBookLook plan before now = Saw before now × IsGrantedFrom plan now.seen

-- what some of the sessions may have together, and what they have, at the end of a history, all of which was granted
abbrev pub IsPartOnce : PlanOf → Group → Amount × Amount → Type 0
IsPartOnce plan part amounts =
    (history : List (ℕ × BookEvent)) × IsGrantedFrom plan history × (amounts.0 ≡ limit_of (book_at plan history).plan part)
    × (amounts.1 ≡ used part (book_at plan history).grants)

-- whether an event opens this session
abbrev pub is_opening : Who → ℕ → BookEvent → Bool
is_opening who number (Opens own session ask) = same_who who own && (number == session)
is_opening who number _ = false

-- whether it raises this session
abbrev pub is_raising : Who → ℕ → BookEvent → Bool
is_raising who number (Raises own session ask) = same_who who own && (number == session)
is_raising who number _ = false

-- whether all of these raise it
abbrev pub are_raisings : Who → ℕ → List BookEvent → Bool
are_raisings who number [] = true
are_raisings who number (event ∷ events) = is_raising who number event && are_raisings who number events

-- whether these are a session's own events while it is open: its opening, and then raises
abbrev pub is_open_by : Who → ℕ → List BookEvent → Bool
is_open_by who number [] = false
is_open_by who number (event ∷ events) = is_opening who number event && are_raisings who number events

-- each session whose maker opened it, and did nothing but raise it, has its grant in the book; and it has one maker
pub record AreHeld (history : List (ℕ × BookEvent)) (book : BookOf) : Type 0 where
  pub there : (maker : ℕ) (who : Who) (number : ℕ) → is_open_by who number (own maker history) ≡ true → is_some (grant_of who number book.grants) ≡ true
  pub one : (maker other : ℕ) (who : Who) (number : ℕ) → is_open_by who number (own maker history) ≡ true → is_open_by who number (own other history) ≡ true → maker ≡ other
