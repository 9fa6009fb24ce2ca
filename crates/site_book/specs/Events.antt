-- Meaning: lists of events in the book of a site's customers (openings, raises, ends, plans), and what each customer
-- sees of them.
use Rattle.std.specs.Prelude.{ℕ, ◌==◌, ◌&&◌, Bool, false, List, [], ◌∷◌, ◌++◌, map, is_none, Option, Some, None, if◌then◌else◌}
use Rattle.site_book.specs.declared.held.Grant.{Grant}
use Rattle.site_book.specs.declared.refusal.BookRefusal.{BookRefusal}
use Rattle.site_book.specs.declared.who.Who.{Who}
use Rattle.site_book.specs.Names.{same_who}
use Rattle.site_book.specs.Books.{BookOf, answer_of_book, book_after}
use Rattle.site_book.specs.declared.event.BookEvent.{BookEvent}
use Rattle.site_book.specs.declared.event.BookEvent.TheVariants.{Opens, Raises, Closes, Replans}

-- the book after a list of events
abbrev pub book_after_events : BookOf → List BookEvent → BookOf
book_after_events book [] = book
book_after_events book (event ∷ events) = book_after_events (book_after book event) events

-- the book's answers to a list of events: None for each that it grants
abbrev pub answers : BookOf → List BookEvent → List (Option BookRefusal)
answers book [] = []
answers book (event ∷ events) = answer_of_book book event ∷ answers (book_after book event) events

-- whether an event of the book is of a customer of whom `is_one` says true; another plan is nobody's event
abbrev pub is_of : (Who → Bool) → BookEvent → Bool
is_of is_one (Opens who session ask) = is_one who
is_of is_one (Raises who session ask) = is_one who
is_of is_one (Closes who session) = is_one who
is_of is_one (Replans plan) = false

-- whether an event stays in the list when those of all other customers are removed: it is of one of these customers,
-- or it is another plan that came in, by its answer
abbrev pub is_event_kept : (Who → Bool) → BookEvent → Option BookRefusal → Bool
is_event_kept is_one (Opens who session ask) answer = is_one who
is_event_kept is_one (Raises who session ask) answer = is_one who
is_event_kept is_one (Closes who session) answer = is_one who
is_event_kept is_one (Replans plan) answer = is_none answer

-- the events at a book with those of all others removed, and the plans that didn't come in
abbrev pub only_events : (Who → Bool) → BookOf → List BookEvent → List BookEvent
only_events is_one book [] = []
only_events is_one book (event ∷ events) =
    if is_event_kept is_one event (answer_of_book book event) then event ∷ only_events is_one (book_after book event) events else only_events is_one (book_after book event) events

-- the book's answers to the events of some customers alone
abbrev pub answers_of : (Who → Bool) → BookOf → List BookEvent → List (Option BookRefusal)
answers_of is_one book [] = []
answers_of is_one book (event ∷ events) =
    if is_of is_one event then answer_of_book book event ∷ answers_of is_one (book_after book event) events else answers_of is_one (book_after book event) events

-- the grants of some customers alone
abbrev pub grants_of : (Who → Bool) → List Grant → List Grant
grants_of is_one [] = []
grants_of is_one (held ∷ grants) = if is_one held.who then held ∷ grants_of is_one grants else grants_of is_one grants

-- the name of a session: its owner, and its number
abbrev pub Name : Type 0
Name = Who × ℕ

-- the names of sessions without the first one that is this name
abbrev pub names_without : Who → ℕ → List Name → List Name
names_without who session [] = []
names_without who session (name ∷ names) = if same_who who name.0 && (session == name.1) then names else name ∷ names_without who session names

-- the sessions that are open after an event of which this was the answer: one that was opened is there, and one that was closed
-- isn't any more
abbrev pub open_after : List Name → BookEvent → Option BookRefusal → List Name
open_after names (Opens who session ask) None = names ++ (who, session) ∷ []
open_after names (Opens who session ask) (Some refusal) = names
open_after names (Raises who session ask) answer = names
open_after names (Closes who session) answer = names_without who session names
open_after names (Replans plan) answer = names

-- the sessions that are still open after a list of events, by their answers alone
abbrev pub still_open : List Name → List BookEvent → List (Option BookRefusal) → List Name
still_open names [] told = names
still_open names (event ∷ events) [] = names
still_open names (event ∷ events) (answer ∷ told) = still_open (open_after names event answer) events told

-- the names of the sessions whose grants are out
abbrev pub names_granted : List Grant → List Name
names_granted grants = map (λ held. (held.who, held.session)) grants
