-- Representation: what contracts see of an office at a site, and of what it is as an office at a desk.
use Rattle.std.specs.Prelude.{◌≡◌, ℕ, Option, Some, None, option_map}
use Rattle.desk.specs.Traces.{Known}
use Rattle.desk_office.specs.Moments.{OfficeOf}
use Rattle.site_book.specs.declared.event.BookEvent.{BookEvent}
use Rattle.site_book.specs.declared.who.Who.{Who}
use Rattle.site_desk.specs.Seats.{SiteSeatOf, SiteTraceOf}

-- the number of the office's desk, its seat there while a tenant is there, and what the seat knew when the tenant left
pub record SiteOfficeOf : Type 0 where
  pub at : ℕ
  pub seat : Option SiteSeatOf
  pub knew : Option SiteTraceOf

-- the office of a site's connection, by its desk's number, its seat and what it knew
abbrev pub at_site : ℕ → Option SiteSeatOf → Option SiteTraceOf → SiteOfficeOf
at_site at seat knew = record { at = at; seat = seat; knew = knew }

-- the office of a site's connection, seen as an office at any desk
abbrev pub office_of : SiteOfficeOf → OfficeOf
office_of office = record { seat = option_map (λ s. s.seat) office.seat; knew = option_map (λ t. t.known) office.knew }

-- whose the seat is; where there is none, this customer
abbrev pub owner_of : Who → Option SiteSeatOf → Who
owner_of who None = who
owner_of who (Some seat) = seat.who

-- the number of the seat's desk; where there is none, this one
abbrev pub place_of : ℕ → Option SiteSeatOf → ℕ
place_of at None = at
place_of at (Some seat) = seat.at

-- a seat, if there is one, is what it was but for what it knows of what the book granted
abbrev pub IsSameSeat : Option SiteSeatOf → Option SiteSeatOf → Type 0
IsSameSeat None after = after ≡ None
IsSameSeat (Some seat) after = (books : Known BookEvent) × (after ≡ Some (record seat { books = books }))
