-- Representation: what each call of an office at a site does to what its seat knows of its desk's history, and what the reply is by the history
-- that the seat has then seen: as at any desk, or the book refuses a raise.
use Rattle.std.specs.Prelude.{◌≡◌, ◌⊎◌, ℕ, Bool, true, false, Option, Some, is_some}
use Rattle.sched_rules.specs.Refusals.{refusal_number}
use Rattle.hall.specs.Halls.{HallOf}
use Rattle.session.specs.Calls.{Call, Reserve, OfficeReply, Refused}
use Rattle.session.specs.Turns.{seated_after}
use Rattle.desk_office.specs.Moments.{IsTurnAt}
use Rattle.site_book.specs.declared.refusal.BookRefusal.{BookRefusal}
use Rattle.site_desk.specs.declared.turned.Turned.TheVariants.{ByBook}
use Rattle.site_desk.specs.Seats.{SiteTraceOf}
use Rattle.site_office.specs.Offices.{SiteOfficeOf, office_of}
use Rattle.site_office.specs.Refusing.{raise_refusal}

-- what a seat knew when its tenant left: as before; where one is there, it may have left the desk of this number
abbrev pub IsTracedAt : ℕ → Bool → Option SiteTraceOf → Option SiteTraceOf → Type 0
IsTracedAt at false was knew = knew ≡ was
IsTracedAt at true was knew = (knew ≡ was) ⊎ ((trace : SiteTraceOf) × (knew ≡ Some trace) × (trace.at ≡ at))

-- a raise is refused by the book, for this reason: 1 where the book has no such session, 20 where it is no raise, else 14
abbrev pub IsRefusedByBook : Call → OfficeReply → Type 0
IsRefusedByBook (Reserve quota) reply = (why : BookRefusal) × (reply ≡ Refused (refusal_number (raise_refusal (ByBook why))))
IsRefusedByBook _ reply = ⊥

-- one call of an office at a site whose desks were made with these halls: that of an office at its desk, or one that the book refuses, by which
-- nothing changes
pub record IsSiteTurn (begun : ℕ → HallOf) (from : SiteOfficeOf) (call : Call) (reply : OfficeReply) (to : SiteOfficeOf) : Type 0 where
  pub place : to.at ≡ from.at
  pub knew : IsTracedAt from.at (is_some from.seat) from.knew to.knew
  pub there : is_some to.seat ≡ seated_after (is_some from.seat) reply
  pub came : IsTurnAt (begun from.at) (office_of from) call reply (office_of to) ⊎ ((to ≡ from) × IsRefusedByBook call reply)

-- nothing is asked of the history of a desk's hall; where a tenant is there, its desk stays
pub record Stays (from to : SiteOfficeOf) : Type 0 where
  pub seat : (office_of to).seat ≡ (office_of from).seat
  pub there : is_some to.seat ≡ is_some from.seat
  pub knew : to.knew ≡ from.knew
  pub place : is_some from.seat ≡ true → to.at ≡ from.at
