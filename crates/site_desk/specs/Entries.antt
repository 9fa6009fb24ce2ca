-- Meaning: what one has who asked a site's desk for a session: a seat, or why there is none.
use Rattle.std.specs.Prelude.{◌≡◌, ℕ, [], None}
use Rattle.tenant_quota.specs.Reserves.{ReserveOf}
use Rattle.sched_rules.specs.Cores.{tenant_in}
use Rattle.hall.specs.Halls.{HallOf}
use Rattle.desk.specs.Histories.{IsSeated}
use Rattle.site_book.specs.declared.who.Who.{Who}
use Rattle.site_book.specs.Plans.{PlanOf}
use Rattle.site_desk.specs.Granted.{IsOpened}
use Rattle.site_desk.specs.Seats.{SiteSeatOf}
use Rattle.site_desk.specs.declared.entry.SeatOutcome.{SeatOutcome}
use Rattle.site_desk.specs.declared.entry.SeatOutcome.TheVariants.{Seated}

-- a new seat at the desk of this number, which was made with this hall and this plan: it is this customer's, has asked nothing, and its share is
-- 1. The history of the hall ends with its admission, that of the book with its opening, and the first hall had no such tenant
pub record IsNewSeat (begun : HallOf) (plan : PlanOf) (at : ℕ) (who : Who) (ask : ReserveOf) (seat : SiteSeatOf) : Type 0 where
  pub whose : seat.who ≡ who
  pub where_at : seat.at ≡ at
  pub unasked : seat.seat.asked ≡ []
  pub share : seat.seat.share ≡ 1
  pub admitted : IsSeated ask seat.seat
  pub new : tenant_in begun.shared.tenants seat.seat.tenant ≡ None
  pub opened : IsOpened plan who seat.seat.tenant ask seat.books

-- what one has who asked a site's desk for a session: if seated, a new seat of its own; else nothing is said here
abbrev pub IsEntry : HallOf → PlanOf → ℕ → Who → ReserveOf → SeatOutcome SiteSeatOf → Type 0
IsEntry begun plan at who ask (Seated seat) = IsNewSeat begun plan at who ask seat
IsEntry begun plan at who ask _ = Unit {0}
