-- Meaning: what contracts see of a seat at a site's desk, and what it is told of its calls.
use Rattle.std.specs.Prelude.{◌≡◌, ℕ, Result, Ok, Err}
use Rattle.sched_rules.specs.declared.refusal.Refusal.TheVariants.{OutOfMemory as HallOutOfMemory}
use Rattle.sched_rules.specs.declared.step.StepOf.{StepOf}
use Rattle.sched_rules.specs.declared.step.StepOf.TheVariants.{AdmitMore}
use Rattle.tenant_quota.specs.Reserves.{ReserveOf}
use Rattle.hall.specs.Halls.{HallOf}
use Rattle.hall.specs.jamboree_rules.declared.leaf.LeafAnswer.{LeafAnswer}
use Rattle.desk.specs.Traces.{Known}
use Rattle.desk.specs.Seats.{SeatOf, seeing, stepped}
use Rattle.desk.specs.Histories.{IsToldOf}
use Rattle.site_book.specs.declared.event.BookEvent.{BookEvent}
use Rattle.site_book.specs.declared.who.Who.{Who}
use Rattle.site_desk.specs.declared.turned.Turned.{Turned}
use Rattle.site_desk.specs.declared.turned.Turned.TheVariants.{ByBook, OldTenant, OutOfMemory}

-- a seat: whose it is, the number of the desk that it is at, the seat of its tenant there, as at any desk, and what it knows of what the book
-- granted
pub record SiteSeatOf : Type 0 where
  pub who : Who
  pub at : ℕ
  pub seat : SeatOf
  pub books : Known BookEvent

-- what a session that has left knew of the two histories of the desk of this number: that of its hall, and that of its book
pub record SiteTraceOf : Type 0 where
  pub at : ℕ
  pub known : Known (StepOf LeafAnswer)
  pub books : Known BookEvent

-- what one knew of what the book of the desk of this number granted
pub record BookTraceOf : Type 0 where
  pub at : ℕ
  pub books : Known BookEvent

-- how a raise of what a seat reserves is answered, by the history: the raise was taken, and the history ends with it; or the book refused it,
-- and nobody was asked; or memory ran out
abbrev pub IsRaiseTold : HallOf → SeatOf → ReserveOf → Result (Unit {0}) Turned → SeatOf → Type 0
IsRaiseTold begun before ask (Ok done) after =
    (after ≡ stepped after.known before) × IsToldOf {X = Unit {0}} begun before.known (AdmitMore before.tenant ask) (Ok done) after.known
IsRaiseTold begun before ask (Err (ByBook refusal)) after = after ≡ before
IsRaiseTold begun before ask (Err OldTenant) after = ⊥
IsRaiseTold begun before ask (Err OutOfMemory) after =
    (after ≡ seeing after.known before) × IsToldOf {X = Unit {0}} begun before.known (AdmitMore before.tenant ask) (Err HallOutOfMemory) after.known
