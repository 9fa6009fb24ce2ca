-- Meaning: the hall of a site's desk with the book of its customers, and what each call does to both.
use Rattle.std.specs.Prelude.{◌≡◌, ℕ, ◌+◌, ◌≤◌, ◌^◌, Bool, true, false, Some, None, Result, Ok, Err, IsSome}
use Rattle.numbered_list.specs.Places.{AreRising}
use Rattle.tenant_quota.specs.Reserves.{ReserveOf}
use Rattle.sched_rules.specs.declared.refusal.Refusal.{Refusal as HallRefusal}
use Rattle.sched_rules.specs.declared.refusal.Refusal.TheVariants.{OldTenant as HallOldTenant, OutOfMemory as HallOutOfMemory}
use Rattle.sched_rules.specs.declared.step.StepOf.{StepOf}
use Rattle.sched_rules.specs.declared.step.StepOf.TheVariants.{Admit, AdmitMore, Leave}
use Rattle.sched_rules.specs.declared.step.DidOf.{DidOf}
use Rattle.sched_rules.specs.Headline.{AreNumbersGiven}
use Rattle.hall.specs.jamboree_rules.declared.leaf.Leaf.{Leaf}
use Rattle.hall.specs.jamboree_rules.declared.leaf.LeafAnswer.{LeafAnswer}
use Rattle.hall.specs.Halls.{HallOf, IsDecided}
use Rattle.site_book.specs.declared.who.Who.{Who}
use Rattle.site_book.specs.Books.{BookOf, taken, why_over, why_no_raise}
use Rattle.site_book.specs.declared.event.BookEvent.TheVariants.{Opens, Raises, Closes}
use Rattle.site_book.specs.Grants.{grant_of}
use Rattle.site_desk.specs.declared.turned.Turned.{Turned}
use Rattle.site_desk.specs.declared.turned.Turned.TheVariants.{ByBook, OldTenant, OutOfMemory}
use Rattle.site_desk.specs.BookedSeats.{seats_in_book, seats_in_hall, number_of}

-- the hall of a site's desk and the book of its customers
pub record BookedOf : Type 0 where
  pub hall : HallOf
  pub book : BookOf

-- the seat is the grant: the book's grants are the hall's tenants, one for one and in their order, with the same reservations. Each has a
-- number below all later ones, none above the hall's newest; and the plan's totals are within the hall's
pub record IsBooked (hall : HallOf) (book : BookOf) : Type 0 where
  pub seated : seats_in_book book.grants ≡ seats_in_hall hall.shared.tenants
  pub rising : AreRising number_of (seats_in_hall hall.shared.tenants)
  pub given : AreNumbersGiven hall.shared
  pub segments : book.plan.totals.segments ≤ hall.shared.totals.segments
  pub nodes : book.plan.totals.nodes ≤ hall.shared.totals.nodes

-- the hall took this step, and nothing else was done to it
abbrev pub TookInHall : HallOf → StepOf LeafAnswer → HallOf → Type 0
TookInHall before step after = (did : DidOf Leaf) × IsDecided before step (Ok did) after

-- the hall had no memory left for this step, and nothing was done to it
abbrev pub RanOut : HallOf → StepOf LeafAnswer → HallOf → Type 0
RanOut before step after = IsDecided before step (Err HallOutOfMemory) after

-- why a customer is turned away, by the hall's refusal
abbrev pub turned_by : HallRefusal → Turned
turned_by HallOldTenant = OldTenant
turned_by _ = OutOfMemory

-- a customer's session is admitted: where the book allows it the tenant is admitted under the number after the newest, and the grant is
-- entered, both at once
abbrev pub IsLetIn : BookedOf → Who → ReserveOf → ℕ → BookedOf → Type 0
IsLetIn before who ask number after =
    (why_over before.book.plan who ask before.book.grants ≡ None) × (number ≡ before.hall.shared.newest + 1) × (after.book ≡ taken before.book (Opens who number ask)) × TookInHall before.hall (Admit number ask) after.hall

-- a customer is turned away, and nothing changes: the book refuses it, or the hall has no number or no memory left
abbrev pub IsTurnedAway : BookedOf → Who → ReserveOf → Turned → BookedOf → Type 0
IsTurnedAway before who ask (ByBook refusal) after = (why_over before.book.plan who ask before.book.grants ≡ Some refusal) × (after ≡ before)
IsTurnedAway before who ask OldTenant after = (2 ^ 62 ≤ before.hall.shared.newest) × (after ≡ before)
IsTurnedAway before who ask OutOfMemory after =
    (why_over before.book.plan who ask before.book.grants ≡ None) × (after ≡ before) × RanOut before.hall (Admit (before.hall.shared.newest + 1) ask) after.hall

-- what comes of a raise: it is refused exactly where the book refuses it, or else the tenant and the grant have this, both at once; or no
-- memory is left, and nothing changes
abbrev pub IsRaise : BookedOf → Who → ℕ → ReserveOf → Result (Unit {0}) Turned → BookedOf → Type 0
IsRaise before who number ask (Ok _) after =
    (why_no_raise before.book.plan who number ask before.book.grants (grant_of who number before.book.grants) ≡ None) × (after.book ≡ taken before.book (Raises who number ask)) × TookInHall before.hall (AdmitMore number ask) after.hall
IsRaise before who number ask (Err (ByBook refusal)) after =
    (why_no_raise before.book.plan who number ask before.book.grants (grant_of who number before.book.grants) ≡ Some refusal) × (after ≡ before)
IsRaise before who number ask (Err OldTenant) after = ⊥
IsRaise before who number ask (Err OutOfMemory) after =
    (why_no_raise before.book.plan who number ask before.book.grants (grant_of who number before.book.grants) ≡ None) × (after ≡ before) × RanOut before.hall (AdmitMore number ask) after.hall

-- what comes of a session's end: the book has it, and both give back what it had
abbrev pub IsEnd : BookedOf → Who → ℕ → BookedOf → Type 0
IsEnd before who number after = IsSome (grant_of who number before.book.grants) × (after.book ≡ taken before.book (Closes who number)) × TookInHall before.hall (Leave number) after.hall

-- a step that neither begins nor ends a tenant, nor raises what it reserves
abbrev pub is_within_seat : {A : Type 0} → StepOf A → Bool
is_within_seat (Admit number quota) = false
is_within_seat (AdmitMore number quota) = false
is_within_seat (Leave number) = false
is_within_seat _ = true
