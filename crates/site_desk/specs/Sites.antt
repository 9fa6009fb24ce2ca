-- Meaning: what lies under the lock of a site's desk, and what each call does to it.
use Rattle.std.specs.Prelude.{◌≡◌, ℕ, ◌+◌, ◌%◌, ◌^◌, ◌==◌, Bool, true, false, ◌&&◌, ◌||◌, ◌⊎◌, List, [], ◌∷◌, ◌++◌, map, is_none, Option, Some, None, Result}
use Rattle.sched_rules.specs.declared.refusal.Refusal.{Refusal}
use Rattle.sched_rules.specs.declared.step.StepOf.{StepOf}
use Rattle.sched_rules.specs.declared.step.DidOf.{DidOf}
use Rattle.desk.specs.Counts.{is_awaited, IsNextReady}
use Rattle.desk.specs.Noted.{IsDone}
use Rattle.site_desk.specs.Booked.{BookedOf, IsLetIn, IsTurnedAway, IsEnd}
use Rattle.site_desk.specs.Seats.{SiteSeatOf}
use Rattle.site_desk.specs.declared.turned.Turned.TheVariants.{ByBook, OldTenant, OutOfMemory}
use Rattle.hall.specs.Halls.{IsDecided}
use Rattle.hall.specs.jamboree_rules.declared.leaf.Leaf.{Leaf}
use Rattle.hall.specs.jamboree_rules.declared.leaf.LeafAnswer.{LeafAnswer}
use Rattle.site_book.specs.declared.held.Grant.{Grant}
use Rattle.site_book.specs.declared.held.Overrun.{Overrun}
use Rattle.site_book.specs.declared.event.BookEvent.{BookEvent}
use Rattle.site_book.specs.declared.event.BookEvent.TheVariants.{Opens, Closes}
use Rattle.site_book.specs.Books.{BookOf, overrun_of}
use Rattle.site_book.specs.Events.{names_granted}
use Rattle.site_book.specs.Plans.{PlanOf}
use Rattle.site_book.specs.declared.coming.Comer.{Comer}
use Rattle.site_book.specs.declared.coming.Coming.{Coming}
use Rattle.site_book.specs.declared.coming.Coming.TheVariants.{Enters, Waits, Ends, Refused}
use Rattle.site_book.specs.declared.present.SessionMark.TheVariants.{Told as told_to}
use Rattle.site_book.specs.declared.present.Present.{Present}
use Rattle.site_book.specs.declared.present.Told.TheVariants.{ForAnother}
use Rattle.site_book.specs.declared.present.Whom.TheVariants.{One}
use Rattle.site_book.specs.Comings.{coming}
use Rattle.site_book.specs.Rolls.{marked_all, names_present, newcomer, without_present}
use Rattle.fair_share.specs.Shares.{SharesOf, tenant_entered}
use Rattle.fair_share.specs.Picks.{seen_all, IsFairTask, IsNoTask}
use Rattle.jamboree_rules.specs.declared.pool_rules.task.Task.{Task}
use Rattle.site_desk.specs.Sharing.{share_customer, share_network, unshared}
use Rattle.site_desk.specs.declared.entry.SeatOutcome.{SeatOutcome}
use Rattle.site_desk.specs.declared.entry.SeatOutcome.TheVariants.{Seated, Later, Turned}

-- the number of the desk, the hall with its book, what the book granted, who is there, who shares the workers and what each was served, and how
-- many sessions have left, modulo 2^64
pub record SiteOf : Type 0 where
  pub at : ℕ
  pub booked : BookedOf
  pub events : List (ℕ × BookEvent)
  pub roll : List Present
  pub shares : SharesOf
  pub left : ℕ

-- who is there is who has a grant, and in the same order
abbrev pub IsListed : BookOf → List Present → Type 0
IsListed book roll = names_present roll ≡ names_granted book.grants

-- what comes of one who asks for a session at the desk, by its book, its roll and the time
abbrev pub met : SiteOf → Comer → Coming
met site comer = coming site.booked.book.plan site.booked.book.grants site.roll comer

-- what is done where one asks a site's desk for a session. Where it enters, all at once: its tenant is admitted; its
-- grant is entered, and the book's history has it; it is listed; and its share of the workers begins. Where a guest is
-- to end for it, that guest is told so. Else nothing changes. It is turned away where the book refuses it and nobody's
-- going would help, or where no number or no memory is left
abbrev pub IsCame : SiteOf → Comer → SeatOutcome SiteSeatOf → SiteOf → Type 0
IsCame before comer (Seated seat) after =
    (met before comer ≡ Enters) × IsLetIn before.booked comer.who comer.ask seat.seat.tenant after.booked × (after ≡ record before { booked = after.booked; events = before.events ++ (seat.books.maker, Opens comer.who seat.seat.tenant comer.ask) ∷ []; roll = before.roll ++ newcomer comer.who seat.seat.tenant comer.at ∷ []; shares = tenant_entered seat.seat.tenant (share_customer comer.who) (share_network comer.who) before.shares })
IsCame before comer (Later refusal None left) after = (met before comer ≡ Waits refusal) × (left ≡ before.left) × (after ≡ before)
IsCame before comer (Later refusal (Some session) left) after =
    (met before comer ≡ Ends session refusal) × (left ≡ before.left) × (after ≡ record before { roll = marked_all (One session) (told_to ForAnother) before.roll })
IsCame before comer (Turned (ByBook refusal)) after = (met before comer ≡ Refused refusal) × (after ≡ before)
IsCame before comer (Turned OldTenant) after = (met before comer ≡ Enters) × (after ≡ before) × IsTurnedAway before.booked comer.who comer.ask OldTenant after.booked
IsCame before comer (Turned OutOfMemory) after = (met before comer ≡ Enters) × (after ≡ before) × IsTurnedAway before.booked comer.who comer.ask OutOfMemory after.booked

-- what is done where a session leaves: its tenant leaves, its grant is taken back, it is listed no more and shares no more, all at once
abbrev pub IsSessionGone : SiteOf → SiteSeatOf → SiteOf → Type 0
IsSessionGone before seat after =
    IsEnd before.booked seat.who seat.seat.tenant after.booked × (after ≡ record before { booked = after.booked; events = before.events ++ (seat.books.maker, Closes seat.who seat.seat.tenant) ∷ []; roll = without_present seat.who seat.seat.tenant before.roll; shares = unshared seat.seat.tenant before.shares; left = (before.left + 1) % 2 ^ 64 })

-- one step was offered to the hall under the site's lock, and nothing else was done
abbrev pub IsSiteStep : SiteOf → StepOf LeafAnswer → Result (DidOf Leaf) Refusal → SiteOf → Type 0
IsSiteStep before step answer after =
    IsDecided before.booked.hall step answer after.booked.hall × (after ≡ record before { booked = record before.booked { hall = after.booked.hall } })

-- one step of a seat was offered to the hall under the site's lock, and nothing else was done
abbrev pub IsSeatStep : {X : Type 0} → SiteOf → StepOf LeafAnswer → Result X Refusal → SiteOf → Type 0
IsSeatStep before step answer after =
    IsDone before.booked.hall step answer after.booked.hall × (after ≡ record before { booked = record before.booked { hall = after.booked.hall } })

-- whether one of these sessions has this number and wasn't told to end
abbrev pub stays_in : ℕ → List Present → Bool
stays_in number [] = false
stays_in number (present ∷ roll) = (number == present.session) && is_none present.told || stays_in number roll

-- whether a seat that waits for a job waits on: the session wasn't told to end, and the job hasn't ended
abbrev pub site_waits_on : SiteOf → ℕ → ℕ → Bool
site_waits_on site number job = stays_in number site.roll && is_awaited site.booked.hall.shared number job

-- what a pick is and does: it is seen who has a ready frame, and the task is a fair one by then; None only where no tenant that shares has one.
-- Nothing else is done: the frame isn't taken, and nobody is charged
abbrev pub IsSitePick : SiteOf → Option Task → SiteOf → Type 0
IsSitePick before None after = (after ≡ record before { shares = seen_all before.booked.hall.shared before.shares }) × IsNoTask before.booked.hall.shared after.shares
IsSitePick before (Some task) after = (after ≡ record before { shares = seen_all before.booked.hall.shared before.shares }) × IsFairTask before.booked.hall.shared after.shares task

-- the task that a worker is given after it has waited: a pick; or, where no tenant that shares has a ready frame, a ready frame of any tenant; None
-- where no frame is ready
abbrev pub IsNextTask : SiteOf → Option Task → SiteOf → Type 0
IsNextTask before None after = IsSitePick before None after × IsNextReady before.booked.hall.shared None
IsNextTask before (Some task) after = IsSitePick before (Some task) after ⊎ (IsSitePick before None after × IsNextReady before.booked.hall.shared (Some task))

-- by how much each grant's part has more than a plan allows, in the order of the grants
abbrev pub overruns_of : PlanOf → List Grant → List Grant → List (Option Overrun)
overruns_of plan all grants = map (overrun_of plan all) grants
