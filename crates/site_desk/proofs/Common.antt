-- The names that the proofs of a site's desk use, imported in one place.
pub use Rattle.std.proofs.Common.{Bool, Contains, Err, IfErr, List, None, Ok, Option, Result, Some, [], ap, arith, cond, drop, eqb, false, inl, inr, length}
pub use Rattle.std.proofs.Common.{length-append, refl, rules, subst, sym, true, ℕ, ◌&&◌, ◌++◌, ◌+◌, ◌<◌, ◌==◌, ◌∙◌, ◌∷◌, ◌≡◌, ◌≢◌, ◌≤◌, ◌⊎◌}
pub use Rattle.std.specs.Prelude.{OnErr, nat_le, nat_lt, ◌^◌, ◌||◌}
pub use Rattle.std.proofs.lemmas.Bool.Decides.{nat_tests}
pub use Rattle.std.proofs.lemmas.Bool.{and_parts, cases_Bool, eq-eqb, eqb-true, false≢true, le-ltb, lt-leb, ne_eqb, or_from}
pub use Rattle.std.proofs.lemmas.List.Sums.{sum_by-cons}
pub use Rattle.std.specs.Option.{IsSome, is_some}
pub use Rattle.desk.specs.Counts.{IsNextReady}
pub use Rattle.desk.specs.Histories.{AreTaken, IsShownAt, IsTrueTo, Took, core_at, steps_of}
pub use Rattle.hall.specs.desk_rules.Asked.{found_or_no_tenant}
pub use Rattle.sched_rules.specs.Views.{left_in_core, live_of}
pub use Rattle.desk.specs.Noted.{HasCome, IsDone}
pub use Rattle.hall.specs.Halls.{HallOf, IsDecided}
pub use Rattle.hall.specs.jamboree_rules.Procedure.{jamboree}
pub use Rattle.hall.specs.jamboree_rules.declared.leaf.Leaf.{Leaf}
pub use Rattle.hall.specs.jamboree_rules.declared.leaf.LeafAnswer.{LeafAnswer}
pub use Rattle.numbered_list.specs.Places.{AreAbove, AreRising}
pub use Rattle.jamboree_rules.specs.declared.pool_rules.task.Task.{Task}
pub use Rattle.sched_laws.proofs.Shaped.{by-kinds, unless-passed}
pub use Rattle.sched_rules.proofs.Isolation.{IsTaken, shared-after-taken, step-taken}
pub use Rattle.sched_rules.proofs.Tenants.{tenant_in-new}
pub use Rattle.sched_rules.specs.Cores.{CoreState, accounts_in, is_beyond, is_full, reservations_in, shared_with, tenant_in, with_outcome, with_tenant}
pub use Rattle.sched_rules.specs.Cores.{without_tenant}
pub use Rattle.sched_rules.specs.Functions.{Functions}
pub use Rattle.sched_rules.specs.Headline.{AreNumbersGiven, AreNumbersTaken, IsOneStep, is_admission}
pub use Rattle.sched_rules.specs.Lone.{Outcome, is_lower, lone, lone_step}
pub use Rattle.sched_rules.specs.Runs.{tenant_of}
pub use Rattle.sched_rules.specs.Trees.{Tenant, account_in, admitted_with}
pub use Rattle.sched_rules.specs.declared.refusal.Refusal.{Refusal}
pub use Rattle.sched_rules.specs.declared.step.DidOf.{DidOf}
pub use Rattle.sched_rules.specs.declared.step.DidOf.TheVariants.{Left}
pub use Rattle.sched_rules.specs.declared.step.StepOf.{StepOf}
pub use Rattle.sched_rules.specs.declared.step.StepOf.TheVariants.{Admit, AdmitMore, Leave}
pub use Rattle.site_book.proofs.AmountLemmas.{plus-swap}
pub use Rattle.site_book.proofs.ComingLemmas.{only_enters}
pub use Rattle.site_book.proofs.RunLemmas.{names-with-ask}
pub use Rattle.site_book.specs.Amounts.{IsAmountWithin, nothing, of_one, plus}
pub use Rattle.site_book.specs.Books.{BookOf, taken, why_no_raise, why_over}
pub use Rattle.site_book.specs.declared.event.BookEvent.{BookEvent}
pub use Rattle.site_book.specs.declared.event.BookEvent.TheVariants.{Closes, Opens, Raises, Replans}
pub use Rattle.site_book.specs.Comings.{stays, told_by, told_unless, with_staying}
pub use Rattle.site_book.specs.Events.{Name, names_granted}
pub use Rattle.site_book.specs.Grants.{grant_of, grants_raised, grants_without, is_held_as, used}
pub use Rattle.site_book.specs.Names.{same_who}
pub use Rattle.site_book.specs.Plans.{PlanOf}
pub use Rattle.site_book.specs.Rolls.{is_meant, is_present_as, marked, marked_all, marked_if, names_present, newcomer, without_present}
pub use Rattle.site_book.specs.declared.amount.Amount.{Amount}
pub use Rattle.site_book.specs.declared.coming.Coming.TheVariants.{Enters}
pub use Rattle.site_book.specs.declared.held.Grant.{Grant}
pub use Rattle.site_book.specs.declared.held.Group.TheVariants.{All}
pub use Rattle.site_book.specs.declared.present.SessionMark.{SessionMark}
pub use Rattle.site_book.specs.declared.present.SessionMark.TheVariants.{Spoke, Told, Waits}
pub use Rattle.site_book.specs.declared.present.Present.{Present}
pub use Rattle.site_book.specs.declared.present.Whom.{Whom}
pub use Rattle.site_book.specs.declared.refusal.BookRefusal.TheVariants.{Lower}
pub use Rattle.site_book.specs.declared.who.Who.{Who}
pub use Rattle.tenant_quota.specs.Accounts.{reserved_nodes, reserved_segments}
pub use Rattle.tenant_quota.specs.Reserves.{ReserveOf}
pub use Rattle.tenant_quota.specs.declared.account.Account.{Account}
pub use Rattle.desk.specs.Traces.{Known}
pub use Rattle.site_desk.specs.Granted.{AreGranted, AreHeld, IsBookBy, IsBookLook, IsFirstOf, IsGrantedFrom, IsNotReplanned, IsOpened, IsPartOnce, IsReplannedBy, are_raisings, book_at, events_of, is_open_by, is_opening, is_raising}
pub use Rattle.site_desk.specs.Booked.{BookedOf, IsBooked, IsRaise, IsTurnedAway, TookInHall, is_within_seat, turned_by}
pub use Rattle.site_desk.specs.BookedSeats.{BookedSeat, number_of, seats_in_book, seats_in_hall}
pub use Rattle.site_desk.specs.Sites.{IsCame, IsListed, IsNextTask, IsSessionGone, IsSitePick, SiteOf, met, overruns_of, stays_in}
pub use Rattle.site_desk.specs.Seats.{IsRaiseTold, SiteSeatOf}
pub use Rattle.site_desk.specs.declared.turned.Turned.{Turned}
pub use Rattle.site_desk.specs.declared.turned.Turned.TheVariants.{ByBook, OldTenant, OutOfMemory}
