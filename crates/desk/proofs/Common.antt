-- The names that the desk's proofs use, imported in one place.
pub use Rattle.std.proofs.Common.{Bool, Contains, Err, IfErr, List, None, Ok, Option, Result, Some, [], ap, append-nil, append_assoc, arith, false, if◌then◌else◌, inl, inr}
pub use Rattle.std.proofs.Common.{length, length-append, lit<, refl, rules, set, subst, suc, sym, true, true≢false, zero, ℕ, ⊎_elim, ◌++◌, ◌+◌, ◌<◌, ◌==◌, ◌∙◌, ◌∷◌, ◌≡◌}
pub use Rattle.std.proofs.Common.{◌≢◌, ◌≤◌, ◌⊎◌}
pub use Rattle.std.proofs.lemmas.Bool.Decides.{nat_tests}
pub use Rattle.std.specs.Prelude.{MatchResult, OnErr, OnOk, ◌^◌, not}
pub use lib.ListN.{get_elem?}
pub use mathlib.Core.List.{IsPrefix}
pub use mathlib.Core.Option.{none, some, some-injective, some-ne-none}
pub use prog.Atomic.{either}
pub use Rattle.atomic_table.proofs.Lists.{at_set, set_again}
pub use Rattle.atomic_table.specs.Table.{Act, Allows, Joins, Splits, State, opening, step}
pub use Rattle.hall.proofs.DeskRules.Refused.{ask-refused}
pub use Rattle.hall.specs.desk_rules.Asked.{ask_refusals, cancel_refusals}
pub use Rattle.hall.specs.Halls.{HallOf, IsDecided, IsExplained, count_of, hall_after}
pub use Rattle.hall.specs.jamboree_rules.Places.{frame_size, root_words}
pub use Rattle.hall.specs.jamboree_rules.Procedure.{jamboree}
pub use Rattle.hall.specs.jamboree_rules.declared.leaf.Leaf.{Leaf}
pub use Rattle.hall.specs.jamboree_rules.declared.leaf.LeafAnswer.{LeafAnswer}
pub use Rattle.sched_laws.proofs.Shaped.{by-kinds}
pub use Rattle.sched_rules.proofs.Isolation.{IsTaken, step-taken}
pub use Rattle.sched_rules.proofs.Tenants.{known-number, tenant_in-new, tenant_in-with_outcome, tenant_in-other-with_outcome}
pub use Rattle.sched_rules.specs.Cores.{CoreState, is_beyond, newest_after, reservations_in, reserved_by, shared_after, shared_refusal}
pub use Rattle.sched_rules.specs.Cores.{shared_run, step_result, tenant_in, unless_beyond, with_outcome}
pub use Rattle.sched_rules.specs.Functions.{Functions}
pub use Rattle.sched_rules.specs.Headline.{AreAnswersTo, AreNumbersGiven, IsAnswerTo, IsHeadline, IsOneStep, after_answers, taken_steps}
pub use Rattle.sched_rules.specs.Lone.{Outcome}
pub use Rattle.sched_rules.specs.Lone.{cancelled, is_lower, lone, raised, refusal_in}
pub use Rattle.sched_rules.specs.Runs.{alone_from, answer_of, only, tenant_of}
pub use Rattle.sched_rules.specs.Trees.{Tenant}
pub use Rattle.sched_rules.specs.declared.refusal.Refusal.{Refusal}
pub use Rattle.sched_rules.specs.declared.refusal.Refusal.TheVariants.{Lower, OutOfMemory}
pub use Rattle.sched_rules.specs.declared.step.DidOf.{DidOf}
pub use Rattle.sched_rules.specs.declared.step.DidOf.TheVariants.{Left}
pub use Rattle.sched_rules.specs.declared.step.StepOf.{StepOf}
pub use Rattle.sched_rules.specs.declared.step.StepOf.TheVariants.{Admit, AdmitMore, Cancel, Leave, Submit}
pub use Rattle.tenant_quota.specs.Reserves.{ReserveOf}
pub use Rattle.desk.specs.Counts.{IsLeft}
pub use Rattle.desk.specs.Histories.{AllOwn, AreStepsOfSeat, AreStepsUpTo, AreTaken, HasNoLeave, HasOwners, IsAtEndOf, IsComeBy, IsLook, IsSeated, IsThere, IsToldOf, IsTrueTo}
pub use Rattle.desk.specs.Histories.{Owned, core_at, is_admit, is_leave, is_seat_step, seat_steps, stays_by, steps_of, with_taken}
pub use Rattle.desk.specs.Noted.{HasCome, IsDone, IsMoved, NotedOf}
pub use Rattle.desk.specs.Seats.{IsAsked, SeatCoreOf, SeatOf, reserve_refusals, seeing, stepped}
pub use Rattle.desk.specs.Traces.{Begins, Fits, IsTrue, Kept, Known, Notes, bare, begun, given, holding, keeper, nobody, noted, own}
pub use Rattle.desk.specs.declared.passes.View.{View}
