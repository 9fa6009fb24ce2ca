-- The names that the hall's proofs use, imported in one place.
pub use Rattle.std.proofs.Common.{Bool, Err, List, None, Ok, Option, Result, Some, [], ap, append-nil, arith, eqb, false, inl, inr, length}
pub use Rattle.std.proofs.Common.{length-append, refl, rules, subst, sym, true, ℕ, ◌*◌, ◌++◌, ◌+◌, ◌<◌, ◌^◌, ◌||◌, ◌∙◌, ◌∷◌, ◌≡◌, ◌≢◌, ◌≤◌}
pub use Rattle.std.proofs.lemmas.Bool.{cases_Bool, eq-eqb, eqb-false, eqb-true, false≢true, ne_eqb, true≢false}
pub use Rattle.std.proofs.lemmas.Bool.Decides.{nat_tests}
pub use Rattle.std.specs.Prelude.{OnOk, if◌then◌else◌, is_ok, nat_le, nat_lt, ◌==◌}
pub use Rattle.frame_table.specs.Frames.{path_in}
pub use Rattle.jamboree_core.proofs.Answering.{answer_count, journal-answers, one_if_answer}
pub use Rattle.jamboree_core.proofs.JournalLemmas.{journal-begins, journal-goes-on, journal-searches, others-stay}
pub use Rattle.jamboree_core.proofs.Possible.{IsOfSearches, tenant-none-bad}
pub use Rattle.jamboree_core.proofs.sched_core_Stepping.{one-step}
pub use Rattle.jamboree_core.proofs.sched_laws_Consequences.{live-root, root-above, step-ended}
pub use Rattle.jamboree_core.proofs.sched_laws_Parts.{length-with_ended}
pub use Rattle.jamboree_core.proofs.sched_laws_Shaped.{admitted-shaped, by-kinds, came, frame-found, step-shaped, unless-passed}
pub use Rattle.jamboree_core.specs.Journals.{AreTakenFrom, IsJournalOf, StaysTaken}
pub use Rattle.jamboree_core.specs.Outcomes.{AnswersTo, IsOutcomeIn}
pub use Rattle.jamboree_core.specs.Replies.{AreSearches, IsSearch}
pub use Rattle.jamboree_core.specs.Searching.{ServesSearches, TenantSearches, origin_at}
pub use Rattle.jamboree_core.specs.jamboree_rules.Procedure.{jamboree}
pub use Rattle.jamboree_core.specs.jamboree_rules.declared.leaf.Leaf.{Leaf}
pub use Rattle.jamboree_core.specs.jamboree_rules.declared.leaf.LeafAnswer.{LeafAnswer}
pub use Rattle.jamboree_core.specs.sched_laws.Ended.{HasEnded}
pub use Rattle.jamboree_core.specs.sched_laws.Fitted.{origins_of, submits}
pub use Rattle.jamboree_core.specs.sched_laws.Shapes.{AreRootsLive, IsShaped, live_count}
pub use Rattle.numbered_list.proofs.Edits.{all-map, all-of, all-push, all-with, all-without, has-above, length-with}
pub use Rattle.numbered_list.proofs.Edits.{length-without, put-changed, put-same, rising-push, rising-with, rising-without, said-found, said-lacks, said-with-other}
pub use Rattle.numbered_list.proofs.Edits.{said-with-own, said-without-other, said-without-own, thing-own, thing-there, thing-with}
pub use Rattle.numbered_list.specs.Places.{AreRising, find_by_number, inserted}
pub use Rattle.sched_rules.proofs.Isolation.{more-there, shared-after-taken, step-taken, there}
pub use Rattle.sched_rules.proofs.Tenants.{tenant_in-other-without_tenant, tenant_in-with_outcome}
pub use Rattle.sched_rules.specs.Cores.{CoreState, accounts_in, newest_after, shared_by_nobody, shared_refusal, tenant_in, unless_beyond, without_tenant}
pub use Rattle.sched_rules.specs.Functions.{Functions}
pub use Rattle.sched_rules.specs.Headline.{AreNumbersGiven, IsAnswerTo, IsOneStep}
pub use Rattle.sched_rules.specs.Lone.{Outcome, ended, lone, lone_step, refusal_in, unless}
pub use Rattle.sched_rules.specs.Runs.{alone_from, state_after, tenant_of}
pub use Rattle.sched_rules.specs.Trees.{Tenant, Tree, admitted_with, job_at, with_ended}
pub use Rattle.sched_rules.specs.Views.{job_of}
pub use Rattle.sched_rules.specs.declared.job.Job.{Job}
pub use Rattle.sched_rules.specs.declared.job.Job.TheVariants.{Live}
pub use Rattle.sched_rules.specs.declared.refusal.Refusal.{Refusal}
pub use Rattle.sched_rules.specs.declared.refusal.Refusal.TheVariants.{BadAct, Full, OldTenant}
pub use Rattle.sched_rules.specs.declared.step.DidOf.{DidOf}
pub use Rattle.sched_rules.specs.declared.step.StepOf.{StepOf}
pub use Rattle.sched_rules.specs.declared.step.StepOf.TheVariants.{Admit, AdmitMore, Answer, Cancel, Leave, Submit}
pub use Rattle.tenant_quota.specs.Reserves.{IsWithinLimits, ReserveOf}
pub use Rattle.hall.specs.Entries.{is_long, is_long_step, long_count, long_step, long_steps, serial_in, short_steps, steps_in}
pub use Rattle.hall.specs.Halls.{Explains, HallOf, IsExplained, IsHall, KeepsEndedJobs, empty_hall, hall_after, lets_go}
pub use Rattle.hall.specs.Journals.{AreBegun, AreUpTo, IsBegun, JournalOf, admitted_journal, has_journal, is_appended, journal_in}
pub use Rattle.hall.specs.Journals.{longer, longs_for, longs_in, longs_with, newer, one_for, owner_of_journal, places_for, places_in, places_with, raise_count}
pub use Rattle.hall.specs.Journals.{raise_in, reserve_in, reserved_after, reserved_in, total_length, with_step, without_journal}
pub use Rattle.hall.specs.Uses.{ended_count, uses}
pub use Rattle.hall.specs.declared.entry.JournalEntry.{JournalEntry}
pub use Rattle.hall.specs.declared.entry.JournalEntry.TheVariants.{Long}
pub use Rattle.hall.specs.declared.entry.LongEntry.{LongEntry}
pub use Rattle.hall.specs.declared.entry.LongEntry.TheVariants.{Raised}
