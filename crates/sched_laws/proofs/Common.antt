-- The names that the proofs of the core's laws use, imported in one place.
pub use Rattle.std.proofs.Common.{Bool, Err, List, None, Ok, Option, Result, Some, [], ap, append-nil, append_assoc, arith, eqb, false, inl, inr, length, length-append, ltb, not, refl, replicate, subst, suc, sym, true, ℕ, ◌&&◌, ◌*◌, ◌++◌, ◌+◌, ◌-◌, ◌<◌, ◌||◌, ◌↔◌, ◌∙◌, ◌∷◌, ◌≡◌, ◌≢◌, ◌≤◌, ◌⊎◌}
pub use Rattle.std.proofs.lemmas.Bool.{and_parts, cases_Bool, cases_eq, eq-eqb, eqb-false, eqb-true, false≢true, le-ltb, leb-false, leb-true, ltb-false, ne_eqb, not-false, not-true, or_cases, or_parts}
pub use Rattle.std.proofs.lemmas.List.{length-replicate, length-set, map-append, reverse-append}
pub use Rattle.std.proofs.lemmas.List.Elements.{filter-append}
pub use Rattle.std.proofs.lemmas.List.Sums.{sum_by-append, sum_by-cons}
pub use Rattle.std.specs.List.{filter}
pub use Rattle.std.specs.Prelude.{if◌then◌else◌, is_ok, ◌==◌}
pub use Rattle.frame_table.proofs.Forest.{has_frame-above, path_in-left, path_in-right}
pub use Rattle.frame_table.proofs.TreeChanges.{aborted-itself, aborted-leaf, filter-found, frame_at-filter, frame_at-stays, frame_at-without, frame_at-other-without, rising-filter, tree-aborted, tree-without, tree-without_job}
pub use Rattle.frame_table.proofs.TreeLaws.{IsTop, IsUnder, above-missing, below-found, children-by-paths, each-found, found-each, found-path, found-serial, found-there, frame_at-left, frame_at-push, frame_at-other-push, missing, named-under, placed, there-found, top-path, tree-rising, under-below, under-there}
pub use Rattle.frame_table.proofs.TreeValues.{AllBelow-alike, children_of-push, children_of-with_state, frame_at-other-with_state, new-frame-next, parent_of-path_under, path_in-alike, root-there, tree-alike, tree-push, tree-with_state, values_of-with_state, with_state-alike}
pub use Rattle.frame_table.specs.Frames.{AllBelow, Frame, IsNextFrame, IsTree, aborted, children_of, frame_at, frames_without, goes_under, has_frame, is_ready, new_frame, newest_ready_of, parent_of, path_in, root_of, values_of, with_state}
pub use Rattle.frame_table.specs.TreeLaws.{AreAlike, AreSerialsRising, Each, is_child_of, is_that}
pub use Rattle.frame_table.specs.declared.names.FrameId.{FrameId}
pub use Rattle.frame_table.specs.declared.names.State.{State}
pub use Rattle.frame_table.specs.declared.names.State.TheVariants.{Computing, Ready, Returned, Running}
pub use Rattle.sched_rules.proofs.Isolation.{above, found, shared-after-taken, step-taken}
pub use Rattle.sched_rules.proofs.Tenants.{known-number, tenant_in-with_outcome, tenant_in-other-with_outcome}
pub use Rattle.sched_rules.specs.Cores.{CoreState, accounts_in, admit_tests, charged_in, is_beyond, is_full, meets_busy, newest_after, reservations_in, reserved_by, shared_after, shared_by_nobody, shared_with, step_result, tenant_in, unless_beyond, unless_busy, with_outcome, with_tenant, without_tenant}
pub use Rattle.sched_rules.specs.Functions.{Functions}
pub use Rattle.sched_rules.specs.Headline.{AreAnswersTo, AreNumbersGiven, IsAnswerTo, after_answer, after_answers, is_admission, taken_steps}
pub use Rattle.sched_rules.specs.Laws.{AcceptKeeps, AllFit, Computes, EachFits, EveryFrameFits, Fitting, HasReturned, InletKeeps, Mark, Neither, NewChildFits, NextKeeps, ParentFits, Rooting, children_after, children_left, grown, has_one, mark_after, mark_of_state}
pub use Rattle.sched_rules.specs.Lone.{IsSpendable, Outcome, act_by_sight, act_tests, advance_tests, advanced, answer_tests, answered, applies, at_frame, counted, does_wait, ended, finish_tests, finished, holding, in_state, inlet_tests, inlet_under, is_bad_act, is_bad_inlet, is_bad_then, is_computed_by, is_frame_size, is_lower, is_returned, is_run, is_run_by, is_spawn, is_spendable, lone, lone_refusal, lone_step, opened, raised, refusal_in, segments_for, spent, staying, steal_tests, submit_tests, submitted, take_tests, taken_by, taken_in, then_done, unless}
pub use Rattle.sched_rules.specs.Runs.{alone_from, answer_of, answers_from, only, state_after, tenant_of}
pub use Rattle.sched_rules.specs.Trees.{Tenant, Tree, account_in, admitted_with, charged_for, frame_words, has_child, is_busy_in, is_live_at, is_outside, is_root, job_at, job_under, kept_words, left, number_from, sight, stored, with_ended, with_frame_words, without_job, words_in}
pub use Rattle.sched_rules.specs.Views.{free_in}
pub use Rattle.sched_rules.specs.cactus_stack.Nodes.{charge, growth_charge, padded}
pub use Rattle.sched_rules.specs.declared.act.Act.{Act}
pub use Rattle.sched_rules.specs.declared.act.Continuation.{Continuation}
pub use Rattle.sched_rules.specs.declared.act.Continuation.TheVariants.{Compute, Go, Grow, Return, Spawn, Wait}
pub use Rattle.sched_rules.specs.declared.act.InletAct.{InletAct}
pub use Rattle.sched_rules.specs.declared.job.Job.{Job}
pub use Rattle.sched_rules.specs.declared.job.Job.TheVariants.{Cancelled, Done, Live, Spent}
pub use Rattle.sched_rules.specs.declared.refusal.Refusal.{Refusal}
pub use Rattle.sched_rules.specs.declared.refusal.Refusal.TheVariants.{BadAct, Busy, Lower, NoSteps, NoTenant, NotReturned, NotRunning, NotSpent, OldTenant}
pub use Rattle.sched_rules.specs.declared.step.DidOf.{DidOf}
pub use Rattle.sched_rules.specs.declared.step.DidOf.TheVariants.{Admitted, Submitted}
pub use Rattle.sched_rules.specs.declared.step.StepOf.{StepOf}
pub use Rattle.sched_rules.specs.declared.step.StepOf.TheVariants.{Admit, AdmitMore, Advance, Answer, Cancel, Finish, Inlet, Leave, Spend, Steal, Submit, Take}
pub use Rattle.tenant_quota.specs.Accounts.{IsWithinReserve}
pub use Rattle.tenant_quota.specs.Reserves.{IsWithinLimits, ReserveOf}
pub use Rattle.tenant_quota.specs.declared.account.Account.{Account}
pub use Rattle.sched_laws.specs.Ended.{HasEnded, KeepsEnded}
pub use Rattle.sched_laws.specs.Fitted.{CoreFits, JobFits, JobsFit, RootFits, RootsFit, StaysFitting, TenantFits, origins_after, origins_of, submits}
pub use Rattle.sched_laws.specs.Newest.{IsNewestReady}
pub use Rattle.sched_laws.specs.Shapes.{AreLiveRootsThere, AreMarkedChildless, AreRootsLive, AreShaped, HaveWords, IsCovered, IsReservedWithin, IsRootThere, IsShaped, live_count}
pub use Rattle.sched_laws.specs.Spends.{IsActRefusal, IsBadInlet, IsStuck, MayBeSpent}
