-- The names that the core's proofs use, imported in one place.
pub use Rattle.std.proofs.Common.{drop, take, vec_len, ◌==◌}
pub use Rattle.std.proofs.Math.Bool.{or-false}
pub use Rattle.std.proofs.lemmas.Bool.Decides.{nat_tests}
pub use Rattle.std.proofs.lemmas.List.{take_more}
pub use Rattle.std.proofs.lemmas.Result.{err_from_is_err_and}
pub use Rattle.std.specs.Prelude.{IfSome, IsSome, MatchResult, OnErr, OnOk, if◌then◌else◌, is_err, is_some, not, option_and_then, replicate, ◌&&◌}
pub use Rattle.std.specs.Prelude.{◌||◌}
pub use Rattle.std.specs.Result.{result_err}
pub use Rattle.std.specs.Vec.{vec_capacity}
pub use Rattle.frame_table.proofs.TreeChanges.{child-under-parent}
pub use Rattle.frame_table.proofs.TreeLaws.{tree-induction}
pub use Rattle.frame_table.specs.Frames.{name_of}
pub use Rattle.frame_table.specs.declared.names.State.TheVariants.{Waiting}
pub use Rattle.sched_laws.proofs.Common.{[], Act, Admit, AdmitMore, Admitted, Advance, AllFit, Answer, AreAnswersTo, AreLiveRootsThere, AreNumbersGiven, AreShaped}
pub use Rattle.sched_laws.proofs.Common.{BadAct, Bool, Busy, Cancel, Cancelled, Compute, Computing, Continuation, CoreFits, CoreState, DidOf, Done, Each, Err}
pub use Rattle.sched_laws.proofs.Common.{EveryFrameFits, Finish, Fitting, FrameId, Functions, Go, Grow, Inlet, InletAct, IsAnswerTo, IsShaped, IsTop}
pub use Rattle.sched_laws.proofs.Common.{IsTree, IsUnder, Job, List, Live, NoSteps, None, NotReturned, NotRunning, NotSpent, Ok, Option}
pub use Rattle.sched_laws.proofs.Common.{Outcome, Ready, Refusal, ReserveOf, Result, Return, Returned, RootFits, Rooting, RootsFit, Running, Some, Spawn, Spend}
pub use Rattle.sched_laws.proofs.Common.{Spent, State, Steal, StepOf, Submit, Take, Tenant, Tree, Wait, aborted, aborted-itself, aborted-leaf, above}
pub use Rattle.sched_laws.proofs.Common.{act_tests, advance_tests, advanced, after_answer, after_answers}
pub use Rattle.sched_laws.proofs.Common.{answer_tests, answered, append-nil, append_assoc, arith, below-found, charged_for}
pub use Rattle.sched_laws.proofs.Common.{counted, does_wait, ended, eq-eqb, false, finish_tests, finished, found-each, found-serial, found-there, frame_at}
pub use Rattle.sched_laws.proofs.Common.{frame_at-other-without, frames_without, goes_under, has_child, has_frame, holding, in_state, inl, inlet_tests, inr}
pub use Rattle.sched_laws.proofs.Common.{is_admission, is_beyond, is_busy_in, is_computed_by, is_ok, is_outside, is_ready}
pub use Rattle.sched_laws.proofs.Common.{is_returned, is_root, is_run_by, is_spendable, job_at, job_under, kept_words, left, length, mark_of_state}
pub use Rattle.sched_laws.proofs.Common.{newest_ready_of, not-false, number_from, only, opened, origins_after, origins_of, parent_of, raised, refl}
pub use Rattle.sched_laws.proofs.Common.{refusal_in, reservations_in, reserved_by, root_of, segments_for, shared-after-taken, shared_by_nobody}
pub use Rattle.sched_laws.proofs.Common.{shared_with, sight, spent, staying, steal_tests, step-taken, step_result, stored, submit_tests, submitted, sym}
pub use Rattle.sched_laws.proofs.Common.{take_tests, taken_by, taken_in, taken_steps, tenant_in, then_done, there-found, tree-rising, true, under-below}
pub use Rattle.sched_laws.proofs.Common.{under-there, unless, unless_busy, with_frame_words, with_outcome, with_tenant, without_tenant, words_in, ℕ, ◌++◌, ◌+◌}
pub use Rattle.sched_laws.proofs.Common.{◌<◌, ◌∙◌, ◌∷◌, ◌≡◌, ◌≢◌, ◌≤◌, ◌⊎◌}
pub use Rattle.sched_laws.proofs.Consequences.{live-root, returned-leaf, root-above, shaped-in, shaped_answer}
pub use Rattle.sched_laws.proofs.FitAnswers.{answer-keeps, run-fits}
pub use Rattle.sched_laws.proofs.Fits.{FitsSomehow, IsLawful, sight-top, sight-under}
pub use Rattle.sched_laws.proofs.Holds.{F, charged-with_frame_words, children_of-with_frame_words, fits-holds, frame_at-with_frame_words, kids}
pub use Rattle.sched_laws.proofs.Holds.{length-with_frame_words, no-frame}
pub use Rattle.sched_laws.proofs.Latest.{newest-found}
pub use Rattle.sched_laws.proofs.Shaped.{AllPass}
pub use Rattle.sched_laws.proofs.Sums.{free-whole, left-nodes, left-steps, reserved-answer}
pub use Rattle.sched_rules.proofs.Isolation.{headline, right-answer}
pub use Rattle.sched_rules.proofs.StoreLemmas.{length-stored}
pub use Rattle.sched_rules.proofs.Tenants.{tenant_in-new, tenant_in-with_tenant}
pub use Rattle.sched_rules.specs.Changes.{ending_job, on_tenant, with_change, with_job, with_reserve, without_frame, without_under}
pub use Rattle.sched_rules.specs.Cores.{is_busy_elsewhere, shared_refusal}
pub use Rattle.sched_rules.specs.Headline.{IsHeadline, IsOneStep}
pub use Rattle.sched_rules.specs.Lone.{aborted_beside, is_ready_at, is_waiting}
pub use Rattle.sched_rules.specs.Trees.{is_held_by}
pub use Rattle.sched_rules.specs.Views.{frame_in_core, job_of, left_in_core, named, newest_ready_in}
pub use Rattle.sched_rules.specs.declared.refusal.Refusal.TheVariants.{Mismatch, NoFrame, NotComputing, NotHere, NotReady, OutOfMemory}
pub use Rattle.sched_rules.specs.declared.step.DidOf.TheVariants.{AdmittedMore, Grew, Spawned, TakenIn, Waited, Went}
pub use Rattle.sched_store.specs.Changes.{with_admitted}
pub use Rattle.sched_store.specs.Reads.{AreAfter, AreTenantsRising, IsAboveOwn, TenantHasStepLeft, frames_in_core, is_busy_among, may_hold, serials_in}
pub use Rattle.sched_store.specs.Reads.{sight_of, words_under}
pub use Rattle.tenant_quota.specs.declared.account.Left.{Left}
pub use Rattle.sched_core.specs.Keeping.{IsFitting, IsKeptCore, IsKeptFitting, IsNewestReadyOf, IsRestOf}
pub use Rattle.sched_core.specs.Seeing.{GoesOn, IsReturnedUnder, IsRunning, IsSeen, MayBeTakenIn, missing}
pub use Rattle.sched_core.specs.StepResults.{FollowsResult, IsAdmitted, IsCome, staying_with}
pub use Rattle.sched_core.specs.declared.engine.Seen.{Seen}
