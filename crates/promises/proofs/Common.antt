-- The names that the promises' proofs use, imported in one place.
pub use Rattle.std.proofs.Common.{Bool, Err, List, None, Ok, Option, Result, Some, [], ap, arith, false, inl, inr, length, map, refl, rules, subst, sym, true}
pub use Rattle.std.proofs.Common.{w32, ℕ, ℤ, ◌++◌, ◌-◌, ◌==◌, ◌∙◌, ◌∷◌, ◌≡◌, ◌≢◌, ◌≤◌, ◌⊎◌}
pub use Rattle.std.proofs.lemmas.Bool.Decides.{nat_tests}
pub use Rattle.std.proofs.lemmas.Int.{to_z-of_z}
pub use Rattle.std.proofs.lemmas.Option.{get_or_from_slice_get, slice_get-map, slice_get_within}
pub use Rattle.std.specs.Prelude.{IfOk, IfSome, get_or, if◌then◌else◌, is_ok, not, slice_get, slice_index, ◌&&◌, ◌||◌}
pub use Rattle.hall.specs.Halls.{Explains, HallOf, IsExplained}
pub use Rattle.hall.specs.Journals.{journal_in}
pub use Rattle.jamboree_core.proofs.Serving.{searches-asked}
pub use Rattle.jamboree_core.specs.Outcomes.{AnswersTo}
pub use Rattle.jamboree_core.specs.Replies.{AreRootWords, AreSearches}
pub use Rattle.jamboree_core.specs.Searching.{AreAllRootWords, origin_at}
pub use Rattle.jamboree_core.specs.declared.outcomes.Outcome.TheVariants.{Done}
pub use Rattle.jamboree_core.specs.jamboree.Replies.{board_of, depth_of}
pub use Rattle.jamboree_core.specs.jamboree.declared.reply.Reply.{Reply}
pub use Rattle.jamboree_core.specs.jamboree_rules.Procedure.{jamboree}
pub use Rattle.jamboree_core.specs.sched_laws.Fitted.{origins_of}
pub use Rattle.othello_board.specs.Words.{cells_of}
pub use Rattle.othello_board.specs.declared.cells.Cell.{Cell}
pub use Rattle.othello_eval.specs.Minimax.{best_choice, minimax}
pub use Rattle.othello_eval.specs.Tables.{IsExactIfBest, IsTable, IsTrueBound, entered}
pub use Rattle.othello_eval.specs.declared.bound.Bound.{Bound}
pub use Rattle.othello_eval.specs.othello_moves.declared.choices.Choice.{Choice}
pub use Rattle.othello_eval.specs.othello_moves.Depths.{greatest_depth}
pub use Rattle.promises.specs.Replies.{IsAskedBy, IsEntryOfSubmit, IsValueOfSubmit, SearchStep}
pub use Rattle.promises.specs.Tenants.{AreAdmissionsTaken, AreRefusedForThese, IsForBusyWorker, IsForOwnState, free_worker, own_steps, stands}
pub use Rattle.sched_rules.proofs.Isolation.{headline, shared-after-taken, step-taken}
pub use Rattle.sched_rules.proofs.Tenants.{tenant_in-with_outcome, tenant_in-other-with_tenant, tenant_in-other-without_tenant}
pub use Rattle.sched_rules.specs.Cores.{CoreState, is_busy_elsewhere, meets_busy, shared_after, shared_by_nobody, step_result, tenant_in, with_outcome}
pub use Rattle.sched_rules.specs.Cores.{with_tenant, without_tenant}
pub use Rattle.sched_rules.specs.Functions.{Functions}
pub use Rattle.sched_rules.specs.Headline.{AreAnswersTo, AreNumbersGiven, IsAnswerTo, IsAnswerToStep, IsHeadline, after_answer, after_answers, is_admission}
pub use Rattle.sched_rules.specs.Headline.{own_answers, taken_steps}
pub use Rattle.sched_rules.specs.Lone.{Outcome, lone, lone_refusal, refusal_in}
pub use Rattle.sched_rules.specs.Runs.{alone_from, answer_of, answers_from, only, state_after, tenant_of}
pub use Rattle.sched_rules.specs.Trees.{Tenant, is_busy_in}
pub use Rattle.sched_rules.specs.declared.refusal.Refusal.{Refusal}
pub use Rattle.sched_rules.specs.declared.refusal.Refusal.TheVariants.{Busy}
pub use Rattle.sched_rules.specs.declared.step.DidOf.{DidOf}
pub use Rattle.sched_rules.specs.declared.step.StepOf.{StepOf}
pub use Rattle.sched_rules.specs.declared.step.StepOf.TheVariants.{Finish, Inlet, Steal, Take}
pub use Rattle.tenant_quota.specs.Reserves.{ReserveOf}
pub use mir.Val.{SFits}
