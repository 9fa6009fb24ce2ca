-- The names that the proofs of searches on a core use, imported in one place.
pub use Rattle.std.proofs.Common.{bit_and, negsuc, length-append, ⊎_elim}
pub use Rattle.std.proofs.lemmas.Int.{ints, clamps}
pub use Rattle.std.proofs.lemmas.List.{get_or-set_other, get_or-set_same, get_or-map, length-replicate, length-map}
pub use Rattle.std.proofs.lemmas.List.Elements.{All-from_recursion, All-from_get_or, All-get_or}
pub use Rattle.std.specs.Prelude.{drop, int_le, int_lt, nat_le, nat_lt, neg_ℤ, slice_index, slice_set, ◌-◌, IfSome, IsSome, count_by, map, max, min, pos}
pub use Rattle.std.specs.Prelude.{slice_index_or, suc, sum_by, zero, ℤ, ◌*◌, ◌+ℤ◌, ◌<ℤ◌, ◌^◌, ◌↔◌, ◌≤ℤ◌}
pub use Rattle.jamboree.specs.Replies.{table_of}
pub use Rattle.jamboree.specs.declared.procedure.Jamboree.{Jamboree}
pub use Rattle.jamboree.specs.declared.reply.Reply.{Reply}
pub use Rattle.jamboree_rules.proofs.EvalLemmas.TableLemmas.{apart}
pub use Rattle.jamboree_rules.proofs.Keeping.{inlet-keeps, inlet-possible, next-keeps, next-possible, IsBoardOf, StandsUnder, frame_after, frame_by, inlet-is}
pub use Rattle.jamboree_rules.proofs.Keeping.{inlet-stores, kin-of, next-goes, other-told, test-told}
pub use Rattle.jamboree_rules.proofs.Rooted.{accept-keeps, accept-possible, fits_sound, root-kept, root-whole, root_fits, root_value, accepts-is, answer-good}
pub use Rattle.jamboree_rules.proofs.Rooted.{answered_frame}
pub use Rattle.jamboree_rules.specs.Acts.{act_by, changes_by, changes_of, first_open, first_search, inlet_act, next_act, opening_under, parent_in, seen, tests}
pub use Rattle.jamboree_rules.specs.Acts.{spawns}
pub use Rattle.jamboree_rules.specs.Entries.{bounds_of}
pub use Rattle.jamboree_rules.specs.Fits.{AreFitting, IsRoot, AreChildren, IsAgain, IsChildOf, IsFirst, IsInRole, IsSearchingFrame, IsTest, how_many}
pub use Rattle.jamboree_rules.specs.Frames.{board, coded, floor, is_frame, may_be_child, phase_computing, phase_done, phase_first, phase_new, phase_tests}
pub use Rattle.jamboree_rules.specs.Frames.{rest_at, role_test, status_failed, status_runs, status_runs_again, choice_at, least, role_root, status_settled}
pub use Rattle.jamboree_rules.specs.Frames.{Frame}
pub use Rattle.jamboree_rules.specs.Leaves.{accepts, changes_of_answer}
pub use Rattle.jamboree_rules.specs.Places.{Best, Change, Chosen, Count, OppBits, OwnBits, Phase, Spawned, Status, are_entries, entry_of, frame_of, is_formed}
pub use Rattle.jamboree_rules.specs.Places.{is_placed, pair_of, pairs_of, root_words, word_of, frame_size}
pub use Rattle.jamboree_rules.specs.Procedure.{jamboree}
pub use Rattle.jamboree_rules.specs.declared.leaf.Leaf.{Leaf}
pub use Rattle.jamboree_rules.specs.declared.leaf.LeafAnswer.{LeafAnswer}
pub use Rattle.jamboree_rules.specs.othello_eval.Rows.{entry, equal_moves}
pub use Rattle.jamboree_rules.specs.othello_eval.Tables.{IsExactIfBest, IsTable, IsTrueBound}
pub use Rattle.jamboree_rules.specs.othello_eval.declared.bound.Bound.{Bound}
pub use Rattle.jamboree_rules.specs.othello_eval.declared.bound.BoundKind.{BoundKind}
pub use Rattle.jamboree_rules.specs.othello_eval.declared.bound.BoundKind.TheVariants.{Exact, High, Low}
pub use Rattle.othello_board.specs.Words.{cells_of}
pub use Rattle.othello_board.specs.declared.cells.Cell.{Cell}
pub use Rattle.othello_moves.specs.declared.choices.Choice.TheVariants.{Square, Pass}
pub use Rattle.sched_core.proofs.Common.{F, IsHeadline, IsLawful, IsOneStep, OnOk, OutOfMemory, Waiting, fits-holds, if◌then◌else◌, job_of, kids, nat_tests}
pub use Rattle.sched_core.proofs.Common.{option_and_then, run-fits, shaped-in, shared_refusal, tenant_in-new, ◌&&◌}
pub use Rattle.sched_laws.proofs.Common.{Act, Admit, AdmitMore, Admitted, Advance, Answer, AreAnswersTo, AreNumbersGiven, AreSerialsRising, AreShaped, BadAct}
pub use Rattle.sched_laws.proofs.Common.{Bool, Busy, Cancel, Cancelled, Compute, Computes, Computing, Continuation, CoreFits, CoreState, DidOf, Done, EachFits}
pub use Rattle.sched_laws.proofs.Common.{Err, Finish, FrameId, Functions, Go, Grow, HasReturned, Inlet, IsAnswerTo, IsShaped, IsTree, Job, JobFits}
pub use Rattle.sched_laws.proofs.Common.{JobsFit, Leave, List, Live, Lower, Mark, Neither, NoTenant, None, NotSpent, Ok, OldTenant, Option, Outcome, ParentFits}
pub use Rattle.sched_laws.proofs.Common.{Ready, Refusal, ReserveOf, Result, Return, Returned, RootFits, RootsFit, Running, Some, Spawn, Spend, Spent, State, Steal}
pub use Rattle.sched_laws.proofs.Common.{StepOf, Submit, Take, Tenant, TenantFits, Tree, Wait, [], aborted, above-missing, act_by_sight, admitted_with, left}
pub use Rattle.sched_laws.proofs.Common.{advance_tests, advanced, after_answers, alone_from, and_parts, answer_of, answer_tests, answered, ap, append-nil}
pub use Rattle.sched_laws.proofs.Common.{append_assoc, arith, at_frame, cases_Bool, children_of, counted, does_wait, ended, eq-eqb, eqb, eqb-true, false}
pub use Rattle.sched_laws.proofs.Common.{false≢true, filter, finish_tests, found-serial, frame_at, goes_under, grown, has_child, holding, inl, inlet_tests}
pub use Rattle.sched_laws.proofs.Common.{inlet_under, inr, is_bad_act, is_beyond, is_computed_by, is_lower, is_ok, is_outside, is_returned, is_run_by, charge}
pub use Rattle.sched_laws.proofs.Common.{is_spendable, is_that, job_at, kept_words, length, length-set, lone, lone_step, mark_of_state, meets_busy, named-under}
pub use Rattle.sched_laws.proofs.Common.{new_frame, not, not-false, only, origins_after, origins_of, padded, parent_of, raised, refl, refusal_in, replicate}
pub use Rattle.sched_laws.proofs.Common.{reservations_in, reserved_by, rising-filter, root_of, shared-after-taken, shared_by_nobody, shared_with, sight}
pub use Rattle.sched_laws.proofs.Common.{state_after, staying, steal_tests, step-taken, step_result, stored, submits, subst, sym, take_tests, taken_in}
pub use Rattle.sched_laws.proofs.Common.{taken_steps, tenant_in, tenant_in-with_outcome, tenant_in-other-with_outcome, tenant_of, then_done, there-found}
pub use Rattle.sched_laws.proofs.Common.{tree-rising, true, under-there, unless, unless_beyond, values_of, values_of-with_state, with_frame_words, with_state}
pub use Rattle.sched_laws.proofs.Common.{words_in, ℕ, ◌++◌, ◌+◌, ◌<◌, ◌==◌, ◌||◌, ◌∙◌, ◌∷◌, ◌≡◌, ◌≢◌, ◌≤◌, ◌⊎◌, Each, Fitting, Rooting, aborted-itself}
pub use Rattle.sched_laws.proofs.Common.{children-by-paths, filter-found, finished, found-each, found-there, frame_at-left, frame_words, frames_without}
pub use Rattle.sched_laws.proofs.Common.{has_frame, in_state, is_child_of, is_ready, opened, parent_of-path_under, placed, submitted, sum_by-append, InletAct}
pub use Rattle.sched_laws.proofs.Common.{tree-aborted, tree-with_state, tree-without, tree-without_job, without_job, IsWithinLimits, cases_eq, charged_for}
pub use Rattle.sched_laws.proofs.Common.{has_one, is_lower, is_spawn, sum_by-cons}
pub use Rattle.sched_laws.proofs.Consequences.{lone-shaped}
pub use Rattle.sched_laws.proofs.FitAnswers.{nobody-fits, step-fits}
pub use Rattle.sched_laws.proofs.FitSteps.{computes-marked, has-returned}
pub use Rattle.sched_laws.proofs.Fits.{LeftFits, has-one, has-origin, kept-above, parent-neither, sight-head, with_frame_words-twice, words-found}
pub use Rattle.sched_laws.proofs.Fits.{fits-marked, sight-top, sight-under, words-other, words-own, words-with_state}
pub use Rattle.sched_laws.proofs.Holds.{Lists, among-kids, found-same, with_frame_words-missing, charged-append, charged-one, charged-with_frame_words}
pub use Rattle.sched_laws.proofs.Holds.{children_of-with_frame_words, found-own, frame_at-with_frame_words, tree-with_frame_words}
pub use Rattle.sched_laws.proofs.Shaped.{LeftShaped, admitted-shaped, by-effects, came, frame-found, returned-childless, run-free, staying-parent, step-shaped}
pub use Rattle.sched_laws.proofs.Shaped.{unless-passed, AllPass, returned-marked}
pub use Rattle.sched_rules.specs.Headline.{IsAnswerToAdmit, IsAnswerToStep}
pub use Rattle.sched_rules.specs.Lone.{cancelled, first_step, act_tests, applies, is_bad_inlet, is_bad_then, is_frame_size, is_run, lone_refusal, taken_by}
pub use Rattle.sched_rules.specs.Lone.{segments_for}
pub use Rattle.jamboree_core.specs.Journals.{AreTakenFrom, IsJournalOf, StaysTaken}
pub use Rattle.jamboree_core.specs.NewRuns.{IsHeadlineFromNew, submitted_by}
pub use Rattle.jamboree_core.specs.Outcomes.{AnswersTo, IsOfSearch, IsOutcomeIn, IsOutcomeOf, IsTo}
pub use Rattle.jamboree_core.specs.Replies.{AreAllSound, AreReplies, AreRootWords, AreSearches, HoldsReply, IsReplyTo, IsSearch}
pub use Rattle.jamboree_core.specs.Rows.{admitted_then, asked, asked_once, few, kept, submit_of}
pub use Rattle.jamboree_core.specs.Searching.{AreAllRootWords, CoreSearches, HoldsReplies, IsHeadlineInFull, ServesSearches, TenantSearches, origin_at}
pub use Rattle.jamboree_core.specs.Searching.{submitted_to}
pub use Rattle.jamboree_core.specs.declared.outcomes.Outcome.TheVariants.{Pending}
pub use Rattle.cactus_stack.proofs.LawFacts.{length-padded}
pub use Rattle.frame_table.proofs.TreeChanges.{child-under-parent}
pub use Rattle.jamboree_core.specs.Enough.{EachFindsEnough, FindsEnough, HasEnough, board_nodes, board_segments, choices_within, most_choices, search_nodes}
pub use Rattle.jamboree_core.specs.Enough.{search_segments, spawning_plies}
pub use Rattle.jamboree_core.specs.Needs.{Cost, HasNodes, HasNodesToo, IsEnough, StillHasNodes, again_cost, choice_costs, choice_of, enough_nodes}
pub use Rattle.jamboree_core.specs.Needs.{first_costs, frame_cost, is_narrow, later_cost, later_costs, new_cost, root_cost, search_cost, still_opens}
pub use Rattle.jamboree_core.specs.Paces.{HasSteps, turns_in, turns_of}
pub use Rattle.jamboree_core.specs.Sizes.{HasSegments, HasSegmentsToo, IsRoomy, Size, StillHasSegments, choice_sizes, enough_segments, frame_size_of}
pub use Rattle.jamboree_core.specs.Sizes.{root_weight, sizes_over}
pub use Rattle.jamboree_core.specs.Sums.{EachFindsRoom, EachFindsSums, FindsRoom, FindsSums, HasSums, asked_nodes, asked_segments, nodes_of_all}
pub use Rattle.jamboree_core.specs.Sums.{segments_of_live, sum_of_live}
pub use Rattle.jamboree_core.specs.Turns.{extra_turns}
pub use Rattle.jamboree_core.specs.Weights.{IsPaid, IsPaidToo, IsStillPaid, Weight, parent_words, weight_among, weight_in}
pub use Rattle.jamboree_rules.proofs.ActCases.{by-acts}
pub use Rattle.jamboree_rules.proofs.Forms.{AreSafe, IsFormed, IsInSearch, changed_by, formed-told, frame-stored, written}
pub use Rattle.jamboree_rules.proofs.Kinship.{in-search, with_place}
pub use Rattle.jamboree_rules.proofs.Searching.{not-le-told, set-beside, set-there}
pub use Rattle.jamboree_rules.proofs.Steps.{child-frame, frames, new_child, new_words, opened-is, opened_frame, rest-there, status-count}
pub use Rattle.othello_board.specs.Rules.{exchanged, is_nil, is_opp_cell, is_own_cell, played}
pub use Rattle.othello_moves.proofs.AllowedLemmas.{choices_allowed}
pub use Rattle.othello_moves.proofs.FewLemmas.{board-parts, count-own, count-squares, exchanged-empty, few-choices, legal-empty, legal-opposing, played-fewer}
pub use Rattle.othello_moves.specs.Choices.{IsAllowed, after, choices, empty_squares, legal_squares, opposing_discs, plies}
pub use Rattle.othello_moves.specs.declared.choices.Choice.{Choice}
pub use Rattle.sched_laws.proofs.Parts.{has_child-with_frame_words}
pub use Rattle.sched_rules.proofs.StoreLemmas.{length-stored}
pub use Rattle.sched_rules.specs.Laws.{AcceptKeeps, AllFit, InletKeeps, NewChildFits, NextKeeps, children_after, children_left}
pub use Rattle.sched_rules.specs.declared.refusal.Refusal.TheVariants.{NoFrame, NoNodes}
pub use Rattle.std.proofs.lemmas.Bool.{cases_lt, le-ltb, leb-true, ltb-false, ne_eqb, or_from, or_parts}
pub use Rattle.std.proofs.lemmas.Grind.{common_steps}
pub use Rattle.std.proofs.lemmas.List.Sums.{sum_by-le, sum_by-le-sum_by}
pub use Rattle.std.proofs.lemmas.Nat.{mul-le}
pub use Rattle.std.specs.Ordering.{int_eq}
unfoldable pub use Rattle.jamboree_rules.specs.othello_eval.Minimax.{best_choice, minimax}
unfoldable pub use Rattle.jamboree_rules.specs.othello_eval.Values.{weights}
unfoldable pub use Rattle.othello_board.specs.Rules.{squares, squares_beside}
unfoldable pub use Rattle.othello_moves.specs.Choices.{in_order}
