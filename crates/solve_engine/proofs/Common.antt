-- The names that the proofs of `solve` use, imported in one place.
pub use Rattle.std.proofs.Common.{Bool, Err, IfSome, List, None, Ok, Option, Result, Some, [], ap, append-nil, append_assoc, ap₂, arith, eqb, false, inl, inr}
pub use Rattle.std.proofs.Common.{length, length-append, ltb, refl, rules, subst, suc, sym, true, w32, ℕ, ◌&&◌, ◌++◌, ◌==◌, ◌∙◌, ◌∷◌, ◌≡◌, ◌≢◌}
pub use Rattle.std.proofs.lemmas.Bool.{cases_Bool, eqb-false, eqb-true}
pub use Rattle.std.proofs.lemmas.Bool.Decides.{nat_tests}
pub use Rattle.std.proofs.lemmas.Int.{to_z-of_z}
unfoldable pub use Rattle.std.specs.Fmt.{digits}
pub use Rattle.std.specs.List.{concat}
pub use Rattle.std.specs.Prelude.{IsSome, OnOk, if◌then◌else◌, is_ok}
pub use mir.Val.{SFits}
pub use Rattle.jamboree_core.proofs.Serving.{core-serves, core-tenant, nobody-searches}
pub use Rattle.jamboree_core.proofs.sched_core_Stepping.{IsRunning, runs-on}
pub use Rattle.jamboree_core.proofs.sched_laws_Shaped.{by-kinds}
pub use Rattle.jamboree_core.specs.Outcomes.{AnswersTo, IsReplyOn}
pub use Rattle.jamboree_core.specs.Replies.{IsSearch}
pub use Rattle.jamboree_core.specs.Searching.{CoreSearches, ServesSearches, TenantSearches, origin_at}
pub use Rattle.jamboree_core.specs.declared.outcomes.Outcome.TheVariants.{Done}
pub use Rattle.jamboree_core.specs.jamboree.Replies.{board_of}
pub use Rattle.jamboree_core.specs.jamboree.declared.procedure.Jamboree.{Jamboree}
pub use Rattle.jamboree_core.specs.jamboree.declared.reply.Reply.{Reply}
pub use Rattle.jamboree_core.specs.jamboree_rules.Places.{root_words}
pub use Rattle.jamboree_core.specs.jamboree_rules.Procedure.{jamboree}
pub use Rattle.jamboree_core.specs.jamboree_rules.declared.leaf.Leaf.{Leaf}
pub use Rattle.jamboree_core.specs.jamboree_rules.declared.leaf.LeafAnswer.{LeafAnswer}
pub use Rattle.jamboree_core.specs.sched_laws.Fitted.{origins_after, submits}
pub use Rattle.line_io.proofs.ByFunction.{Run-function, Run-related, Run-written}
pub use Rattle.line_io.specs.Leads.{Answers, answering, between}
pub use Rattle.line_io.specs.Lines.{LineText, lines_of}
pub use Rattle.line_io.specs.Runs.{IsOutput, Run, answers_to, bytes_due, write_result}
pub use Rattle.line_io.specs.Streams.{ReadAnswer, WriteAnswer}
pub use Rattle.line_io.specs.Writes.{IsAnswered, with_newline, written_texts}
pub use Rattle.line_io.specs.declared.faults.LineFault.{LineFault}
pub use Rattle.line_io.specs.declared.faults.WriteFailed.{WriteFailed}
unfoldable pub use Rattle.othello_board.specs.Rules.{squares, squares_beside}
pub use Rattle.othello_board.specs.Words.{cells, cells_of}
unfoldable pub use Rattle.othello_eval.specs.Minimax.{best_choice, minimax}
unfoldable pub use Rattle.othello_eval.specs.Values.{weights}
unfoldable pub use Rattle.othello_moves.specs.Choices.{in_order}
pub use Rattle.jamboree_rules.specs.pool_rules.Turns.{offered, step_of}
pub use Rattle.jamboree_rules.specs.declared.pool_rules.turn.Action.{Action}
pub use Rattle.jamboree_rules.specs.declared.pool_rules.turn.Action.TheVariants.{Bring, Finish, Get, TakeIn}
pub use Rattle.jamboree_rules.specs.declared.pool_rules.turn.Holding.{Holding}
pub use Rattle.jamboree_rules.specs.declared.pool_rules.turn.Holding.TheVariants.{Computing, GivingUp, Next, Nothing}
pub use Rattle.protocol.specs.Texts.{error_text, value_text, visited_text}
pub use Rattle.sched_rules.proofs.Isolation.{IsTaken, shared-after-taken, step-taken}
pub use Rattle.sched_rules.proofs.Tenants.{tenant_in-with_outcome, tenant_in-other-with_outcome}
pub use Rattle.sched_rules.specs.Cores.{CoreOf, CoreState, shared_by_nobody, shared_with, tenant_in}
pub use Rattle.sched_rules.specs.Functions.{Functions}
pub use Rattle.sched_rules.specs.Headline.{AreNumbersGiven, IsOneStep}
pub use Rattle.sched_rules.specs.Lone.{Outcome, lone, lone_refusal, lone_step, refusal_in, submitted}
pub use Rattle.sched_rules.specs.Runs.{answer_of, tenant_of}
pub use Rattle.sched_rules.specs.Trees.{Tenant, admitted_with, left}
pub use Rattle.sched_rules.specs.declared.refusal.Refusal.{Refusal}
pub use Rattle.sched_rules.specs.declared.step.DidOf.{DidOf}
pub use Rattle.sched_rules.specs.declared.step.DidOf.TheVariants.{Admitted}
pub use Rattle.sched_rules.specs.declared.step.StepOf.{StepOf}
pub use Rattle.sched_rules.specs.declared.step.StepOf.TheVariants.{Admit, Steal, Submit, Take}
pub use Rattle.tenant_quota.specs.Reserves.{IsWithinLimits, ReserveOf}
pub use Rattle.solve_engine.specs.Asked.{HasAsked, HasReserved, HasRun, IsNewCore, IsWork, Keeps, Task, WorksOn}
pub use Rattle.solve_engine.specs.Solving.{IsSolvedLine, IsVisitedLine, OrderedRun, SolvedRun, answers_unless, question_answer, solve_line, solve_line_unless}
pub use Rattle.solve_engine.specs.Solving.{solve_out_unless, solved, solved_unless, solved_with_count}
