-- The names that the proofs of the promises' uses take, imported in one place.
pub use Rattle.std.proofs.Common.{Bool, Err, List, None, Ok, Option, Result, Some, [], ap, append-nil, append_assoc, arith, codes, decimal, false, inl, inr}
pub use Rattle.std.proofs.Common.{length, map, refl, subst, sym, true, ℕ, ℤ, ◌++◌, ◌-◌, ◌<◌, ◌==◌, ◌∙◌, ◌∷◌, ◌≡◌, ◌≢◌, ◌≤ℤ◌, ◌≤◌, ◌⊎◌}
pub use Rattle.std.proofs.lemmas.Bool.{false≢true}
pub use Rattle.std.proofs.lemmas.Bool.Decides.{nat_tests}
pub use Rattle.std.proofs.lemmas.List.Sums.{sum_by-cons}
pub use Rattle.std.specs.List.{concat}
pub use Rattle.std.specs.Prelude.{IfErr, IfSome, MatchResult, OnOk, if◌then◌else◌, option_map, ◌+◌}
pub use Rattle.desk.specs.Histories.{AreTaken, IsToldOf, IsTrueTo, Saw, core_at, seat_steps, steps_of}
pub use Rattle.desk.specs.Seats.{IsAsked, SeatOf, seeing, stepped}
pub use Rattle.desk.specs.Traces.{Known, own}
pub use Rattle.desk_office.proofs.Histories.{seat-more, steps-more}
pub use Rattle.desk_office.specs.Answers.{AreAnswered, IsOneTenancy, IsReplyAt, IsTenantOf, NobodyCame, if_there, is_welcome, job_reply, reply_to}
pub use Rattle.desk_office.specs.Answers.{unless_refused}
pub use Rattle.hall.specs.declared.desk_rules.asked.SeatAsked.{SeatAsked}
pub use Rattle.hall.specs.Halls.{HallOf}
pub use Rattle.jamboree_core.specs.Replies.{AreReplies, AreSearches, IsReplyTo}
pub use Rattle.jamboree_core.specs.Searching.{origin_at}
pub use Rattle.jamboree_rules.specs.Frames.{opp_word, own_word}
pub use Rattle.jamboree_rules.specs.Places.{frame_size, root_words}
pub use Rattle.jamboree_rules.specs.Procedure.{jamboree}
pub use Rattle.jamboree_rules.specs.declared.leaf.Leaf.{Leaf}
pub use Rattle.line_io.specs.Leads.{Leads, between}
pub use Rattle.line_io.specs.Lines.{LineText, Whole, lines_of}
pub use Rattle.line_io.specs.Runs.{IsEnding, IsOutput, bytes_due, write_result}
pub use Rattle.line_io.specs.Streams.{Ended, Failed, Gave, ReadAnswer, WriteAnswer}
pub use Rattle.line_io.specs.Talks.{IsTalkEnd}
pub use Rattle.line_io.specs.Writes.{IsCutShort, writes_of, written_texts}
pub use Rattle.line_io.specs.declared.faults.LineFault.{LineFault}
pub use Rattle.othello_board.specs.Words.{cells}
pub use Rattle.othello_board.specs.declared.boards.Board.{Board}
pub use Rattle.othello_board.specs.declared.cells.Cell.{Cell}
pub use Rattle.othello_eval.specs.Minimax.{best_choice, minimax}
pub use Rattle.othello_eval.specs.Tables.{IsTable, Says}
pub use Rattle.othello_eval.specs.declared.bound.BoundKind.{BoundKind}
pub use Rattle.othello_eval.specs.declared.bound.BoundKind.TheVariants.{Exact, High, Low}
pub use Rattle.othello_board.specs.declared.position_text.positions.Side.{Side}
pub use Rattle.promises.proofs.Answered.{if-ok}
pub use Rattle.promises.specs.Replies.{SearchStep}
pub use Rattle.promises.specs.Tenants.{IsForBusyWorker, IsForOwnState, own_steps}
pub use Rattle.protocol.specs.Questions.{QuestionOf, question}
pub use Rattle.protocol.specs.Texts.{error_text, value_text}
pub use Rattle.protocol.specs.Words.{split_at_space}
pub use Rattle.protocol.specs.declared.faults.ProtocolFault.{ProtocolFault}
pub use Rattle.sched_rules.specs.Cores.{CoreState, shared_refusal, shared_run, tenant_in}
pub use Rattle.sched_rules.specs.Headline.{IsAnswerTo, taken_steps}
pub use Rattle.sched_rules.specs.Lone.{lone_refusal}
pub use Rattle.sched_rules.specs.Refusals.{refusal_number}
pub use Rattle.sched_rules.specs.Runs.{alone, alone_from, answers_from, only}
pub use Rattle.sched_rules.specs.Trees.{Tenant, is_busy_in, job_at, left as left_of}
pub use Rattle.sched_rules.specs.declared.job.Job.{Job as JobOf}
pub use Rattle.sched_rules.specs.declared.job.Job.TheVariants.{Spent as SpentJob}
pub use Rattle.sched_rules.specs.declared.refusal.Refusal.{Refusal}
pub use Rattle.sched_rules.specs.declared.refusal.Refusal.TheVariants.{Busy, Full, NoJobsLeft}
pub use Rattle.sched_rules.specs.declared.step.DidOf.{DidOf}
pub use Rattle.sched_rules.specs.declared.step.StepOf.{StepOf}
pub use Rattle.sched_rules.specs.declared.step.StepOf.TheVariants.{Admit, AdmitMore, Cancel, Leave as LeaveStep, Spend, Steal, Submit}
pub use Rattle.session.specs.Asks.{Asked, asked_at}
pub use Rattle.session.specs.Calls.{Ask, AskQuota, Call, Gone, Hello, Job, Leave, OfficeReply, Refused, Reserve, Reserved, Rest, Told, Wait, Welcome}
pub use Rattle.session.specs.DoneLines.{EachDoneIsTrue, IsTrueAnalysis, IsTrueDone, TrueSession, asks_of_lines, with_request}
pub use Rattle.session.specs.Requests.{is_bye}
pub use Rattle.session.specs.Requests.{Makes, Request, Tabulates, request}
pub use Rattle.session.specs.Sessions.{IsAnsweredOf, IsWrittenOf, session_lines, talk_result, texts_for}
pub use Rattle.session.specs.Turns.{LineTurn, Made, Tabulated, entries_text, later_replies, next_reply, pair_text, seated_after, turn_text, turns}
pub use Rattle.session.specs.declared.faults.End.{End}
pub use Rattle.session.specs.declared.faults.End.TheVariants.{EndOfInput}
pub use Rattle.session.specs.declared.faults.SessionFault.{SessionFault}
pub use Rattle.session.specs.declared.faults.SessionFault.TheVariants.{Read, Write}
pub use Rattle.session.specs.declared.standings.Analysis.{Analysis}
pub use Rattle.session.specs.declared.standings.Standing.TheVariants.{Done, Spent}
pub use Rattle.site_book.specs.Books.{new_book}
pub use Rattle.site_book.specs.Events.{answers_of, book_after_events}
pub use Rattle.site_book.specs.Grants.{used}
pub use Rattle.site_book.specs.Names.{same_who}
pub use Rattle.site_book.specs.declared.held.Group.TheVariants.{All, Guests, Own}
pub use Rattle.site_book.specs.declared.who.Who.TheVariants.{Named, V4, V6}
pub use Rattle.solve_engine.specs.Solving.{SolvedRun, answers_unless, line_question, question_answer, solve_line_unless, solve_out_unless, solved_unless}
pub use Rattle.solve_engine.specs.Solving.{words_question}
pub use Rattle.tenant_quota.specs.Reserves.{ReserveOf}
pub use Rattle.tenant_quota.specs.declared.account.Left.{Left}
pub use mathlib.Core.List.{IsPrefix}
