-- The names that the proofs of a session's office at a desk use, imported in one place.
pub use Rattle.std.proofs.Common.{Bool, Err, List, None, Ok, Option, Result, Some, [], ap, append-nil, append_assoc, ap₂, arith, codes, false, get_or}
pub use Rattle.std.proofs.Common.{if◌then◌else◌, inl, inr, length, map, refl, slice_get, subst, suc, sym, take, true, zero, ℕ, ◌&&◌, ◌++◌, ◌+◌, ◌-◌, ◌<◌, ◌==◌}
pub use Rattle.std.proofs.Common.{◌∙◌, ◌∷◌, ◌≡◌, ◌≢◌, ◌≤◌}
pub use Rattle.std.proofs.Math.ListN.{get_or-map}
pub use Rattle.std.proofs.Math.Seq.{take-suc}
pub use Rattle.std.proofs.lemmas.Bool.Decides.{nat_tests}
pub use Rattle.std.proofs.lemmas.List.{length-append, length-map, map-append}
pub use Rattle.std.proofs.lemmas.Option.{slice_get-get_or, slice_get_within}
pub use Rattle.std.specs.List.{concat}
pub use Rattle.std.specs.Prelude.{Contains, IfErr, MatchResult, option_and_then, option_map, slice_index, ◌⊎◌}
pub use Rattle.std.specs.Str.{bytes_eq}
pub use mathlib.Core.List.{IsPrefix}
pub use Rattle.desk.proofs.Prefixes.{prefix-self, prefix-trans}
pub use Rattle.desk.proofs.Staying.{lone-keeps}
pub use Rattle.desk.specs.Histories.{AllOwn, AreTaken, IsLook, IsSeated, IsShownAt, IsThere, IsToldOf, IsTrueTo, Saw, Took, core_at, is_admit, is_leave}
pub use Rattle.desk.specs.Histories.{is_seat_step, lone_tenant, seat_steps, steps_of}
pub use Rattle.desk.specs.Seats.{IsAsked, SeatOf, reserve_refusals, seeing, stepped}
pub use Rattle.desk.specs.Traces.{Known, own}
pub use Rattle.desk.specs.hall.Halls.{HallOf}
pub use Rattle.desk.specs.hall.jamboree_rules.Entries.{bounds_of}
pub use Rattle.desk.specs.hall.jamboree_rules.Frames.{opp_word, own_word}
pub use Rattle.desk.specs.hall.jamboree_rules.Places.{frame_of, frame_size, root_words}
pub use Rattle.desk.specs.hall.jamboree_rules.Procedure.{jamboree}
pub use Rattle.desk.specs.hall.jamboree_rules.declared.leaf.Leaf.{Leaf}
pub use Rattle.desk.specs.hall.jamboree_rules.declared.leaf.LeafAnswer.{LeafAnswer}
pub use Rattle.desk.specs.jamboree.Replies.{board_of, depth_of, table_of}
pub use Rattle.desk.specs.jamboree.declared.reply.Reply.{Reply}
pub use Rattle.desk.specs.jamboree_core.Outcomes.{IsOutcomeIn, IsOutcomeOf, IsReplyOf}
pub use Rattle.desk.specs.jamboree_core.declared.outcomes.Outcome.{Outcome}
pub use Rattle.desk.specs.jamboree_core.declared.outcomes.Outcome.TheVariants.{Done}
pub use Rattle.hall.specs.desk_rules.Asked.{IsShown, IsShownOf, IsToldBy, Shows, ask_refusals, cancel_refusals, found_or_no_tenant, seat_asked_at}
pub use Rattle.hall.specs.declared.desk_rules.asked.SeatAsked.{SeatAsked}
pub use Rattle.jamboree_core.proofs.JournalLemmas.{journal-searches}
pub use Rattle.jamboree_core.proofs.Serving.{tenant-replies}
pub use Rattle.jamboree_core.specs.Journals.{AreTakenFrom, IsJournalOf, StaysTaken}
pub use Rattle.jamboree_core.specs.Replies.{AreReplies, AreSearches, HoldsReply, IsSearch}
pub use Rattle.line_io.specs.Leads.{Leads, between}
pub use Rattle.line_io.specs.Lines.{LineText, TooLong, Whole}
pub use Rattle.line_io.specs.Runs.{bytes_due}
pub use Rattle.line_io.specs.Streams.{ReadAnswer, WriteAnswer}
pub use Rattle.line_io.specs.Talks.{upto}
pub use Rattle.othello_board.specs.Words.{cells, cells_of}
pub use Rattle.othello_board.specs.declared.boards.Board.{Board}
pub use Rattle.othello_board.specs.declared.cells.Cell.{Cell}
pub use Rattle.othello_eval.specs.Minimax.{best_choice, minimax}
pub use Rattle.othello_eval.specs.Tables.{IsTable}
pub use Rattle.othello_eval.specs.othello_moves.Depths.{greatest_depth}
pub use Rattle.othello_board.specs.declared.position_text.positions.Side.{Side}
pub use Rattle.sched_laws.specs.Fitted.{origins_of, submits}
pub use Rattle.sched_rules.proofs.Tenants.{tenant_in-with_outcome, tenant_in-other-with_outcome}
pub use Rattle.sched_rules.specs.Cores.{CoreState, admit_tests, is_beyond, meets_busy, reservations_in, reserved_by, shared_after, shared_refusal, shared_run}
pub use Rattle.sched_rules.specs.Cores.{shared_with, step_result, tenant_in, unless_beyond, unless_busy, with_outcome}
pub use Rattle.sched_rules.specs.Functions.{Functions}
pub use Rattle.sched_rules.specs.Headline.{IsAnswerTo, IsAnswerToAdmit}
pub use Rattle.sched_rules.specs.Lone.{cancelled, first_step, lone, lone_refusal, refusal_in, submit_tests, submitted, unless}
pub use Rattle.sched_rules.specs.Refusals.{refusal_number}
pub use Rattle.sched_rules.specs.Runs.{alone_from, answer_of, only, state_after, tenant_of}
pub use Rattle.sched_rules.specs.Trees.{Tenant, admitted_with, job_at, left}
pub use Rattle.sched_rules.specs.declared.refusal.Refusal.{Refusal}
pub use Rattle.sched_rules.specs.declared.refusal.Refusal.TheVariants.{Full, NoJob, NoJobsLeft, OutOfMemory}
pub use Rattle.sched_rules.specs.declared.step.DidOf.{DidOf}
pub use Rattle.sched_rules.specs.declared.step.DidOf.TheVariants.{Admitted}
pub use Rattle.sched_rules.specs.declared.step.StepOf.{StepOf}
pub use Rattle.sched_rules.specs.declared.step.StepOf.TheVariants.{Admit, AdmitMore, Submit}
pub use Rattle.session.proofs.DoneLemmas.{each-done}
pub use Rattle.session.proofs.Served.{next_turns}
pub use Rattle.session.proofs.TrueCalls.{all-true}
pub use Rattle.session.specs.Asks.{Asked, IsAnalysisOf, IsJobReply, IsOfficeReplyTo, KeepsAsks, SaysTrue, ShowsFound, asked_at, asks_after}
pub use Rattle.session.specs.Calls.{Alive, Ask, AskLive, AskQuota, Call, Cancel, Ended, Get, Gone, Hello, Job, Leave, OfficeReply, Refused, Reserve, Reserved}
pub use Rattle.session.specs.Calls.{Rest, Told, Wait, Welcome, reply_of}
pub use Rattle.session.specs.Requests.{AtAnyTime, AtFirst, Ends, Fault, LineCommand, Makes, OnceSeated, Request, Tabulates, ask_request, command_alone}
pub use Rattle.session.specs.Requests.{command_request, command_with_one, command_with_two, is_bye, job_request, line_command, line_command_after, line_command_by}
pub use Rattle.session.specs.Requests.{quota_request, request}
pub use Rattle.session.specs.Sessions.{Called, IsAnsweredOf, Session, calls_for, session_lines, talk_result}
pub use Rattle.session.specs.Turns.{calls_in, later_replies, next_reply, seated_after, turns}
pub use Rattle.session.specs.declared.faults.End.{End}
pub use Rattle.session.specs.declared.faults.SessionFault.{SessionFault}
pub use Rattle.session.specs.declared.standings.Standing.{Standing}
pub use Rattle.tenant_quota.specs.Reserves.{ReserveOf}
pub use Rattle.tenant_quota.specs.declared.account.Left.{Left}
pub use Rattle.desk_office.specs.Answers.{Adds, AllStay, AreAnswered, History, IsBoardIn, IsOneTenancy, IsReplyAt, IsTenantOf, NobodyCame, SeenSession}
pub use Rattle.desk_office.specs.Answers.{analysis_by, if_there, is_stay, is_taken, is_welcome, job_reply, live_in, reply_to, standing_in, step_for}
pub use Rattle.desk_office.specs.Answers.{unless_refused}
pub use Rattle.desk_office.specs.Moments.{IsHello, IsJobTold, IsLookBy, IsLookReply, IsRefusedAtOnce, IsStepBy, IsStepRefused, IsStepTaken, IsTurnAt, IsTurnOf}
pub use Rattle.desk_office.specs.Moments.{OfficeOf, asked_after, taken_reply, vacant, with_seat}
pub use Rattle.desk_office.specs.Offices.{analysis_of, ask_of, asks_of, standing_of, told_answer}
