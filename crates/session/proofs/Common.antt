-- The names that the proofs of sessions use, imported in one place.
pub use Rattle.std.proofs.Common.{Bool, Err, List, None, Ok, Option, Result, Some, [], ap, ap₂, arith, drop, false, length, map, refl, replicate, rules}
pub use Rattle.std.proofs.Common.{slice_set, subst, suc, sym, take, true, ℕ, ◌*◌, ◌++◌, ◌+◌, ◌-◌, ◌<◌, ◌∙◌, ◌∷◌, ◌≡◌, ◌≤◌}
pub use Rattle.std.proofs.Math.Seq.{set-append_seam, take-append_seam}
pub use Rattle.std.proofs.lemmas.List.{append-nil, append_assoc, length-append}
unfoldable pub use Rattle.std.specs.Fmt.{digits}
pub use Rattle.std.specs.List.{concat}
pub use Rattle.line_io.specs.Leads.{Answers, Leads, answering, between}
pub use Rattle.line_io.specs.Lines.{LineText, TooLong, Whole}
pub use Rattle.line_io.specs.Runs.{bytes_due, write_result}
pub use Rattle.line_io.specs.Streams.{ReadAnswer, WriteAnswer}
pub use Rattle.line_io.specs.Talks.{Talk}
pub use Rattle.line_io.specs.Writes.{IsAnswered, written_texts}
pub use Rattle.line_io.specs.declared.faults.LineFault.{LineFault}
pub use Rattle.line_io.specs.declared.faults.WriteFailed.{WriteFailed}
pub use Rattle.line_io.specs.declared.talking.TalkEnd.{TalkEnd}
unfoldable pub use Rattle.othello_board.specs.Rules.{squares}
pub use Rattle.othello_eval.specs.Tables.{IsTable}
pub use Rattle.othello_eval.specs.declared.bound.Bound.{Bound}
pub use Rattle.tenant_quota.specs.Reserves.{ReserveOf}
pub use Rattle.session.specs.Asks.{AllTrue, Asked, KeepsAsks, SaysTrue, ShowsFound, asked_at, asks_after, with_call}
pub use Rattle.session.specs.Calls.{Call, Get, Gone, Hello, Job, OfficeReply, Told, Welcome}
pub use Rattle.session.specs.DoneLines.{EachDoneIsTrue, ReplyHolds, StandingHolds, TableHolds, TableReplyHolds, TrueSession, asks_of_lines, with_request}
pub use Rattle.session.specs.Places.{IsHeld, bounds_held, no_bound}
pub use Rattle.session.specs.Requests.{AtFirst, Ends, Fault, LineCommand, Makes, Request, Tabulates, command_request, is_bye, line_command, quota_request, request}
pub use Rattle.session.specs.Rows.{opening_board}
pub use Rattle.session.specs.Sessions.{Called, HandlerOf, IsAnsweredOf, IsWrittenOf, LeavesIf, Session, Turned, calls_for, handler_of, session_lines, talk_result, texts_for}
pub use Rattle.session.specs.Turns.{Closed, Faulted, LineTurn, Made, Tabulated, by_request, calls_in, entries_text, later_replies, leaving, next_reply}
pub use Rattle.session.specs.Turns.{reply_text, seated_after, table_text, turn_text, turns}
pub use Rattle.session.specs.declared.bounds.Bounds.TheInside.{Inside}
pub use Rattle.session.specs.declared.faults.End.{End}
pub use Rattle.session.specs.declared.faults.End.TheVariants.{Bye, EndOfInput}
pub use Rattle.session.specs.declared.faults.SessionFault.{SessionFault}
pub use Rattle.session.specs.declared.faults.SessionFault.TheVariants.{Read, Write}
pub use Rattle.session.specs.declared.office.Office.{Ghosts}
pub use Rattle.session.specs.declared.serving.LineProtocol.{Ghosts as LineGhosts}
pub use Rattle.session.specs.declared.serving.Handler.{Handler}
pub use Rattle.session.specs.declared.standings.Standing.{Standing}
pub use Rattle.session.specs.declared.standings.Standing.TheVariants.{Done, Pending}
