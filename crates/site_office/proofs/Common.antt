-- The names that the proofs of a site's sessions use, imported in one place.
pub use Rattle.desk.specs.Seats.{SeatOf, seeing}
pub use Rattle.sched_rules.specs.Cores.{tenant_in}
pub use Rattle.desk_office.proofs.OneTenant.{EndsAtBye, answered-ends, ends-is_bye, one-tenant, seated-stays, stays-seated}
pub use Rattle.desk_office.proofs.Sessions.{kept}
pub use Rattle.desk_office.proofs.TurnLemmas.{ask-turn, cancel-turn, get-turn, reserve-turn, wait-turn}
pub use Rattle.desk_office.specs.Answers.{History, IsOneTenancy, IsTenantOf, is_stay}
pub use Rattle.desk_office.specs.Moments.{IsHello, IsTurnAt, IsTurnOf, OfficeOf, vacant, with_seat}
pub use Rattle.desk_office.proofs.SeatLemmas.{refused-by}
pub use Rattle.desk_office.specs.Offices.{ask_of, asks_of}
pub use Rattle.desk_office.specs.Answers.{live_in}
pub use Rattle.hall.specs.desk_rules.Asked.{found_or_no_tenant}
pub use Rattle.sched_rules.specs.Views.{left_in_core, live_of as live_in_core}
pub use Rattle.sched_rules.specs.Refusals.{refusal_number}
pub use Rattle.sched_rules.specs.Trees.{Tenant, left}
pub use Rattle.sched_rules.specs.declared.step.StepOf.TheVariants.{Leave as LeaveStep}
pub use Rattle.tenant_quota.specs.declared.account.Left.{Left}
pub use Rattle.session.specs.declared.standings.Live.{Live}
pub use Rattle.desk.specs.Histories.{IsLook, IsTrueTo, Took, core_at, lone_tenant}
pub use Rattle.session.specs.Asks.{KeepsAsks}
pub use Rattle.std.specs.Prelude.{Contains, IfErr, MatchResult, sum_by}
pub use Rattle.hall.specs.Halls.{HallOf}
pub use Rattle.line_io.specs.Leads.{Answers, Leads, answering, between}
pub use Rattle.line_io.specs.Lines.{LineText, TooLong, Whole}
pub use Rattle.line_io.specs.Runs.{bytes_due, write_result}
pub use Rattle.line_io.specs.Streams.{ReadAnswer, WriteAnswer}
pub use Rattle.line_io.specs.Talks.{Talk}
pub use Rattle.line_io.specs.Writes.{IsAnswered}
pub use Rattle.line_io.specs.declared.faults.LineFault.{LineFault}
pub use Rattle.line_io.specs.declared.faults.WriteFailed.{WriteFailed}
pub use Rattle.line_io.specs.declared.talking.TalkEnd.{TalkEnd}
pub use Rattle.protocol.specs.Words.{split_at_space}
pub use Rattle.sched_rules.specs.declared.refusal.Refusal.{Refusal}
pub use Rattle.sched_rules.specs.declared.refusal.Refusal.TheVariants.{NoTenant, OutOfMemory as HallOutOfMemory}
pub use Rattle.session.proofs.DoneLemmas.{each-done}
pub use Rattle.session.proofs.Served.{next_turns}
pub use Rattle.session.proofs.TrueCalls.{all-true}
pub use Rattle.session.specs.Calls.{Alive, AskLive, AskQuota, Call, Cancel, Ended, Get, Gone, Hello, Job, Leave, OfficeReply, Refused, Rest, Reserve, Reserved, Told, Wait, Welcome, reply_of}
pub use Rattle.session.specs.Requests.{is_bye}
pub use Rattle.session.specs.Requests.{Ends, Fault, Makes, Request, Tabulates, request}
pub use Rattle.session.specs.Sessions.{Called, HandlerOf, LeavesIf, Turned, calls_for, handler_of, session_lines}
pub use Rattle.session.specs.Turns.{Closed, Faulted, LineTurn, Made, Tabulated, calls_in, leaving, reply_text, seated_after, turn_text, turns}
pub use Rattle.session.specs.declared.faults.End.TheVariants.{Bye}
pub use Rattle.session.specs.declared.faults.SessionFault.TheVariants.{Write}
pub use Rattle.session.specs.declared.office.Office.{Ghosts}
pub use Rattle.site_desk.specs.Seats.{IsRaiseTold, SiteSeatOf, SiteTraceOf}
pub use Rattle.site_desk.specs.declared.turned.Turned.{Turned as RaiseTurned}
pub use Rattle.site_desk.specs.declared.turned.Turned.TheVariants.{ByBook, OldTenant as NumbersOut, OutOfMemory as NoMemory}
pub use Rattle.site_office.specs.Lines.{Greets, Informs, Pings, Plain, Raises, SiteRequest, asked_by, info_request, site_request}
pub use Rattle.site_office.specs.Moments.{IsSiteTurn, IsTracedAt, IsRefusedByBook, Stays}
pub use Rattle.site_office.specs.Offices.{IsSameSeat, SiteOfficeOf, at_site, office_of, place_of}
pub use Rattle.site_office.specs.Refusing.{comer_refusals, live_answer, raise_refusal}
pub use Rattle.site_office.specs.Sessions.{AnyText, AreMixed, IsBeside, IsTenantAt, MayBeOwn, SeenSiteSession, tokenless, seated_by}
pub use Rattle.site_office.specs.Tokens.{is_token, last_word, less_token, token_after, token_by, token_of, without_token, word_after, word_after_two}
pub use Rattle.site_office.specs.Turns.{IfPaid, IsRefused, IsWelcomed, SiteComes, SiteTurned, site_relations}
pub use Rattle.site_office.specs.declared.access.Greeted.{Greeted}
pub use Rattle.site_office.specs.declared.access.Greeted.TheVariants.{Crowded, Known, Unknown}
pub use Rattle.site_office.specs.declared.access.Info.{Info}
pub use Rattle.std.proofs.Common.{Bool, Err, List, None, Ok, Option, Result, Some, [], ap, arith, codes, cond, eqb, false, if◌then◌else◌, inl, inr, length, map}
pub use Rattle.std.proofs.Common.{refl, rules, subst, suc, sym, take, true, zero, ℕ, ◌++◌, ◌<◌, ◌∙◌, ◌∷◌, ◌≡◌, ◌≤◌, ◌⊎◌}
pub use Rattle.std.proofs.lemmas.Bool.Decides.{nat_tests}
unfoldable pub use Rattle.std.specs.Fmt.{digits}
pub use Rattle.std.specs.List.{concat}
pub use Rattle.std.specs.Option.{is_some, option_map}
pub use Rattle.std.specs.Str.{bytes_eq}
pub use Rattle.tenant_quota.specs.Reserves.{ReserveOf}
pub use Rattle.site_desk.specs.Entries.{IsNewSeat}
pub use Rattle.site_book.specs.Plans.{PlanOf}
pub use Rattle.site_book.specs.declared.who.Who.{Who}
