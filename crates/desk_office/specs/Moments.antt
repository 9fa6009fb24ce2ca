-- Representation: what each call of a session's office does to what its seat knows of the desk's history, and what the
-- reply is by the history that the seat has then seen.
use Rattle.std.specs.Prelude.{◌≡◌, ◌⊎◌, ℕ, ◌+◌, List, [], ◌∷◌, ◌++◌, length, Option, Some, None, option_map, option_and_then, Result, Err}
use Rattle.othello_board.specs.declared.boards.Board.{Board}
use Rattle.sched_rules.specs.declared.refusal.Refusal.{Refusal}
use Rattle.sched_rules.specs.declared.refusal.Refusal.TheVariants.{OldTenant}
use Rattle.sched_rules.specs.Refusals.{refusal_number}
use Rattle.sched_rules.specs.declared.step.StepOf.{StepOf}
use Rattle.sched_rules.specs.declared.step.StepOf.TheVariants.{Leave as LeaveStep}
use Rattle.sched_rules.specs.Trees.{Tenant, left, job_at}
use Rattle.sched_rules.specs.Cores.{tenant_in}
use Rattle.sched_rules.specs.Headline.{IsAnswerTo}
use Rattle.desk.specs.Traces.{Known}
use Rattle.desk.specs.hall.jamboree_rules.Procedure.{jamboree}
use Rattle.desk.specs.hall.jamboree_rules.declared.leaf.LeafAnswer.{LeafAnswer}
use Rattle.desk.specs.hall.Halls.{HallOf}
use Rattle.desk.specs.jamboree_core.declared.outcomes.Outcome.{Outcome}
use Rattle.desk.specs.jamboree_core.Outcomes.{IsOutcomeIn}
use Rattle.hall.specs.declared.desk_rules.asked.SeatAsked.{SeatAsked}
use Rattle.hall.specs.desk_rules.Asked.{found_or_no_tenant, seat_asked_at, IsShown, IsToldBy}
use Rattle.desk.specs.Seats.{SeatOf, seeing}
use Rattle.desk.specs.Histories.{core_at, lone_tenant, IsSeated, IsLook, IsTrueTo, Saw, Took}
use Rattle.session.specs.Asks.{KeepsAsks}
use Rattle.session.specs.Calls.{Call, Hello, Reserve, Ask, Get, Wait, Cancel, AskQuota, AskLive, Leave, OfficeReply, Welcome, Reserved, Job, Told, Ended, Rest, Alive, Gone, Refused, reply_of}
use Rattle.desk_office.specs.Offices.{asks_of, told_answer}
use Rattle.desk_office.specs.Answers.{live_in, step_for, IsBoardIn}

-- what contracts see of an office: its seat while a tenant is there, and what the seat knew when the tenant left
pub record OfficeOf : Type 0 where
  pub seat : Option SeatOf
  pub knew : Option (Known (StepOf LeafAnswer))

-- an office to which no tenant has come yet
abbrev pub vacant : OfficeOf
vacant = record { seat = None; knew = None }

-- the session's office with this seat at the desk
abbrev pub with_seat : SeatOf → OfficeOf → OfficeOf
with_seat seat office = record { seat = Some seat; knew = office.knew }

-- the reply to a call whose step was taken, where its tenant had asked for so many jobs before: ASK is told the next
-- job's number, and each other call that it was done
abbrev pub taken_reply : ℕ → Call → OfficeReply
taken_reply jobs (Hello quota) = Welcome quota
taken_reply jobs (Reserve quota) = Reserved quota
taken_reply jobs (Ask depth board side) = Job (jobs + 1)
taken_reply jobs (Cancel job) = Ended job
taken_reply jobs _ = Gone

-- what a tenant has asked for after a call whose step was taken
abbrev pub asked_after : List SeatAsked → Board → Call → List SeatAsked
asked_after asked words (Ask depth board side) = asked ++ record { board = words; depth = depth } ∷ []
asked_after asked words _ = asked

-- a call of a session's office is refused without a step at the desk: ASK as the tenant has asked for 256 jobs, or
-- CANCEL as it asked for no job of this number
abbrev pub IsRefusedAtOnce : List SeatAsked → Call → OfficeReply → Type 0
IsRefusedAtOnce asked (Ask depth board side) reply = (length asked ≡ 256) × (reply ≡ Refused 13)
IsRefusedAtOnce asked (Cancel job) reply = (seat_asked_at asked job ≡ None) × (reply ≡ Refused 17)
IsRefusedAtOnce asked _ reply = ⊥

-- the reply about a job, by what its tenant has come to, and what the tenant asked for
abbrev pub IsJobTold : List SeatAsked → Option Tenant → ℕ → OfficeReply → Type 0
IsJobTold asked tenant job reply = (answer : Result Outcome Refusal) × (told : Option Outcome)
    × (reply ≡ reply_of (Told job) (told_answer answer))
    × IsShown (seat_asked_at asked job) answer
    × IsOutcomeIn (option_and_then (λ its. job_at its.jobs job) tenant) told
    × IsToldBy (seat_asked_at asked job) told answer

-- the reply to a call that only looks, by what its tenant has come to, and what the tenant asked for
abbrev pub IsLookReply : List SeatAsked → Option Tenant → Call → OfficeReply → Type 0
IsLookReply asked tenant (Get job) reply = IsJobTold asked tenant job reply
IsLookReply asked tenant (Wait job) reply = IsJobTold asked tenant job reply
IsLookReply asked tenant AskQuota reply = reply ≡ reply_of Rest (found_or_no_tenant (option_map left tenant))
IsLookReply asked tenant AskLive reply = reply ≡ reply_of Alive (found_or_no_tenant (option_map live_in tenant))
IsLookReply asked tenant _ reply = ⊥

-- a seat's step was taken: the history that it has then seen ends with it
pub record IsStepTaken (before : SeatOf) (words : Board) (step : StepOf LeafAnswer) (call : Call) (reply : OfficeReply) (now : SeatOf) : Type 0 where
  pub took : Took before.known step now.known
  pub seat : now ≡ record { tenant = before.tenant; share = before.share + 1; asked = asked_after before.asked words call; known = now.known }
  pub said : reply ≡ taken_reply (length before.asked) call

-- a seat's step was refused, as the core at the end of the history that it has then seen refuses it
pub record IsStepRefused (begun : HallOf) (before : SeatOf) (step : StepOf LeafAnswer) (reply : OfficeReply) (now : SeatOf) : Type 0 where
  pub refusal : Refusal
  pub saw : Saw before.known now.known
  pub right : IsAnswerTo (jamboree begun.grain) (core_at begun now.known.seen) step (Err refusal)
  pub seat : now ≡ seeing now.known before
  pub said : reply ≡ Refused (refusal_number refusal)

-- a call for a seat's step: it is taken or refused, or refused at once without a change
pub record IsStepBy (begun : HallOf) (before : SeatOf) (call : Call) (reply : OfficeReply) (now : SeatOf) : Type 0 where
  pub words : Board
  pub board : IsBoardIn words call
  pub step : StepOf LeafAnswer
  pub asks : step_for before.tenant words call ≡ Some step
  pub came : IsStepTaken before words step call reply now ⊎ (IsStepRefused begun before step reply now ⊎ ((now ≡ before) × IsRefusedAtOnce before.asked call reply))

-- a call that looks: the seat has then seen the history go on (IsLook), and the reply is what the tenant's own part of that
-- history gives
pub record IsLookBy (begun : HallOf) (before : SeatOf) (call : Call) (reply : OfficeReply) (now : SeatOf) : Type 0 where
  pub look : IsLook begun before now
  pub said : IsLookReply now.asked (lone_tenant begun now.known.seen now.tenant) call reply

-- what a HELLO at an office comes to: there is a new tenant with its seat at the desk, or it is refused
abbrev pub IsHello : HallOf → Call → OfficeReply → OfficeOf → OfficeOf → Type 0
IsHello begun (Hello quota) reply from to =
    ((seat : SeatOf) × (to ≡ with_seat seat from) × IsSeated quota seat × (tenant_in begun.shared.tenants seat.tenant ≡ None) × (seat.asked ≡ []) × (reply ≡ Welcome quota))
    ⊎ ((to ≡ from) × (number : ℕ) × (reply ≡ Refused number))
IsHello begun call reply from to = to ≡ from

-- the tenant leaves: its Leave is the end of the history that its seat knew then, all steps of that were taken, and its seat
-- steps of the tenant are just the seat's own
abbrev pub IsTenantGone : HallOf → SeatOf → OfficeReply → OfficeOf → Type 0
IsTenantGone begun before reply to = (now : Known (StepOf LeafAnswer))
    × (to ≡ record { seat = None; knew = Some now }) × Took before.known (LeaveStep before.tenant) now × IsTrueTo begun before.tenant now × (reply ≡ Gone)

-- what one call of a session's office comes to, by its seat (None: no tenant is there), at a desk that was made with
-- this hall: a HELLO, a step, a look or the tenant's Leave
abbrev pub IsTurnOf : HallOf → Option SeatOf → Call → OfficeReply → OfficeOf → OfficeOf → Type 0
IsTurnOf begun None call reply from to = IsHello begun call reply from to
IsTurnOf begun (Some before) (Hello quota) reply from to = (to ≡ from) × (reply ≡ Refused (refusal_number OldTenant))
IsTurnOf begun (Some before) (Reserve quota) reply from to = (now : SeatOf) × (to ≡ with_seat now from) × IsStepBy begun before (Reserve quota) reply now
IsTurnOf begun (Some before) (Ask depth board side) reply from to = (now : SeatOf) × (to ≡ with_seat now from) × IsStepBy begun before (Ask depth board side) reply now
IsTurnOf begun (Some before) (Cancel job) reply from to = (now : SeatOf) × (to ≡ with_seat now from) × IsStepBy begun before (Cancel job) reply now
IsTurnOf begun (Some before) Leave reply from to = IsTenantGone begun before reply to
IsTurnOf begun (Some before) call reply from to = (now : SeatOf) × (to ≡ with_seat now from) × IsLookBy begun before call reply now

-- what one call of a session's office comes to, at a desk that was made with this hall: the office keeps what its
-- tenant asked for, and the desk's history shows the call's step
abbrev pub IsTurnAt : HallOf → OfficeOf → Call → OfficeReply → OfficeOf → Type 0
IsTurnAt begun from call reply to = IsTurnOf begun from.seat call reply from to × KeepsAsks (asks_of from.seat) call reply (asks_of to.seat)
