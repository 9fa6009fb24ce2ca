-- Meaning: what a session's tenant is answered, as a function of the call and of what the tenant has come to at a moment of the
-- desk's history.
use Rattle.std.specs.Prelude.{◌≡◌, ◌⊎◌, ℕ, ◌+◌, ◌≤◌, Bool, true, false, List, [], ◌∷◌, ◌++◌, length, slice_index, sum_by, Option, Some, None, option_and_then, Result}
use Rattle.tenant_quota.specs.Reserves.{ReserveOf}
use Rattle.line_io.specs.Leads.{Passage, between}
use Rattle.line_io.specs.Streams.{ReadAnswer, WriteAnswer}
use Rattle.othello_board.specs.declared.boards.Board.{Board}
use Rattle.othello_board.specs.Words.{cells, cells_of}
use Rattle.othello_eval.specs.othello_moves.Depths.{greatest_depth}
use Rattle.othello_eval.specs.Minimax.{minimax, best_choice}
use Rattle.othello_eval.specs.declared.bound.Bound.{Bound}
use Rattle.sched_rules.specs.declared.job.Job.{Job as JobOf}
use Rattle.sched_rules.specs.declared.job.Job.TheVariants.{Live as LiveJob, Done as DoneJob, Spent as SpentJob, Cancelled as CancelledJob}
use Rattle.sched_rules.specs.declared.refusal.Refusal.{Refusal}
use Rattle.sched_rules.specs.declared.refusal.Refusal.TheVariants.{NoTenant, NoJob, OldTenant, Full, OutOfMemory}
use Rattle.sched_rules.specs.Refusals.{refusal_number}
use Rattle.sched_rules.specs.declared.step.StepOf.{StepOf}
use Rattle.sched_rules.specs.declared.step.StepOf.TheVariants.{Admit, AdmitMore, Submit, Cancel as CancelStep, Leave as LeaveStep}
use Rattle.sched_rules.specs.Trees.{Tenant, left, job_at}
use Rattle.sched_rules.specs.Lone.{lone_refusal}
use Rattle.sched_rules.specs.Runs.{only}
use Rattle.sched_rules.specs.Cores.{CoreState, tenant_in, shared_refusal}
use Rattle.desk.specs.Traces.{Known}
use Rattle.desk.specs.hall.jamboree_rules.Entries.{bounds_of}
use Rattle.desk.specs.hall.jamboree_rules.Frames.{own_word, opp_word}
use Rattle.desk.specs.hall.jamboree_rules.Places.{frame_of, root_words, frame_size}
use Rattle.desk.specs.hall.jamboree_rules.Procedure.{jamboree}
use Rattle.desk.specs.hall.jamboree_rules.declared.leaf.LeafAnswer.{LeafAnswer}
use Rattle.desk.specs.hall.Halls.{HallOf}
use Rattle.desk.specs.Histories.{core_at, seat_steps, steps_of, lone_tenant, IsTrueTo}
use Rattle.session.specs.declared.faults.End.{End}
use Rattle.session.specs.declared.faults.SessionFault.{SessionFault}
use Rattle.session.specs.declared.standings.Analysis.{Analysis}
use Rattle.session.specs.declared.standings.Live.{Live}
use Rattle.session.specs.declared.standings.Standing.{Standing}
use Rattle.session.specs.declared.standings.Standing.TheVariants.{Pending, Done, Spent, Cancelled}
use Rattle.session.specs.Asks.{Asked, KeepsAsks}
use Rattle.session.specs.Calls.{Call, Hello, Reserve, Ask, Get, Wait, Cancel, AskQuota, AskLive, Leave, OfficeReply, Welcome, Reserved, Job, Told, Ended, Rest, Alive, Gone, Refused}
use Rattle.session.specs.Sessions.{Session, calls_for, Called}
use Rattle.session.specs.Turns.{turns}
use Rattle.session.specs.DoneLines.{EachDoneIsTrue}

-- a history of a desk: the steps taken since it was made, each with the number of its maker
abbrev pub History : Type 0
History = List (ℕ × StepOf LeafAnswer)

-- ---- the answer to a call

-- what is told of a board to a depth that was searched: the minimax value, the best choice, and this table
abbrev pub analysis_by : ℕ → ℕ → ℕ → List Bound → Analysis
analysis_by own opp depth bounds = record { best = record { value = minimax depth (cells_of own opp); choice = best_choice depth (cells_of own opp) }; bounds = bounds }

-- how a job stands: of one that is done, the words that it kept have the board, the depth and the table
abbrev pub standing_in : JobOf → Standing
standing_in (LiveJob root) = Pending
standing_in (DoneJob words) = Done (analysis_by (slice_index words 0) (slice_index words 1) (slice_index words 2) (bounds_of (frame_of words)))
standing_in SpentJob = Spent
standing_in CancelledJob = Cancelled

-- the answer to a question about the job of this number, by what the tenant has under it
abbrev pub job_reply : ℕ → Option JobOf → OfficeReply
job_reply number None = Refused (refusal_number NoJob)
job_reply number (Some job) = Told number (standing_in job)

-- this reply, or else the refusal, if there is one
abbrev pub unless_refused : Option Refusal → OfficeReply → OfficeReply
unless_refused None said = said
unless_refused (Some refusal) said = Refused (refusal_number refusal)

-- the reply that is said of a tenant (`said`), if it is there; else the refusal NoTenant
abbrev pub if_there : Option Tenant → (Tenant → OfficeReply) → OfficeReply
if_there None said = Refused (refusal_number NoTenant)
if_there (Some its) said = said its

-- what LIVE says of a tenant: how many frames it has, and how many words these have together
abbrev pub live_in : Tenant → Live
live_in its = record { frames = length its.frames; words = sum_by (λ frame. length frame.value) its.frames }

-- the answer to a call of the tenant of this number, by what the tenant has come to
abbrev pub reply_to : ℕ → ℕ → Option Tenant → Call → OfficeReply
reply_to grain number tenant (Hello quota) = Refused (refusal_number OldTenant)
reply_to grain number tenant (Reserve quota) = unless_refused (lone_refusal (jamboree grain) tenant (AdmitMore number quota)) (Reserved quota)
reply_to grain number tenant (Ask depth board side) =
    if_there tenant (λ its. unless_refused (lone_refusal (jamboree grain) (Some its) (Submit number (root_words (own_word board) (opp_word board) depth) frame_size)) (Job (length its.jobs + 1)))
reply_to grain number tenant (Get job) = job_reply job (option_and_then (λ its. job_at its.jobs job) tenant)
reply_to grain number tenant (Wait job) = job_reply job (option_and_then (λ its. job_at its.jobs job) tenant)
reply_to grain number tenant (Cancel job) = unless_refused (lone_refusal (jamboree grain) tenant (CancelStep number job)) (Ended job)
reply_to grain number tenant AskQuota = if_there tenant (λ its. Rest (left its))
reply_to grain number tenant AskLive = if_there tenant (λ its. Alive (live_in its))
reply_to grain number tenant Leave = Gone

-- a raise of the reservation, which the tenant alone would be granted, is refused by what all reserve together (Full), or as
-- memory ran out. No other call of a tenant is
abbrev pub IsRefusedForRoom : ℕ → CoreState → ℕ → Call → OfficeReply → Type 0
IsRefusedForRoom grain core number (Reserve quota) reply =
    (lone_refusal (jamboree grain) (tenant_in core.tenants number) (AdmitMore number quota) ≡ None)
    × (((shared_refusal (jamboree grain) core (AdmitMore number quota) ≡ Some Full) × (reply ≡ Refused (refusal_number Full)))
    ⊎ ((shared_refusal (jamboree grain) core (AdmitMore number quota) ≡ None) × (reply ≡ Refused (refusal_number OutOfMemory))))
IsRefusedForRoom grain core number _ reply = ⊥

-- the answer to a call of a tenant at the end of this history: that of its own part of the history, or a raise has no room
abbrev pub IsReplyAt : HallOf → ℕ → History → Call → OfficeReply → Type 0
IsReplyAt begun number history call reply =
    (reply ≡ reply_to begun.grain number (lone_tenant begun history number) call) ⊎ IsRefusedForRoom begun.grain (core_at begun history) number call reply

-- ---- the answers to all calls

-- if the call is an Ask, these are the words of the board that it asks for, to at most 12 plies
abbrev pub IsBoardIn : Board → Call → Type 0
IsBoardIn words (Ask depth board side) = (board ≡ cells words) × (depth ≤ greatest_depth)
IsBoardIn words _ = Unit {0}

-- the step that a call asks of the desk for its tenant, None where it only looks; these are the words of an Ask's board
abbrev pub step_for : ℕ → Board → Call → Option (StepOf LeafAnswer)
step_for number words (Hello quota) = Some (Admit number quota)
step_for number words (Reserve quota) = Some (AdmitMore number quota)
step_for number words (Ask depth board side) = Some (Submit number (root_words words.own words.opp depth) frame_size)
step_for number words (Cancel job) = Some (CancelStep number job)
step_for number words Leave = Some (LeaveStep number)
step_for number words _ = None

-- whether a reply says that a step of the tenant was taken
abbrev pub is_taken : OfficeReply → Bool
is_taken (Welcome quota) = true
is_taken (Reserved quota) = true
is_taken (Job number) = true
is_taken (Ended job) = true
is_taken Gone = true
is_taken _ = false

-- what a call of a tenant added to the history: the step that it asked for where that was taken, else nothing
abbrev pub Adds : Bool → ℕ → ℕ → Call → History → Type 0
Adds true maker number call added = (words : Board) × (step : StepOf LeafAnswer) × IsBoardIn words call × (step_for number words call ≡ Some step) × (added ≡ (maker, step) ∷ [])
Adds false maker number call added = added ≡ []

-- from the end of `seen` on, these calls of a tenant were answered at moments of the history, one after another, then the tenant
-- left, and this is the whole history. Between them come steps of others and of workers, none that the tenant's seat made
abbrev pub AreAnswered : HallOf → ℕ → ℕ → History → List (Call × OfficeReply) → History → Type 0
AreAnswered begun number maker seen [] whole =
    (between : History) × (seat_steps number (steps_of between) ≡ []) × (whole ≡ (seen ++ between) ++ (maker, LeaveStep number) ∷ [])
AreAnswered begun number maker seen (made ∷ more) whole =
    (between added : History) × (seat_steps number (steps_of between) ≡ []) × IsReplyAt begun number (seen ++ between) made.0 made.1
    × Adds (is_taken made.1) maker number made.0 added × AreAnswered begun number maker ((seen ++ between) ++ added) more whole

-- whether a call is none by which the tenant leaves
abbrev pub is_stay : Call → Bool
is_stay Leave = false
is_stay _ = true

-- none of these calls is one by which the tenant leaves
abbrev pub AllStay : List (Call × OfficeReply) → Type 0
AllStay [] = Unit {0}
AllStay (made ∷ more) = (is_stay made.0 ≡ true) × AllStay more

-- whether a reply says that there is a new tenant
abbrev pub is_welcome : OfficeReply → Bool
is_welcome (Welcome quota) = true
is_welcome _ = false

-- by these calls of a session no tenant came: each HELLO was refused
abbrev pub NobodyCame : List (Call × OfficeReply) → Type 0
NobodyCame [] = Unit {0}
NobodyCame (made ∷ more) = (is_welcome made.1 ≡ false) × NobodyCame more

-- by these calls one tenant came, and it left by the last of them. Its seat then knew a history whose steps were all taken. Its
-- number is new in it; its steps that workers didn't make are its Admit, just what the calls between asked for and was taken, in
-- order, and its Leave; and each of these calls was answered by what the tenant's own part of the history had made of it
pub record IsOneTenancy (begun : HallOf) (calls : List (Call × OfficeReply)) (known : Known (StepOf LeafAnswer)) : Type 0 where
  pub early : List (Call × OfficeReply)
  pub quota : ReserveOf
  pub later : List (Call × OfficeReply)
  pub are : calls ≡ early ++ (Hello quota, Welcome quota) ∷ (later ++ (Leave, Gone) ∷ [])
  pub nobody : NobodyCame early
  pub stay : AllStay later
  pub number : ℕ
  pub true_to : IsTrueTo begun number known
  pub before : History
  pub unused : only number (steps_of before) ≡ []
  pub answered : AreAnswered begun number known.maker (before ++ (known.maker, Admit number quota) ∷ []) later known.seen

-- a session's one tenant, by the session's calls and what its seat knew when it left; None where nobody came
abbrev pub IsTenantOf : HallOf → List (Call × OfficeReply) → Option (Known (StepOf LeafAnswer)) → Type 0
IsTenantOf begun calls None = NobodyCame calls
IsTenantOf begun calls (Some known) = IsOneTenancy begun calls known

-- a session at a desk that was made with this hall, and what its tenant's seat knew when it left, if one came: its lines are true
-- (`TrueSession`), it had one tenant at most, and the calls that its lines made were answered by the tenant's own part of the
-- history
pub record SeenSession {S K : Type 0} (begun : HallOf) (reading : Passage S ReadAnswer) (writing : Passage K WriteAnswer) (r : Result End SessionFault) (known : Option (Known (StepOf LeafAnswer))) : Type 0 where
  pub asks : List Asked
  pub session : Session reading writing (between (Called KeepsAsks) [] asks) r
  pub dones : EachDoneIsTrue [] session.answered (turns false session.answered session.replies)
  pub tenant : IsTenantOf begun (calls_for session.answered session.replies) known
