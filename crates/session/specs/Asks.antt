-- Meaning: a session's office that replies to each call in its own kind, keeps what its tenant asked for, and shows
-- the values of just that.
use Rattle.std.specs.Prelude.{◌≡◌, ◌⊎◌, ℕ, ◌+◌, ◌-◌, ◌==◌, List, [], ◌∷◌, ◌++◌, length, Option, Some, None, if◌then◌else◌, Contains}
use Rattle.othello_board.specs.declared.cells.Cell.{Cell}
use Rattle.othello_eval.specs.Minimax.{minimax, best_choice}
use Rattle.othello_eval.specs.Tables.{IsTable}
use Rattle.othello_board.specs.declared.position_text.positions.Side.{Side}
use Rattle.session.specs.declared.standings.Analysis.{Analysis}
use Rattle.session.specs.declared.standings.Standing.{Standing}
use Rattle.session.specs.declared.standings.Standing.TheVariants.{Done}
use Rattle.session.specs.Calls.{Call, Hello, Reserve, Ask, Get, Wait, Cancel, AskQuota, AskLive, Leave, OfficeReply, Welcome, Reserved, Job, Told, Ended, Rest, Alive, Gone, Refused}

-- a board, and the depth to which its value was asked for
pub record Asked : Type 0 where
  pub board : List Cell
  pub depth : ℕ

-- what was asked so far, and what this call asks for after it if it is an Ask
abbrev pub with_call : List Asked → Call → List Asked
with_call asks (Ask depth board side) = asks ++ record { board = board; depth = depth } ∷ []
with_call asks _ = asks

-- a tenant's asks that were answered by JOB, after one more call and its reply: a new tenant has none, and there are
-- none after it has left
abbrev pub asks_after : List Asked → Call → OfficeReply → List Asked
asks_after asks call (Welcome quota) = []
asks_after asks call (Job number) = with_call asks call
asks_after asks call Gone = []
asks_after asks call _ = asks

-- what was asked as the job of this number, from 1 on; None where the number is 0 or above the length
abbrev pub asked_at : List Asked → ℕ → Option Asked
asked_at [] job = None
asked_at (asked ∷ later) job = if job == 1 then Some asked else asked_at later (job - 1)

-- this analysis has the minimax value, the best choice and the table of what was asked as the job of this number
pub record IsAnalysisOf (asks : List Asked) (job : ℕ) (analysis : Analysis) : Type 0 where
  pub asked : Asked
  pub is : asked_at asks job ≡ Some asked
  pub value : analysis.best.value ≡ minimax asked.depth asked.board
  pub choice : analysis.best.choice ≡ best_choice asked.depth asked.board
  pub table : IsTable asked.depth asked.board analysis.bounds

-- how a job may be shown by what was asked: as done only with the analysis of what was asked under its number
abbrev pub ShowsFound : List Asked → ℕ → Standing → Type 0
ShowsFound asks job (Done analysis) = IsAnalysisOf asks job analysis
ShowsFound asks job _ = Unit {0}

-- a reply is true of the asks before its call: a new job has the next number, and a job that is done is shown with its
-- analysis
abbrev pub SaysTrue : List Asked → OfficeReply → Type 0
SaysTrue asks (Job number) = number ≡ length asks + 1
SaysTrue asks (Told job standing) = ShowsFound asks job standing
SaysTrue asks _ = Unit {0}

-- the reply to GET or WAIT, by what was asked as this job: how the job stands, or the refusal 17 exactly where nothing
-- was asked
abbrev pub IsJobReply : ℕ → Option Asked → OfficeReply → Type 0
IsJobReply job None reply = reply ≡ Refused 17
IsJobReply job (Some asked) reply = (standing : Standing) × (reply ≡ Told job standing)

-- if the reply is a refusal, it has one of these numbers
abbrev pub RefusedBy : List ℕ → OfficeReply → Type 0
RefusedBy numbers (Refused number) = Contains numbers number
RefusedBy numbers _ = Unit {0}

-- by which numbers each call may be refused, and where it is: ASK by 13 where 256 jobs were asked, GET and WAIT by 17
-- exactly where nothing was asked under their number, CANCEL by 17 there too. Only HELLO and RESERVE are refused by 19
-- (no memory), and Leave never is. (1 is NoTenant, 10 NoSegments, 11 NoNodes, 13 NoJobsLeft, 14 Full, 17 NoJob, 18
-- OldTenant, 19 OutOfMemory, 20 Lower)
abbrev pub IsRefusedWhere : List Asked → Call → OfficeReply → Type 0
IsRefusedWhere asks (Hello quota) reply = RefusedBy (14 ∷ 18 ∷ 19 ∷ []) reply
IsRefusedWhere asks (Reserve quota) reply = RefusedBy (1 ∷ 20 ∷ 14 ∷ 19 ∷ []) reply
IsRefusedWhere asks (Ask depth board side) reply = RefusedBy (1 ∷ 13 ∷ 11 ∷ 10 ∷ []) reply × (length asks ≡ 256 → reply ≡ Refused 13)
IsRefusedWhere asks (Get job) reply = IsJobReply job (asked_at asks job) reply
IsRefusedWhere asks (Wait job) reply = IsJobReply job (asked_at asks job) reply
IsRefusedWhere asks (Cancel job) reply = RefusedBy (1 ∷ 17 ∷ []) reply × (asked_at asks job ≡ None → reply ≡ Refused 17)
IsRefusedWhere asks AskQuota reply = RefusedBy (1 ∷ []) reply
IsRefusedWhere asks AskLive reply = RefusedBy (1 ∷ []) reply
IsRefusedWhere asks Leave reply = reply ≡ Gone

-- the call asks for the value of a position to a depth
abbrev pub IsAsk : Call → Type 0
IsAsk call = (depth : ℕ) × (board : List Cell) × (side : Side) × (call ≡ Ask depth board side)

-- a reply is one to this call: what is welcomed or reserved is what the call said, a job that is told or has ended is
-- the one that the call named, and each other call has a kind of reply of its own. Any call but Leave may be refused
-- (IsRefusedWhere)
abbrev pub IsOfficeReplyTo : Call → OfficeReply → Type 0
IsOfficeReplyTo call (Welcome quota) = call ≡ Hello quota
IsOfficeReplyTo call (Reserved quota) = call ≡ Reserve quota
IsOfficeReplyTo call (Job number) = IsAsk call
IsOfficeReplyTo call (Told job standing) = (call ≡ Get job) ⊎ (call ≡ Wait job)
IsOfficeReplyTo call (Ended job) = call ≡ Cancel job
IsOfficeReplyTo call (Rest left) = call ≡ AskQuota
IsOfficeReplyTo call (Alive live) = call ≡ AskLive
IsOfficeReplyTo call Gone = call ≡ Leave
IsOfficeReplyTo call (Refused number) = Unit {0}

-- what an office that keeps its tenant's asks may reply to this call; the asks before and after it are given
abbrev pub KeepsAsks : List Asked → Call → OfficeReply → List Asked → Type 0
KeepsAsks asks call reply asks' = (asks' ≡ asks_after asks call reply) × SaysTrue asks reply × IsRefusedWhere asks call reply × IsOfficeReplyTo call reply

-- these calls and replies are true, in order: each ASK that is answered by JOB gets the next number, each job shown as
-- done has the minimax value, the best choice and a table of what was asked under its number, refusals are as
-- IsRefusedWhere says, and each reply is one to its call
abbrev pub AllTrue : List Asked → List (Call × OfficeReply) → Type 0
AllTrue asks [] = Unit {0}
AllTrue asks (made ∷ more) = SaysTrue asks made.1 × AllTrue (asks_after asks made.0 made.1) more × IsRefusedWhere asks made.0 made.1 × IsOfficeReplyTo made.0 made.1
