-- Meaning: what the DONE lines and the tables of a session are worth, said of its lines and of their answers alone.
use Rattle.std.specs.Prelude.{◌≡◌, ℕ, ◌+◌, List, [], ◌∷◌, length, true, false, if◌then◌else◌, nat_eq, codes, Some, Result}
use Rattle.std.specs.List.{starts_with}
use Rattle.line_io.specs.Lines.{LineText}
use Rattle.othello_eval.specs.Minimax.{minimax, best_choice}
use Rattle.othello_eval.specs.Tables.{IsTable}
use Rattle.line_io.specs.Leads.{Passage, between}
use Rattle.line_io.specs.Streams.{ReadAnswer, WriteAnswer}
use Rattle.session.specs.declared.faults.End.{End}
use Rattle.session.specs.declared.faults.SessionFault.{SessionFault}
use Rattle.session.specs.declared.standings.Analysis.{Analysis}
use Rattle.session.specs.declared.standings.Standing.{Standing}
use Rattle.session.specs.declared.standings.Standing.TheVariants.{Done}
use Rattle.session.specs.Asks.{Asked, asked_at, with_call, KeepsAsks}
use Rattle.session.specs.Calls.{OfficeReply, Job, Told}
use Rattle.session.specs.Requests.{Request, Makes, request}
use Rattle.session.specs.Turns.{LineTurn, Made, Tabulated, turns, turn_text}
use Rattle.session.specs.Sessions.{Called, Session}

-- what was asked so far, and what this line asks for after it if it is an ASK
abbrev pub with_request : List Asked → Request → List Asked
with_request asks (Makes call) = with_call asks call
with_request asks _ = asks

-- a tenant's asks so far, after one more line and its answer: they begin at WELCOME and end at BYE, and an ASK line
-- that is answered by JOB is the next of them
abbrev pub asks_then : List Asked → LineText × List ℕ → List Asked
asks_then asks said =
    if starts_with nat_eq said.1 (codes "JOB ") then with_request asks (request true said.0)
    else (if starts_with nat_eq said.1 (codes "WELCOME ") then []
    else (if starts_with nat_eq said.1 (codes "BYE") then []
    else asks))

-- what the ASK lines among these asked for that were answered by JOB, in the order in which they came: the k-th as job
-- k. The list has each line with its answer, the last line first
abbrev pub asks_of_lines : List (LineText × List ℕ) → List Asked
asks_of_lines [] = []
asks_of_lines (said ∷ before) = asks_then (asks_of_lines before) said

-- this analysis has the minimax value and the best choice of what was asked as the job of this number, by the ASK lines
-- so far that were answered by JOB
pub record IsTrueDone (before : List (LineText × List ℕ)) (job : ℕ) (analysis : Analysis) : Type 0 where
  pub asked : Asked
  pub is : asked_at (asks_of_lines before) job ≡ Some asked
  pub value : analysis.best.value ≡ minimax asked.depth asked.board
  pub choice : analysis.best.choice ≡ best_choice asked.depth asked.board

-- where a job is shown as done, its value and its move are true
abbrev pub StandingHolds : List (LineText × List ℕ) → ℕ → Standing → Type 0
StandingHolds before job (Done analysis) = IsTrueDone before job analysis
StandingHolds before job _ = Unit {0}

-- this analysis has the table of what was asked as the job of this number, by the ASK lines so far that were answered
-- by JOB: one entry for each choice, in their order, each true, and the best choice's exact
pub record IsTrueAnalysis (before : List (LineText × List ℕ)) (job : ℕ) (analysis : Analysis) : Type 0 where
  pub asked : Asked
  pub is : asked_at (asks_of_lines before) job ≡ Some asked
  pub table : IsTable asked.depth asked.board analysis.bounds

-- where a job is shown as done with its table, the table is true
abbrev pub TableHolds : List (LineText × List ℕ) → ℕ → Standing → Type 0
TableHolds before job (Done analysis) = IsTrueAnalysis before job analysis
TableHolds before job _ = Unit {0}

-- a reply is true after these lines: a JOB has the number of the next ask, and a job that is shown as done its true
-- value and move
abbrev pub ReplyHolds : List (LineText × List ℕ) → OfficeReply → Type 0
ReplyHolds before (Job number) = number ≡ length (asks_of_lines before) + 1
ReplyHolds before (Told job standing) = StandingHolds before job standing
ReplyHolds before _ = Unit {0}

-- a reply that is told with the job's table is true after these lines: a JOB has the number of the next ask, and a job
-- that is shown as done its true table
abbrev pub TableReplyHolds : List (LineText × List ℕ) → OfficeReply → Type 0
TableReplyHolds before (Job number) = number ≡ length (asks_of_lines before) + 1
TableReplyHolds before (Told job standing) = TableHolds before job standing
TableReplyHolds before _ = Unit {0}

-- what came of a line is true after these lines
abbrev pub TurnHolds : List (LineText × List ℕ) → LineTurn → Type 0
TurnHolds before (Made call reply) = ReplyHolds before reply
TurnHolds before (Tabulated job reply) = TableReplyHolds before reply
TurnHolds before _ = Unit {0}

-- what came of these lines is true: the k-th ASK that is answered by JOB is answered by JOB k, each DONE k has the
-- minimax value and the best choice of what that line asked for, and each TABLE k its table. `before` has the lines
-- before these with their answers, the last line first
abbrev pub EachDoneIsTrue : List (LineText × List ℕ) → List LineText → List LineTurn → Type 0
EachDoneIsTrue before [] turned = Unit {0}
EachDoneIsTrue before (line ∷ lines) [] = Unit {0}
EachDoneIsTrue before (line ∷ lines) (turn ∷ turned) = TurnHolds before turn × EachDoneIsTrue ((line, turn_text turn) ∷ before) lines turned

-- a session over some office that keeps its asks, in which each JOB, DONE and TABLE line is true by the lines and
-- answers before it (`dones`)
pub record TrueSession {S K : Type 0} (reading : Passage S ReadAnswer) (writing : Passage K WriteAnswer) (r : Result End SessionFault) : Type 0 where
  pub asks : List Asked
  pub session : Session reading writing (between (Called KeepsAsks) [] asks) r
  pub dones : EachDoneIsTrue [] session.answered (turns false session.answered session.replies)
