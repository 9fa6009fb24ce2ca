-- Meaning: what comes of the lines of a session, one after another: calls of the office and texts, as functions of the lines and of the
-- office's replies.
use Rattle.std.specs.Prelude.{ℕ, List, [], ◌∷◌, ◌++◌, Bool, true, false, Some, codes, decimal}
use Rattle.line_io.specs.Lines.{LineText}
use Rattle.std.specs.Fmt.{signed_decimal}
use Rattle.othello_eval.specs.declared.bound.Bound.{Bound}
use Rattle.othello_eval.specs.declared.bound.BoundKind.{BoundKind}
use Rattle.othello_eval.specs.declared.bound.BoundKind.TheVariants.{Low, High, Exact}
use Rattle.protocol.specs.declared.faults.ProtocolFault.{ProtocolFault}
use Rattle.protocol.specs.Faults.{fault_number}
use Rattle.protocol.specs.Texts.{value_text, move_text, error_text}
use Rattle.session.specs.declared.standings.Standing.{Standing}
use Rattle.session.specs.declared.standings.Standing.TheVariants.{Pending, Done, Spent, Cancelled}
use Rattle.session.specs.Calls.{Call, Get, Leave, OfficeReply, Welcome, Reserved, Job, Told, Ended, Rest, Alive, Gone, Refused}
use Rattle.session.specs.Requests.{Request, Fault, Makes, Tabulates, Ends, request}

-- what came of a line: a fault, a call with its reply, a Get of a job whose reply is told with its table, or the end of the session
pub data LineTurn : Type 0 where
  Faulted : (fault : ProtocolFault) → LineTurn
  Made : (call : Call) (reply : OfficeReply) → LineTurn
  Tabulated : (job : ℕ) (reply : OfficeReply) → LineTurn
  Closed : LineTurn

-- the first of the replies that are left: each call takes one. Where none is left it is a refusal by 0, which no office
-- gives
abbrev pub next_reply : List OfficeReply → OfficeReply
next_reply [] = Refused 0
next_reply (r ∷ rs) = r

-- the replies that are left after one call more
abbrev pub later_replies : List OfficeReply → List OfficeReply
later_replies [] = []
later_replies (r ∷ rs) = rs

-- whether a tenant is there after a reply: from a WELCOME on, until it has left
abbrev pub seated_after : Bool → OfficeReply → Bool
seated_after seated (Welcome quota) = true
seated_after seated Gone = false
seated_after seated _ = seated

-- one of four results, by what a line asks for: of a fault, a call, a table, or the end
abbrev pub by_request : {X : Type 0} → Request → (ProtocolFault → X) → (Call → X) → (ℕ → X) → (Unit {0} → X) → X
by_request (Fault met) fault call table end = fault met
by_request (Makes made) fault call table end = call made
by_request (Tabulates job) fault call table end = table job
by_request Ends fault call table end = end tt

-- what comes of these lines, where a tenant is there before them or not, and the office gives these replies in order
abbrev pub turns : Bool → List LineText → List OfficeReply → List LineTurn
turns seated [] replies = []
turns seated (line ∷ lines) replies =
    by_request (request seated line)
    (λ fault. Faulted fault ∷ turns seated lines replies)
    (λ call. Made call (next_reply replies) ∷ turns (seated_after seated (next_reply replies)) lines (later_replies replies))
    (λ job. Tabulated job (next_reply replies) ∷ turns (seated_after seated (next_reply replies)) lines (later_replies replies))
    (λ _. Closed ∷ turns false lines replies)

-- the call by which the session's tenant leaves, if it has one
abbrev pub leaving : Bool → List (Call × OfficeReply)
leaving true = (Leave, Gone) ∷ []
leaving false = []

-- the calls of these turns with their replies, in order. The tenant leaves at a line BYE, or else when the session ends
abbrev pub calls_in : Bool → List LineTurn → List (Call × OfficeReply)
calls_in seated [] = leaving seated
calls_in seated (Faulted fault ∷ more) = calls_in seated more
calls_in seated (Made call reply ∷ more) = (call, reply) ∷ calls_in (seated_after seated reply) more
calls_in seated (Tabulated job reply ∷ more) = (Get job, reply) ∷ calls_in (seated_after seated reply) more
calls_in seated (Closed ∷ more) = leaving seated ++ calls_in false more

-- the text of two numbers with a space between them
abbrev pub pair_text : ℕ → ℕ → List ℕ
pair_text first second = decimal first ++ codes " " ++ decimal second

-- the answer that tells how a job stands
abbrev pub standing_text : ℕ → Standing → List ℕ
standing_text job Pending = codes "PENDING " ++ decimal job
standing_text job (Done analysis) = codes "DONE " ++ decimal job ++ codes " " ++ value_text analysis.best.value analysis.best.choice
standing_text job Spent = codes "SPENT " ++ decimal job
standing_text job Cancelled = codes "CANCELLED " ++ decimal job

-- the answer that tells a reply of the office
abbrev pub reply_text : OfficeReply → List ℕ
reply_text (Welcome quota) = codes "WELCOME " ++ pair_text quota.segments quota.nodes
reply_text (Reserved quota) = codes "RESERVED " ++ pair_text quota.segments quota.nodes
reply_text (Job number) = codes "JOB " ++ decimal number
reply_text (Told job standing) = standing_text job standing
reply_text (Ended job) = codes "CANCELLED " ++ decimal job
reply_text (Rest left) = codes "QUOTA " ++ pair_text left.segments left.nodes ++ codes " " ++ decimal left.steps
reply_text (Alive live) = codes "LIVE " ++ pair_text live.frames live.words
reply_text Gone = codes "BYE"
reply_text (Refused number) = error_text number

-- what a score says of the value of its choice: = that it is the score, < at most the score, > at least
abbrev pub kind_text : BoundKind → List ℕ
kind_text Exact = codes "="
kind_text Low = codes "<"
kind_text High = codes ">"

-- an entry of a table: a space, the move, what the score says, and the score
abbrev pub entry_text : Bound → List ℕ
entry_text bound = codes " " ++ move_text (Some bound.choice) ++ kind_text bound.kind ++ signed_decimal bound.score

-- the text of a table's entries, one after another
abbrev pub entries_text : List Bound → List ℕ
entries_text [] = []
entries_text (bound ∷ more) = entry_text bound ++ entries_text more

-- the text that tells how a job stands, with its table where it is done
abbrev pub table_standing_text : ℕ → Standing → List ℕ
table_standing_text job (Done analysis) = codes "TABLE " ++ decimal job ++ entries_text analysis.bounds
table_standing_text job standing = standing_text job standing

-- the answer to a line TABLE, by the office's reply
abbrev pub table_text : OfficeReply → List ℕ
table_text (Told job standing) = table_standing_text job standing
table_text reply = reply_text reply

-- the text by which a line of a session is answered
abbrev pub turn_text : LineTurn → List ℕ
turn_text (Faulted fault) = error_text (fault_number fault)
turn_text (Made call reply) = reply_text reply
turn_text (Tabulated job reply) = table_text reply
turn_text Closed = codes "BYE"
