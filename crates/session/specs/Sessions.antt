-- Meaning: a whole session with a client: what was read, the calls of the office, and what was written.
use Rattle.std.specs.Prelude.{◌≡◌, ℕ, List, ◌++◌, map, Bool, true, false, Result, Ok, Err}
use Rattle.std.specs.List.{concat}
use Rattle.line_io.specs.declared.faults.LineFault.{LineFault}
use Rattle.line_io.specs.declared.faults.LineFault.TheVariants.{Read as read_fault, Write as write_fault}
use Rattle.line_io.specs.declared.faults.WriteFailed.{WriteFailed}
use Rattle.line_io.specs.declared.talking.TalkEnd.{TalkEnd}
use Rattle.line_io.specs.declared.talking.TalkEnd.TheVariants.{Line as by_line, Input as by_input}
use Rattle.line_io.specs.Lines.{LineText, lines_of}
use Rattle.line_io.specs.Leads.{Leads, IsPrefixOf, Passage}
use Rattle.line_io.specs.Streams.{ReadAnswer, Gave, WriteAnswer}
use Rattle.line_io.specs.Writes.{writes_of, written_texts, IsCutShort}
use Rattle.line_io.specs.Runs.{bytes_due, write_result}
use Rattle.line_io.specs.Talks.{upto, IsTalkEnd}
use Rattle.protocol.specs.Faults.{fault_number}
use Rattle.protocol.specs.Texts.{error_text}
use Rattle.session.specs.declared.faults.SessionFault.{SessionFault}
use Rattle.session.specs.declared.faults.SessionFault.TheVariants.{Read, Write}
use Rattle.session.specs.declared.faults.End.{End}
use Rattle.session.specs.declared.faults.End.TheVariants.{Bye, EndOfInput}
use Rattle.session.specs.Calls.{Call, Get, Leave, OfficeReply, Gone}
use Rattle.session.specs.Requests.{is_bye}
use Rattle.session.specs.Requests.{Request, Fault, Makes, Tabulates, Ends}
use Rattle.session.specs.Turns.{turns, calls_in, turn_text, reply_text, table_text, seated_after}

-- the lines of a session: those of the bytes up to a line BYE, that one too
abbrev pub session_lines : List ℕ → List LineText
session_lines bytes = upto is_bye (lines_of bytes)

-- the calls made of the office for these lines, each with its reply
abbrev pub calls_for : List LineText → List OfficeReply → List (Call × OfficeReply)
calls_for lines replies = calls_in false (turns false lines replies)

-- the texts that answer these lines of a session, where the office replies so
abbrev pub texts_for : List LineText → List OfficeReply → List (List ℕ)
texts_for lines replies = map turn_text (turns false lines replies)

-- the calls made of the office for an input, each with its reply, where the office replies this
abbrev pub calls : List ℕ → List OfficeReply → List (Call × OfficeReply)
calls bytes replies = calls_for (session_lines bytes) replies

-- the bytes that are written for an input, where the office replies this
abbrev pub out : List ℕ → List OfficeReply → List ℕ
out bytes replies = written_texts (texts_for (session_lines bytes) replies)

-- the office does this call and gives this reply, by which it changes from the one state to the other
abbrev pub Called : {O : Type 0} → (O → Call → OfficeReply → O → Type 0) → O → Call × OfficeReply → O → Type 0
Called does from made to = does from made.0 made.1 to

-- the session's tenant leaves if it has one (true); else the office is not called
abbrev pub LeavesIf : {O : Type 0} → (O → Call → OfficeReply → O → Type 0) → Bool → O → O → Type 0
LeavesIf does true from to = does from Leave Gone to
LeavesIf does false from to = from ≡ to

-- what a session's handler has: its office, and whether a tenant is there
pub record HandlerOf (O : Type 0) : Type 0 where
  pub office : O
  pub seated : Bool

-- the handler with this office, where a tenant is there or not
abbrev pub handler_of : {O : Type 0} → O → Bool → HandlerOf O
handler_of office seated = record { office = office; seated = seated }

-- what one request comes to, by the handler before it, the text of the answer and the handler after it: a fault calls
-- nothing, a call is made and its reply told, a table is got by Get, and at the end a tenant that is there leaves
abbrev pub Turned : {O : Type 0} → (O → Call → OfficeReply → O → Type 0) → Request → HandlerOf O → List ℕ → HandlerOf O → Type 0
Turned does (Fault fault) from text to = (from.office ≡ to.office) × (to.seated ≡ from.seated) × (text ≡ error_text (fault_number fault))
Turned does (Makes call) from text to =
    (reply : OfficeReply) × does from.office call reply to.office × (to.seated ≡ seated_after from.seated reply) × (text ≡ reply_text reply)
Turned does (Tabulates job) from text to =
    (reply : OfficeReply) × does from.office (Get job) reply to.office × (to.seated ≡ seated_after from.seated reply) × (text ≡ table_text reply)
Turned does Ends from text to = LeavesIf does from.seated from.office to.office × (to.seated ≡ false) × (text ≡ reply_text Gone)

-- how a session ended, as the end of its exchange of lines and answers
abbrev pub talk_result : Result End SessionFault → Result TalkEnd LineFault
talk_result (Ok Bye) = Ok by_line
talk_result (Ok EndOfInput) = Ok by_input
talk_result (Err Read) = Err read_fault
talk_result (Err Write) = Err write_fault

-- which of the lines that were read are answered: all, but after a failed write only the first ones
abbrev pub IsAnsweredOf : Result End SessionFault → List LineText → List LineText → Type 0
IsAnsweredOf (Ok _) answered lines = answered ≡ lines
IsAnsweredOf (Err Read) answered lines = answered ≡ lines
IsAnsweredOf (Err Write) answered lines = IsPrefixOf answered lines

-- these bytes are all these texts, each with LF; after a failed write, all but a rest of the last text
abbrev pub IsWrittenOf : Result (Unit {0}) WriteFailed → List ℕ → List (List ℕ) → Type 0
IsWrittenOf (Ok _) bytes texts = bytes ≡ written_texts texts
IsWrittenOf (Err _) bytes texts = (rest : List ℕ) × (bytes ++ rest ≡ written_texts texts) × IsCutShort texts rest

-- a whole session: the blocks that were read and the read after them, the lines of them that were answered, the
-- office's replies, and the pieces that were written. At fault 1 the bytes after the last LF are no line. At fault 2
-- the last of the answered lines is the one whose answer wasn't written
pub record Session {S K O : Type 0} (reading : Passage S ReadAnswer) (writing : Passage K WriteAnswer) (calling : Passage O (Call × OfficeReply)) (r : Result End SessionFault) : Type 0 where
  pub blocks : List (List ℕ)
  pub last : List ReadAnswer
  pub answered : List LineText
  pub replies : List OfficeReply
  pub pieces : List (List ℕ)
  pub reads : Leads reading.step reading.from (map Gave blocks ++ last) reading.to
  pub ends : IsTalkEnd is_bye (talk_result r) (concat blocks) last
  pub lines : IsAnsweredOf r answered (session_lines (bytes_due (talk_result r) (concat blocks)))
  pub made : Leads calling.step calling.from (calls_for answered replies) calling.to
  pub writes : Leads writing.step writing.from (writes_of pieces (write_result (talk_result r))) writing.to
  pub written : IsWrittenOf (write_result (talk_result r)) (concat pieces) (texts_for answered replies)
