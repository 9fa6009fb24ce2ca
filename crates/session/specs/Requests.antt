-- Meaning: the table of a session's lines: each command with its arguments, and what it asks for, or its first fault: 22 where the line is too long, 21
-- where its word is unknown or has another number of arguments, 28 before HELLO, 29 for HELLO again, 23 where a number is none or those of HELLO and
-- RESERVE are outside the limits, 27 where the depth is over 12, then 24 for the length of a position's text, 25 for a cell and 26 for the side.
use Rattle.std.specs.Prelude.{ℕ, List, Bool, true, false, Option, Some, None, Result, Ok, Err, ◌&&◌, nat_le, if◌then◌else◌, codes}
use Rattle.std.specs.Option.{is_none}
use Rattle.std.specs.Str.{bytes_eq}
use Rattle.line_io.specs.Lines.{LineText, Whole, TooLong}
use Rattle.protocol.specs.declared.faults.ProtocolFault.{ProtocolFault}
use Rattle.protocol.specs.declared.faults.ProtocolFault.TheVariants.{NoCommand, LongLine, NoNumber, NoHello, HelloAgain}
use Rattle.protocol.specs.Questions.{QuestionOf, question}
use Rattle.protocol.specs.Words.{split_at_space, word_number}
use Rattle.tenant_quota.specs.Reserves.{ReserveOf}
use Rattle.session.specs.Calls.{Call, Hello, Reserve, Ask, Get, Wait, Cancel, AskQuota, AskLive}

-- what a line asks for: nothing, as it has a fault; a call of the office whose reply is told; a Get whose reply is told
-- with its table; or the end of the session
pub data Request : Type 0 where
  Fault : (fault : ProtocolFault) → Request
  Makes : (call : Call) → Request
  Tabulates : (job : ℕ) → Request
  Ends : Request

-- what an ASK line asks for, by how its arguments were read: their value, or their first fault
abbrev pub ask_request : Result QuestionOf ProtocolFault → Request
ask_request (Ok asked) = Makes (Ask asked.depth asked.board asked.side)
ask_request (Err fault) = Fault fault

-- whether a reservation is within the limits: 1 to 4,096 segments and 1 to 65,536 nodes
abbrev pub is_within_limits : ℕ → ℕ → Bool
is_within_limits segments nodes = nat_le 1 segments && nat_le segments 4096 && nat_le 1 nodes && nat_le nodes 65536

-- the amounts of segments and nodes that a line HELLO or RESERVE says; None unless both are numbers within the limits
abbrev pub quota_of : Option ℕ → Option ℕ → Option ReserveOf
quota_of None nodes = None
quota_of (Some segments) None = None
quota_of (Some segments) (Some nodes) = if is_within_limits segments nodes then Some (record { segments = segments; nodes = nodes }) else None

-- what a line HELLO or RESERVE asks for: this call with the reservation that it says; fault 23 where an amount is no
-- number or outside the limits
abbrev pub quota_request : (ReserveOf → Call) → Option ReserveOf → Request
quota_request call None = Fault NoNumber
quota_request call (Some quota) = Makes (call quota)

-- what a line about a job asks for, by the job's number; fault 23 where that is no number
abbrev pub job_request : (ℕ → Request) → Option ℕ → Request
job_request asked None = Fault NoNumber
job_request asked (Some job) = asked job

-- a line's command, by when it may come: HELLO with the amounts that it says (None where it says none), before a tenant is there; any other with what
-- it asks for, once one is there; and BYE always
pub data LineCommand : Type 0 where
  AtFirst : (quota : Option ReserveOf) → LineCommand
  OnceSeated : (asked : Request) → LineCommand
  AtAnyTime : LineCommand

-- the command of a line of one word; None where that is no command without arguments
abbrev pub command_alone : List ℕ → Option LineCommand
command_alone word =
    if bytes_eq word (codes "QUOTA") then Some (OnceSeated (Makes AskQuota))
    else (if bytes_eq word (codes "LIVE") then Some (OnceSeated (Makes AskLive))
    else (if bytes_eq word (codes "BYE") then Some AtAnyTime
    else None))

-- the command of a line of two words; None unless the first is one of these
abbrev pub command_with_one : List ℕ → List ℕ → Option LineCommand
command_with_one word argument =
    if bytes_eq word (codes "GET") then Some (OnceSeated (job_request (λ k. Makes (Get k)) (word_number argument)))
    else (if bytes_eq word (codes "WAIT") then Some (OnceSeated (job_request (λ k. Makes (Wait k)) (word_number argument)))
    else (if bytes_eq word (codes "CANCEL") then Some (OnceSeated (job_request (λ k. Makes (Cancel k)) (word_number argument)))
    else (if bytes_eq word (codes "TABLE") then Some (OnceSeated (job_request Tabulates (word_number argument)))
    else None)))

-- the command of a line of three words or more, where `second` is all that follows the second space: for ASK that is
-- the position; HELLO and RESERVE have just two arguments
abbrev pub command_with_two : List ℕ → List ℕ → List ℕ → Option LineCommand
command_with_two word first second =
    if bytes_eq word (codes "ASK") then Some (OnceSeated (ask_request (question first second)))
    else (if bytes_eq word (codes "HELLO") && is_none (split_at_space second) then Some (AtFirst (quota_of (word_number first) (word_number second)))
    else (if bytes_eq word (codes "RESERVE") && is_none (split_at_space second) then Some (OnceSeated (quota_request Reserve (quota_of (word_number first) (word_number second))))
    else None))

-- the command of a line with a first word and a rest after it, by how the rest splits at its first space
abbrev pub line_command_after : List ℕ → List ℕ → Option (List ℕ × List ℕ) → Option LineCommand
line_command_after word rest None = command_with_one word rest
line_command_after word rest (Some words) = command_with_two word words.0 words.1

-- the command of a line, by how it splits at its first space
abbrev pub line_command_by : List ℕ → Option (List ℕ × List ℕ) → Option LineCommand
line_command_by line None = command_alone line
line_command_by line (Some words) = line_command_after words.0 words.1 (split_at_space words.1)

-- the command of a line, with its arguments; None where its first word is unknown or has another number of arguments
abbrev pub line_command : List ℕ → Option LineCommand
line_command line = line_command_by line (split_at_space line)

-- what a line asks for, by whether a tenant is there and its command; fault 21 where it has none
abbrev pub command_request : Bool → Option LineCommand → Request
command_request seated None = Fault NoCommand
command_request true (Some (AtFirst quota)) = Fault HelloAgain
command_request false (Some (AtFirst quota)) = quota_request Hello quota
command_request true (Some (OnceSeated asked)) = asked
command_request false (Some (OnceSeated asked)) = Fault NoHello
command_request seated (Some AtAnyTime) = Ends

-- what a line asks for, by whether a tenant is there; fault 22 where it is too long
abbrev pub request : Bool → LineText → Request
request seated TooLong = Fault LongLine
request seated (Whole bytes) = command_request seated (line_command bytes)

-- whether a line ends the session: it is just BYE
abbrev pub is_bye : LineText → Bool
is_bye (Whole bytes) = bytes_eq bytes (codes "BYE")
is_bye TooLong = false
