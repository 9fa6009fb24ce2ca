-- Meaning: what a line of a site's operator asks.
use Rattle.std.specs.Prelude.{ℕ, ◌*◌, List, Option, Some, None, Bool, ◌&&◌, true, false, if◌then◌else◌, codes}
use Rattle.std.specs.Str.{bytes_eq}
use Rattle.protocol.specs.Words.{split_at_space, word_number}

-- whose sessions are meant: those of the customer of a name, those of the guest of an address, or the one of this number in the
-- hall of this number
pub data WhoseOf : Type 0 where
  Customer : (name : List ℕ) → WhoseOf
  Address : (text : List ℕ) → WhoseOf
  Session : (hall number : ℕ) → WhoseOf

-- what a line of the site's operator asks
pub data CommandOf : Type 0 where
  Stats : CommandOf
  End : WhoseOf → CommandOf
  Drain : (milliseconds : ℕ) → CommandOf
  Reload : (ends : Bool) → CommandOf
  Unknown : CommandOf

-- what an operator's line of one word asks
abbrev pub bare_command : List ℕ → CommandOf
bare_command word =
    if bytes_eq word (codes "STATS") then Stats
    else (if bytes_eq word (codes "RELOAD") then Reload false
    else Unknown)

-- the end of a session, by the numbers of its hall and of itself; None is no number
abbrev pub end_of_session : Option ℕ → Option ℕ → CommandOf
end_of_session (Some hall) (Some number) = End (Session hall number)
end_of_session (Some hall) None = Unknown
end_of_session None number = Unknown

-- whose session a line END of the operator names, by the words behind SESSION
abbrev pub session_by : Option (List ℕ × List ℕ) → CommandOf
session_by None = Unknown
session_by (Some words) = end_of_session (word_number words.0) (word_number words.1)

-- whose sessions are to end, by the words behind END: a kind, and what follows it
abbrev pub end_by : Option (List ℕ × List ℕ) → CommandOf
end_by None = Unknown
end_by (Some words) =
    if bytes_eq words.0 (codes "CUSTOMER") then End (Customer words.1)
    else (if bytes_eq words.0 (codes "ADDRESS") then End (Address words.1)
    else (if bytes_eq words.0 (codes "SESSION") then session_by (split_at_space words.1)
    else Unknown))

-- the command that the site take nobody more, and that its sessions end within so many seconds (1,000 milliseconds
-- each); unknown without a number
abbrev pub drain_within : Option ℕ → CommandOf
drain_within None = Unknown
drain_within (Some seconds) = Drain (seconds * 1000)

-- what an operator's line of more words asks
abbrev pub command_with : List ℕ → List ℕ → CommandOf
command_with word rest =
    if bytes_eq word (codes "RELOAD") && bytes_eq rest (codes "END") then Reload true
    else (if bytes_eq word (codes "DRAIN") then drain_within (word_number rest)
    else (if bytes_eq word (codes "END") then end_by (split_at_space rest)
    else Unknown))

-- what a line asks, by how it splits at its first space
abbrev pub command_by : List ℕ → Option (List ℕ × List ℕ) → CommandOf
command_by line None = bare_command line
command_by line (Some words) = command_with words.0 words.1

-- what a line of the operator asks
abbrev pub command_of : List ℕ → CommandOf
command_of line = command_by line (split_at_space line)
