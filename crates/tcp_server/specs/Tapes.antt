-- Meaning: what the calls on a socket did.
use Rattle.std.specs.Prelude.{◌≡◌, ℕ, ℤ, List, [], ◌∷◌, ◌++◌, Option, Some, None}
use Rattle.line_io.specs.Streams.{ReadAnswer, Gave, Ended, Failed, WriteAnswer, Took, Refused}

-- the number of a socket's descriptor, and what each call there did, in order: the bytes that it moved; None where it failed
pub record TapeOf : Type 0 where
  pub socket : ℤ
  pub calls : List (Option (List ℕ))

-- the tape of a socket on which no call was made
abbrev pub blank_tape : ℤ → TapeOf
blank_tape socket = record { socket = socket; calls = [] }

-- the tape after one more call
abbrev pub taped : Option (List ℕ) → TapeOf → TapeOf
taped call tape = record { socket = tape.socket; calls = tape.calls ++ call ∷ [] }

-- a read as a tape has it: the bytes that it gave, none at the end of the input
abbrev pub heard : ReadAnswer → Option (List ℕ)
heard (Gave bytes) = Some bytes
heard Ended = Some []
heard Failed = None

-- a write as a tape has it: the bytes that it took
abbrev pub sent : WriteAnswer → Option (List ℕ)
sent (Took bytes) = Some bytes
sent Refused = None

-- what one read does to a tape: it grows by just that read
abbrev pub Hears : TapeOf → ReadAnswer → TapeOf → Type 0
Hears from answer to = to ≡ taped (heard answer) from

-- what one write does to a tape: it grows by just that write
abbrev pub Sends : TapeOf → WriteAnswer → TapeOf → Type 0
Sends from answer to = to ≡ taped (sent answer) from

-- a stream, and the tape of what the calls on it did
pub record TapedOf (S : Type 0) : Type 0 where
  pub stream : S
  pub tape : TapeOf

-- what one read of a source with a tape does: the source gave this answer, and the tape has it
abbrev pub HearsFrom : {S : Type 0} → (S → ReadAnswer → S → Type 0) → TapedOf S → ReadAnswer → TapedOf S → Type 0
HearsFrom gives from answer to = gives from.stream answer to.stream × Hears from.tape answer to.tape

-- what one write to a sink with a tape does: the sink took it so, and the tape has it
abbrev pub SendsTo : {K : Type 0} → (K → WriteAnswer → K → Type 0) → TapedOf K → WriteAnswer → TapedOf K → Type 0
SendsTo takes from answer to = takes from.stream answer to.stream × Sends from.tape answer to.tape

-- ---- what one read or write moved that made several calls, or none

-- all bytes that these calls moved, in order
abbrev pub moved : List (Option (List ℕ)) → List ℕ
moved [] = []
moved (None ∷ more) = moved more
moved (Some bytes ∷ more) = bytes ++ moved more

-- from the one tape to the other some calls were made, which moved just these bytes
abbrev pub Moves : TapeOf → List ℕ → TapeOf → Type 0
Moves from bytes to = (calls : List (Option (List ℕ))) × (to ≡ record { socket = from.socket; calls = from.calls ++ calls }) × (moved calls ≡ bytes)

-- the bytes that a read gave
abbrev pub given : ReadAnswer → List ℕ
given (Gave bytes) = bytes
given Ended = []
given Failed = []

-- the bytes that a write took
abbrev pub took : WriteAnswer → List ℕ
took (Took bytes) = bytes
took Refused = []

-- a socket that is read ahead: the bytes that have come and weren't given yet, and the tape of its reads
pub record AheadOf : Type 0 where
  pub ahead : List ℕ
  pub tape : TapeOf

-- a socket of which nothing was read
abbrev pub unread : ℤ → AheadOf
unread socket = record { ahead = []; tape = blank_tape socket }

-- from the one state to the other just these bytes were given: what was ahead, and then what came, is these and then what is ahead
abbrev pub HandsOn : AheadOf → List ℕ → AheadOf → Type 0
HandsOn from bytes to = (came : List ℕ) × Moves from.tape came to.tape × (from.ahead ++ came ≡ bytes ++ to.ahead)

-- what one read of such a socket does, in as many calls as it makes
abbrev pub Fills : AheadOf → ReadAnswer → AheadOf → Type 0
Fills from answer to = HandsOn from (given answer) to

-- what one write to a socket does, in as many calls as it makes: they moved just what it took
abbrev pub Puts : TapeOf → WriteAnswer → TapeOf → Type 0
Puts from answer to = Moves from (took answer) to
