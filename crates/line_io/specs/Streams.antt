-- Meaning: what one read of an input or one write of an output did.
use Rattle.std.specs.Prelude.{ℕ, List, [], take, ◌==◌, if◌then◌else◌, Option, Result, Ok, Err}
use Rattle.std.specs.Io.KnownBytes.{Keeps, Appends, Consumes, IsAtEnd}
use Rattle.line_io.specs.declared.faults.ReadFailed.{ReadFailed}
use Rattle.line_io.specs.declared.faults.WriteFailed.{WriteFailed}

-- what one read did: it gave these bytes, or the end of the input, or it failed
pub data ReadAnswer : Type 0 where
  Gave : (bytes : List ℕ) → ReadAnswer
  Ended : ReadAnswer
  Failed : ReadAnswer

-- what one write of an output did: it took these bytes (the first of those that were offered), or it failed
pub data WriteAnswer : Type 0 where
  Took : (bytes : List ℕ) → WriteAnswer
  Refused : WriteAnswer

-- what one read of an input (a call of `fill`) did, by its result and by the block of bytes after it
abbrev pub read_answer : Result ℕ ReadFailed → List ℕ → ReadAnswer
read_answer (Ok n) block = if n == 0 then Ended else Gave (take n block)
read_answer (Err _) block = Failed

-- what one write of an output (a call of `put`) did, by its result and by the bytes that it was offered
abbrev pub write_answer : Result ℕ WriteFailed → List ℕ → WriteAnswer
write_answer (Ok n) bytes = Took (take n bytes)
write_answer (Err _) bytes = Refused

-- what a read does to the bytes that are left, where they are known (Some): it gives the first of them, and the end
-- only where none is left; where it fails, all are left
abbrev pub ReadsKnown : Option (List ℕ) → ReadAnswer → Option (List ℕ) → Type 0
ReadsKnown old (Gave bytes) new = Consumes old new bytes
ReadsKnown old Ended new = Consumes old new [] × IsAtEnd new
ReadsKnown old Failed new = Keeps old new

-- what a write does to the contents, where they are known (Some): what it took is appended; where it fails, they stay
abbrev pub WritesKnown : Option (List ℕ) → WriteAnswer → Option (List ℕ) → Type 0
WritesKnown old (Took bytes) new = Appends old new bytes
WritesKnown old Refused new = Keeps old new
