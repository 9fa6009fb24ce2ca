-- Meaning: a whole run over an input: what was read, which lines were answered, and what was written.
use Rattle.std.specs.Prelude.{◌≡◌, ◌⊎◌, ℕ, ◌<◌, ◌≤◌, ◌^◌, List, [], ◌∷◌, ◌++◌, map, length, Result, Ok, Err}
use Rattle.std.specs.List.{concat, flat_map}
use Rattle.line_io.specs.declared.faults.LineFault.{LineFault}
use Rattle.line_io.specs.declared.faults.LineFault.TheVariants.{Read, Write, TooMuch}
use Rattle.line_io.specs.declared.faults.WriteFailed.{WriteFailed}
use Rattle.line_io.specs.Lines.{LineText, lines_of, up_to_last_end}
use Rattle.line_io.specs.Leads.{Leads, Passage, AnswerPassage}
use Rattle.line_io.specs.Streams.{ReadAnswer, Gave, Ended, Failed, WriteAnswer}
use Rattle.line_io.specs.Writes.{LinesAnswered, with_newline, writes_of}

-- the bytes whose lines are to be answered: all, where the end of the input was read or a write failed, and else those up to the last LF
abbrev pub bytes_due : {X : Type 0} → Result X LineFault → List ℕ → List ℕ
bytes_due (Ok _) bytes = bytes
bytes_due (Err Read) bytes = up_to_last_end bytes
bytes_due (Err Write) bytes = bytes
bytes_due (Err TooMuch) bytes = up_to_last_end bytes

-- how the writes of a run with this result ended: with a failure at fault 2 (`Write`), else well
abbrev pub write_result : {X : Type 0} → Result X LineFault → Result (Unit {0}) WriteFailed
write_result (Ok _) = Ok tt
write_result (Err Read) = Ok tt
write_result (Err Write) = Err (record {})
write_result (Err TooMuch) = Ok tt

-- the read after those that gave bytes: at Ok it gave the end, and at fault 1 it failed. At fault 2 it gave the end or there was none.
-- At fault 3 there was none, and at least 2^62 bytes were read
abbrev pub IsEnding : Result (Unit {0}) LineFault → List ℕ → List ReadAnswer → Type 0
IsEnding (Ok _) bytes last = last ≡ Ended ∷ []
IsEnding (Err Read) bytes last = last ≡ Failed ∷ []
IsEnding (Err Write) bytes last = (last ≡ []) ⊎ (last ≡ Ended ∷ [])
IsEnding (Err TooMuch) bytes last = (last ≡ []) × (2 ^ 62 ≤ length bytes)

-- a whole run: blocks were read, and the lines in them that were due (`bytes_due`) were answered
pub record Run {S K A : Type 0} (reading : Passage S ReadAnswer) (writing : Passage K WriteAnswer) (answered : AnswerPassage A) (r : Result (Unit {0}) LineFault) : Type 0 where
  pub blocks : List (List ℕ)
  pub last : List ReadAnswer
  pub reads : Leads reading.step reading.from (map Gave blocks ++ last) reading.to
  pub ends : IsEnding r (concat blocks) last
  pub lines : LinesAnswered writing answered (lines_of (bytes_due r (concat blocks))) (write_result r)

-- what is written for these lines where each is answered by this function: each answer, followed by LF
abbrev pub answers_to : (LineText → List ℕ) → List LineText → List ℕ
answers_to answer lines = flat_map (λ line. with_newline (answer line)) lines

-- `written` is a beginning of `due`, but not all of it
abbrev pub IsProperPrefix : List ℕ → List ℕ → Type 0
IsProperPrefix written due = (rest : List ℕ) × (written ++ rest ≡ due) × (0 < length rest)

-- what was written of what was due: at Ok all of it, and where a write failed a beginning of it, but not all
abbrev pub IsOutput : Result (Unit {0}) WriteFailed → List ℕ → List ℕ → Type 0
IsOutput (Ok _) written due = written ≡ due
IsOutput (Err _) written due = IsProperPrefix written due

-- a run that answers by a function, as its reads and writes tell it: blocks were read and pieces written, and the
-- pieces together are what `out` gives for the bytes whose lines are due (`bytes_due`), at fault 2 a beginning of that
pub record FunctionRun {S K : Type 0} (reading : Passage S ReadAnswer) (writing : Passage K WriteAnswer) (out : List ℕ → List ℕ) (r : Result (Unit {0}) LineFault) : Type 0 where
  pub blocks : List (List ℕ)
  pub last : List ReadAnswer
  pub pieces : List (List ℕ)
  pub reads : Leads reading.step reading.from (map Gave blocks ++ last) reading.to
  pub ends : IsEnding r (concat blocks) last
  pub writes : Leads writing.step writing.from (writes_of pieces (write_result r)) writing.to
  pub written : IsOutput (write_result r) (concat pieces) (out (bytes_due r (concat blocks)))
