-- Meaning: a talk: the lines of an input are answered up to one that ends it.
use Rattle.std.specs.Prelude.{◌≡◌, ◌⊎◌, ℕ, List, [], ◌∷◌, ◌++◌, map, Bool, true, false, not, ◌&&◌, if◌then◌else◌, Result, Ok, Err}
use Rattle.std.specs.List.{concat}
use Rattle.line_io.specs.declared.faults.LineFault.{LineFault}
use Rattle.line_io.specs.declared.faults.LineFault.TheVariants.{Read, Write, TooMuch}
use Rattle.line_io.specs.declared.faults.WriteFailed.{WriteFailed}
use Rattle.line_io.specs.declared.talking.TalkEnd.{TalkEnd}
use Rattle.line_io.specs.declared.talking.TalkEnd.TheVariants.{Line as by_line, Input as by_input}
use Rattle.line_io.specs.Lines.{LineText, lines_of, up_to_last_end}
use Rattle.line_io.specs.Leads.{Leads, Passage, AnswerPassage}
use Rattle.line_io.specs.Streams.{ReadAnswer, Gave, Ended, Failed, WriteAnswer}
use Rattle.line_io.specs.Writes.{LinesAnswered}
use Rattle.line_io.specs.Runs.{bytes_due, write_result}

-- the lines up to and including the first that ends the talk; all of them where none does
abbrev pub upto : (LineText → Bool) → List LineText → List LineText
upto ends [] = []
upto ends (l ∷ ls) = if ends l then l ∷ [] else l ∷ upto ends ls

-- none of these lines ends the talk
abbrev pub none_ends : (LineText → Bool) → List LineText → Bool
none_ends ends [] = true
none_ends ends (l ∷ ls) = not (ends l) && none_ends ends ls

-- how a talk ended, by whether none of its lines ends it: by the end of the input (true) or by a line (false)
abbrev pub end_of : Bool → TalkEnd
end_of true = by_input
end_of false = by_line

-- a result without its value: whether the writes succeeded
abbrev pub written : {X : Type 0} → Result X WriteFailed → Result (Unit {0}) WriteFailed
written (Ok _) = Ok tt
written (Err e) = Err e

-- how a talk with this result ended, by the reads after those that gave bytes (`last`) and by the lines. By a line:
-- one of the lines ends the talk; where the end of the input wasn't read, one of those that an LF ended. By the input:
-- the end of the input was read, and no line ends the talk. At fault 1 the read failed, and none of the lines that an
-- LF ended ends the talk. At fault 2 a write failed. Fault 3 never comes
abbrev pub IsTalkEnd : (LineText → Bool) → Result TalkEnd LineFault → List ℕ → List ReadAnswer → Type 0
IsTalkEnd ends (Ok by_line) bytes last =
    ((last ≡ []) × (none_ends ends (lines_of (up_to_last_end bytes)) ≡ false)) ⊎ ((last ≡ Ended ∷ []) × (none_ends ends (lines_of bytes) ≡ false))
IsTalkEnd ends (Ok by_input) bytes last = (last ≡ Ended ∷ []) × (none_ends ends (lines_of bytes) ≡ true)
IsTalkEnd ends (Err Read) bytes last = (last ≡ Failed ∷ []) × (none_ends ends (lines_of (up_to_last_end bytes)) ≡ true)
IsTalkEnd ends (Err Write) bytes last = (last ≡ []) ⊎ (last ≡ Ended ∷ [])
IsTalkEnd ends (Err TooMuch) bytes last = ⊥

-- a whole talk: blocks were read, and the lines in them were answered, up to and including the one that ends the talk
pub record Talk {S K A : Type 0} (reading : Passage S ReadAnswer) (writing : Passage K WriteAnswer) (answered : AnswerPassage A) (ends : LineText → Bool) (r : Result TalkEnd LineFault) : Type 0 where
  pub blocks : List (List ℕ)
  pub last : List ReadAnswer
  pub reads : Leads reading.step reading.from (map Gave blocks ++ last) reading.to
  pub ending : IsTalkEnd ends r (concat blocks) last
  pub lines : LinesAnswered writing answered (upto ends (lines_of (bytes_due r (concat blocks)))) (write_result r)
