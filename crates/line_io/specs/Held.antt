-- Representation: what a cutter of lines holds: the bytes since the last LF, or nothing where no line of at most 128
-- bytes can come of them.
use Rattle.std.specs.Prelude.{ℕ, List, [], ◌∷◌, ◌++◌, length, nat_le, ◌==◌, if◌then◌else◌, Option, Some, None}
use Rattle.std.specs.Str.Lines.{strip_carriage_return}
use Rattle.line_io.specs.Lines.{LineText, Whole, TooLong, line_text}

-- what a cutter of lines holds of the bytes since the last LF: the bytes themselves, or None where the line that an LF
-- ended now would have more than 128 bytes
abbrev pub held : List ℕ → Option (List ℕ)
held bytes = if nat_le (length (strip_carriage_return bytes)) 128 then Some bytes else None

-- what a cutter of lines holds after one more byte, which is no LF
abbrev pub with_byte : Option (List ℕ) → ℕ → Option (List ℕ)
with_byte None byte = None
with_byte (Some bytes) byte = held (bytes ++ byte ∷ [])

-- the line that an LF ends now, where a cutter holds this: its bytes, or that it is too long
abbrev pub ended_line : Option (List ℕ) → LineText
ended_line None = TooLong
ended_line (Some bytes) = Whole (strip_carriage_return bytes)

-- the last line of an input that ends now, by what the cutter holds; None where no byte came since the last LF
abbrev pub last_line : Option (List ℕ) → Option LineText
last_line None = Some TooLong
last_line (Some []) = None
last_line (Some (b ∷ bs)) = Some (line_text (b ∷ bs))

-- what a cutter of lines holds after these bytes, where it holds `line` before them: each LF among them begins a new
-- line
abbrev pub held_after : Option (List ℕ) → List ℕ → Option (List ℕ)
held_after line [] = line
held_after line (b ∷ bs) = held_after (if b == 10 then Some [] else with_byte line b) bs

-- the lines that an LF among these bytes ends, in order, where `line` is held before them
abbrev pub ended_within : Option (List ℕ) → List ℕ → List LineText
ended_within line [] = []
ended_within line (b ∷ bs) = if b == 10 then ended_line line ∷ ended_within (Some []) bs else ended_within (with_byte line b) bs
