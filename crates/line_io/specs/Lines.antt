-- Meaning: the lines of an input, which is a stream of bytes. A line ends with LF (10), and one CR (13) directly
-- before that LF is dropped. Bytes after the last LF, if there are any, are a line too, and keep a CR at their end.
-- This is std's `lines`.
use Rattle.std.specs.Prelude.{ℕ, List, [], ◌∷◌, length, map, nat_le, ◌==◌, if◌then◌else◌}
use Rattle.std.specs.List.{list_any}
use Rattle.std.specs.Str.Lines.{lines}

-- a line as it is answered: its bytes without their end, or only that it was too long
pub data LineText : Type 0 where
  Whole : (bytes : List ℕ) → LineText
  TooLong : LineText

-- a line of at most 128 bytes is whole, a longer one is too long
abbrev pub line_text : List ℕ → LineText
line_text bytes = if nat_le (length bytes) 128 then Whole bytes else TooLong

-- all lines of an input of these bytes
abbrev pub lines_of : List ℕ → List LineText
lines_of bytes = map line_text (lines bytes)

-- the bytes up to and including the last LF; [] where there is none
abbrev pub up_to_last_end : List ℕ → List ℕ
up_to_last_end [] = []
up_to_last_end (b ∷ bs) = if list_any (λ c. c == 10) (b ∷ bs) then b ∷ up_to_last_end bs else []
