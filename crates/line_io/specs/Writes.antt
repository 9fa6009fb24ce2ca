-- Meaning: the writes of a text, and of the answers to some lines of an input.
use Rattle.std.specs.Prelude.{◌≡◌, ℕ, ◌<◌, List, [], ◌∷◌, ◌++◌, map, length, Result, Ok, Err}
use Rattle.std.specs.List.{concat, flat_map}
use Rattle.line_io.specs.declared.faults.WriteFailed.{WriteFailed}
use Rattle.line_io.specs.Lines.{LineText}
use Rattle.line_io.specs.Leads.{Leads, Answers, IsPrefixOf, Passage, AnswerPassage}
use Rattle.line_io.specs.Streams.{WriteAnswer, Took, Refused}

-- a text followed by LF (byte 10)
abbrev pub with_newline : List ℕ → List ℕ
with_newline text = text ++ 10 ∷ []

-- these answers as they are written, each followed by LF
abbrev pub written_texts : List (List ℕ) → List ℕ
written_texts texts = flat_map with_newline texts

-- what the writes of these pieces did: each took its piece, and where the result is an error one more write failed
abbrev pub writes_of : List (List ℕ) → Result (Unit {0}) WriteFailed → List WriteAnswer
writes_of pieces (Ok _) = map Took pieces
writes_of pieces (Err _) = map Took pieces ++ Refused ∷ []

-- what is left to be written when the writes ended: nothing at Ok, something at an error
abbrev pub IsRest : Result (Unit {0}) WriteFailed → List ℕ → Type 0
IsRest (Ok _) rest = rest ≡ []
IsRest (Err _) rest = 0 < length rest

-- these bytes were written in pieces, one after another, and `rest` is what is left of them: nothing at Ok, something
-- at an error
pub record IsWritten {K : Type 0} (takes : K → WriteAnswer → K → Type 0) (from : K) (bytes : List ℕ) (to : K) (r : Result (Unit {0}) WriteFailed) : Type 0 where
  pub pieces : List (List ℕ)
  pub rest : List ℕ
  pub writes : Leads takes from (writes_of pieces r) to
  pub taken : concat pieces ++ rest ≡ bytes
  pub ends : IsRest r rest

-- the last of the texts was cut short: `rest`, not [], is what is left of it and its LF, and the texts before it were
-- written whole
pub record IsCutShort (texts : List (List ℕ)) (rest : List ℕ) : Type 0 where
  pub before : List (List ℕ)
  pub last : List ℕ
  pub begun : List ℕ
  pub texts_are : texts ≡ before ++ last ∷ []
  pub last_is : begun ++ rest ≡ with_newline last
  pub left : 0 < length rest

-- at Ok all of the lines were answered and the answers written whole; at an error the first of the lines were answered
-- (`answered`), and `rest` is what is left of the last answer
abbrev pub IsAnswered : Result (Unit {0}) WriteFailed → List LineText → List LineText → List (List ℕ) → List ℕ → Type 0
IsAnswered (Ok _) lines answered texts rest = (answered ≡ lines) × (rest ≡ [])
IsAnswered (Err _) lines answered texts rest = IsPrefixOf answered lines × IsCutShort texts rest

-- lines were answered, from the first on, by these texts, which were written with an LF each in these pieces, up to a
-- rest: at Ok all lines and no rest, at an error some of the lines and a rest of the last answer
pub record LinesAnswered {K A : Type 0} (writing : Passage K WriteAnswer) (answers : AnswerPassage A) (lines : List LineText) (r : Result (Unit {0}) WriteFailed) : Type 0 where
  pub answered : List LineText
  pub texts : List (List ℕ)
  pub pieces : List (List ℕ)
  pub rest : List ℕ
  pub answers_lead : Answers answers.step answers.from answered texts answers.to
  pub writes : Leads writing.step writing.from (writes_of pieces r) writing.to
  pub taken : concat pieces ++ rest ≡ written_texts texts
  pub ends : IsAnswered r lines answered texts rest
