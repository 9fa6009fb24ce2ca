-- Lines in, answers out: where each answer is that of a function, what is written is a function of what is read.
use Rattle.line_io.proofs.Common.{◌≡◌, ℕ, ◌<◌, List, [], ◌∷◌, ◌++◌, length, map, refl, sym, ap, ◌∙◌, append_assoc, arith, length-append, Result, Ok, Err, append-nil, flat_map-map, flat_map-append, concat, flat_map, LineFault, WriteFailed, LineText, lines_of, Answers, IsPrefixOf, IsAnswered, written_texts, with_newline, Run, FunctionRun, IsProperPrefix, IsOutput, answers_to, bytes_due, write_result, between, answering}
use Rattle.line_io.proofs.Chains.{Answering, Reading, Writing}

-- all of the answers
module _ (answer : LineText → List ℕ) (pieces : List (List ℕ)) (rest : List ℕ) (texts : List (List ℕ)) (answered lines : List LineText)
    (t : concat pieces ++ rest ≡ written_texts texts) (e : texts ≡ map answer answered) where
  answers-all : answered ≡ lines → rest ≡ [] → concat pieces ≡ answers_to answer lines
  answers-all same none = grind (arith, append-nil, flat_map-map)

  -- a beginning of them
  answers-begun : IsPrefixOf answered lines → 0 < length rest → IsProperPrefix (concat pieces) (answers_to answer lines)
  answers-begun first some =
      let f : LineText → List ℕ = λ line. with_newline (answer line) in
      let more = flat_map f first.0 in
      let same : concat pieces ++ rest ≡ flat_map f answered = t ∙ (ap written_texts e ∙ flat_map-map with_newline answer answered) in
      let due = ap (λ z. z ++ more) same ∙ (sym (flat_map-append f answered first.0) ∙ ap (flat_map f) first.1) in
      (rest ++ more, sym (append_assoc (concat pieces) rest more) ∙ due, omega (arith, length-append rest more))

  -- what is written of the answers, as the writes ended
  answers-written : (r : Result (Unit {0}) WriteFailed) → IsAnswered r lines answered texts rest → IsOutput r (concat pieces) (answers_to answer lines)
  answers-written (Ok u) h = answers-all h.0 h.1
  answers-written (Err d) h = answers-begun h.0 h.1.left

module _ {S K A : Type 0} (gives : Reading S) (takes : Writing K) (answers : Answering A) where
  -- a run, where what its writes left is this of the lines due
  pub Run-written : (out : List LineText → List ℕ) (s : S) (k : K) (a : A) (s' : S) (k' : K) (a' : A) (r : Result (Unit {0}) LineFault)
      (x : Run (between gives s s') (between takes k k') (answering answers a a') r) → IsOutput (write_result r) (concat x.lines.pieces) (out (lines_of (bytes_due r (concat x.blocks)))) →
      FunctionRun (between gives s s') (between takes k k') (λ bytes. out (lines_of bytes)) r
  Run-written out s k a s' k' a' r x written = grind arith

-- where each answer is the function's in the states that this fact holds of, and keeps it
module _ {A : Type 0} (answers : Answering A) (holds : A → Type 0) (answer : LineText → List ℕ)
    (step : (a : A) (l : LineText) (t : List ℕ) (b : A) → holds a → answers a l t b → (t ≡ answer l) × holds b) where
  -- the texts
  Answers-function : (a : A) (ls : List LineText) (ts : List (List ℕ)) (b : A) → holds a → Answers answers a ls ts b → ts ≡ map answer ls
  Answers-function a [] [] b h p = refl
  Answers-function a (l ∷ ls) (t ∷ ts) b h p =
      let s = step a l t p.0 h p.1 in
      ap (λ z. z ∷ ts) s.0 ∙ ap (λ zs. answer l ∷ zs) (Answers-function p.0 ls ts b s.1 p.2)
  Answers-function a ls ts b h p = absurd p

  -- a run
  pub Run-function : {S K : Type 0} {gives : Reading S} {takes : Writing K} {s s' : S} {k k' : K} {a a' : A} {r : Result (Unit {0}) LineFault} → holds a →
      Run (between gives s s') (between takes k k') (answering answers a a') r → FunctionRun (between gives s s') (between takes k k') (λ bytes. answers_to answer (lines_of bytes)) r
  Run-function {gives = gives} {takes} {s} {s'} {k} {k'} {a} {a'} {r} h x =
      let y = x.lines in
      let texts_are : y.texts ≡ map answer y.answered = Answers-function a y.answered y.texts a' h y.answers_lead in
      let lines = lines_of (bytes_due r (concat x.blocks)) in
      Run-written gives takes answers (answers_to answer) s k a s' k' a' r x
      (answers-written answer y.pieces y.rest y.texts y.answered lines y.taken texts_are (write_result r) y.ends)

-- a relation of lines and texts, as an answerer whose state is nothing
abbrev related_alone : (LineText → List ℕ → Type 0) → Answering (Unit {0})
related_alone related from line text to = related line text

-- answers by a relation of lines and texts alone, whatever the states
module _ {A : Type 0} (answers : Answering A) (related : LineText → List ℕ → Type 0)
    (step : (a : A) (l : LineText) (t : List ℕ) (b : A) → answers a l t b → related l t) where
  Answers-related : (a : A) (ls : List LineText) (ts : List (List ℕ)) (b : A) → Answers answers a ls ts b → Answers (related_alone related) tt ls ts tt
  Answers-related a [] [] b p = refl
  Answers-related a (l ∷ ls) (t ∷ ts) b p = (tt, step a l t p.0 p.1, Answers-related p.0 ls ts b p.2)
  Answers-related a ls ts b p = absurd p

-- a run whose answers are
module _ {S K A : Type 0} (gives : Reading S) (takes : Writing K) (answers : Answering A) (related : LineText → List ℕ → Type 0) where
  pub Run-related : ((a : A) (l : LineText) (t : List ℕ) (b : A) → answers a l t b → related l t) → (s : S) (k : K) (a : A) (s' : S) (k' : K) (a' : A)
      (r : Result (Unit {0}) LineFault) → Run (between gives s s') (between takes k k') (answering answers a a') r → Run (between gives s s') (between takes k k') (answering (λ (_ : Unit {0}) l t (_ : Unit {0}). related l t) tt tt) r
  Run-related step s k a s' k' a' r x = grind (arith, Answers-related)
