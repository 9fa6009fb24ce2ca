-- For the use of the promise on `solve`: what `SolvedRun` comes to, where three lines are answered.
use Rattle.promise_uses.proofs.Common.{◌≡◌, ◌⊎◌, inl, inr, ℕ, ◌<◌, Bool, true, false, List, [], ◌∷◌, ◌++◌, map, length, codes, Option, Some, Result, Ok, Err, refl, ap, subst, sym, ◌∙◌, concat, minimax, best_choice, QuestionOf, question, split_at_space, error_text, value_text, ProtocolFault, LineFault, Leads, LineText, Whole, lines_of, ReadAnswer, WriteAnswer, Gave, Ended, Failed, IsEnding, IsOutput, bytes_due, write_result, writes_of, written_texts, SolvedRun, answers_unless, line_question, question_answer, solve_line_unless, solve_out_unless, solved_unless, words_question, between}
use Rattle.line_io.specs.declared.faults.LineFault.TheVariants.{Read, Write}

module _ (written due : List ℕ) where
  ended : (r : Result (Unit {0}) LineFault) (bytes : List ℕ) (last : List ReadAnswer) → IsEnding r bytes last → IsOutput (write_result r) written due → r ≡ Ok tt →
      (last ≡ Ended ∷ []) × (written ≡ due)
  ended (Ok it) bytes last ends output is = (ends, output)
  ended (Err fault) bytes last ends output is = absurd cc

  failed : (r : Result (Unit {0}) LineFault) (bytes : List ℕ) (last : List ReadAnswer) → IsEnding r bytes last → IsOutput (write_result r) written due → r ≡ Err Read →
      (last ≡ Failed ∷ []) × (written ≡ due)
  failed (Err Read) bytes last ends output is = (ends, output)
  failed _ bytes last ends output is = absurd cc

  cut : (r : Result (Unit {0}) LineFault) → IsOutput (write_result r) written due → r ≡ Err Write → (rest : List ℕ) × (written ++ rest ≡ due) × (0 < length rest)
  cut (Err Write) output is = output
  cut _ output is = absurd cc

abbrev opening : LineText
opening = Whole (codes "opening")

-- a line that asks for something is answered by its value and choice, or by ERR 19
abbrev pub IsSolved : QuestionOf → List ℕ → Type 0
IsSolved asked text = (text ≡ value_text (minimax asked.depth asked.board) (best_choice asked.depth asked.board)) ⊎ (text ≡ error_text 19)

solved-or-not : (refused : Bool) (line : LineText) (asked : QuestionOf) → line_question line ≡ Ok asked → IsSolved asked (solve_line_unless refused line)
solved-or-not true line asked is = inr (ap (λ (q : Result QuestionOf ProtocolFault). question_answer (solved_unless true) q) is)
solved-or-not false line asked is = inl (ap (λ (q : Result QuestionOf ProtocolFault). question_answer (solved_unless false) q) is)

-- a line without a space is answered by ERR 21
no-question : (refused : Bool) → solve_line_unless refused opening ≡ error_text 21
no-question true = refl
no-question false = refl

-- whether memory ran out at the first of these lines, and at those after it
abbrev first_of : List Bool → Bool
first_of [] = false
first_of (flag ∷ refused) = flag

abbrev later_of : List Bool → List Bool
later_of [] = []
later_of (flag ∷ refused) = refused

next-answer : (refused : List Bool) (line : LineText) (lines : List LineText) →
    answers_unless refused (line ∷ lines) ≡ (solve_line_unless (first_of refused) line ++ 10 ∷ []) ++ answers_unless (later_of refused) lines
next-answer [] line lines = refl
next-answer (flag ∷ refused) line lines = refl

none-left : (refused : List Bool) → answers_unless refused [] ≡ []
none-left [] = refl
none-left (flag ∷ refused) = refl

abbrev pub Three : QuestionOf → List ℕ → Type 0
Three asked due = (one : List ℕ) × (three : List ℕ) × (due ≡ written_texts (one ∷ error_text 21 ∷ three ∷ [])) × IsSolved asked three

three-answers : (refused : List Bool) (first third : LineText) (asked : QuestionOf) → line_question third ≡ Ok asked →
    Three asked (answers_unless refused (first ∷ opening ∷ third ∷ []))
three-answers refused first third asked is =
    let second = later_of refused in
    let last = later_of second in
    let one = solve_line_unless (first_of refused) first ++ 10 ∷ [] in
    let three = solve_line_unless (first_of last) third ++ 10 ∷ [] in
    let at_third : answers_unless last (third ∷ []) ≡ three ++ [] = next-answer last third [] ∙ ap (λ (l : List ℕ). three ++ l) (none-left (later_of last)) in
    let fault = ap (λ (l : List ℕ). (l ++ 10 ∷ []) ++ answers_unless last (third ∷ [])) (no-question (first_of second)) in
    let at_second : answers_unless second (opening ∷ third ∷ []) ≡ (error_text 21 ++ 10 ∷ []) ++ (three ++ []) =
    next-answer second opening (third ∷ []) ∙ fault ∙ ap (λ (l : List ℕ). (error_text 21 ++ 10 ∷ []) ++ l) at_third in
    let all = next-answer refused first (opening ∷ third ∷ []) ∙ ap (λ (l : List ℕ). one ++ l) at_second in
    (solve_line_unless (first_of refused) first, solve_line_unless (first_of last) third, all, solved-or-not (first_of last) third asked is)

-- all that is said of three lines
abbrev pub SolvesThree : {S K : Type 0} → (S → ReadAnswer → S → Type 0) → (K → WriteAnswer → K → Type 0) → S → K → S → K → Result (Unit {0}) LineFault → Type 0
SolvesThree gives takes source sink source' sink' r = (blocks : List (List ℕ)) × (last : List ReadAnswer) × (pieces : List (List ℕ)) × (due : List ℕ)
    × Leads gives source (map Gave blocks ++ last) source'
    × Leads takes sink (writes_of pieces (write_result r)) sink'
    × (r ≡ Ok tt → (last ≡ Ended ∷ []) × (concat pieces ≡ due))
    × (r ≡ Err Read → (last ≡ Failed ∷ []) × (concat pieces ≡ due))
    × (r ≡ Err Write → (rest : List ℕ) × (concat pieces ++ rest ≡ due) × (0 < length rest))
    × ((first : LineText) (third : List ℕ) (words : List ℕ × List ℕ) (asked : QuestionOf) → lines_of (bytes_due r (concat blocks)) ≡ first ∷ opening ∷ Whole third ∷ [] →
    split_at_space third ≡ Some words → question words.0 words.1 ≡ Ok asked → Three asked due)

pub solves-three : {S K : Type 0} (gives : S → ReadAnswer → S → Type 0) (takes : K → WriteAnswer → K → Type 0) (source : S) (sink : K) (source' : S) (sink' : K) (r : Result (Unit {0}) LineFault) →
    SolvedRun (between gives source source') (between takes sink sink') r → SolvesThree gives takes source sink source' sink' r
solves-three gives takes source sink source' sink' r solved =
    let is = solved.1 in
    let due = solve_out_unless solved.0 (bytes_due r (concat is.blocks)) in (
      is.blocks,
      is.last,
      is.pieces,
      due,
      is.reads,
      is.writes,
      ended (concat is.pieces) due r (concat is.blocks) is.last is.ends is.written,
      failed (concat is.pieces) due r (concat is.blocks) is.last is.ends is.written,
      cut (concat is.pieces) due r is.written,
      λ first third words asked lines splits question.
          let asks = ap (λ (s : Option (List ℕ × List ℕ)). words_question s) splits ∙ question in
          subst (λ (ls : List LineText). Three asked (answers_unless solved.0 ls)) (sym lines) (three-answers solved.0 first (Whole third) asked asks),
    )
