-- For the uses of the promises: what a session's lines come to, where the third tells of a job.
use Rattle.promise_uses.proofs.Common.{◌≡◌, ℕ, List, [], ◌∷◌, ◌++◌, map, codes, decimal, true, false, Some, Result, Ok, Err, refl, sym, ap, subst, ◌∙◌, arith, nat_tests, concat, Cell, minimax, best_choice, IsTable, Side, value_text, Leads, LineText, Whole, ReadAnswer, WriteAnswer, Gave, Ended, Failed, bytes_due, write_result, IsTalkEnd, IsCutShort, writes_of, written_texts, End, EndOfInput, SessionFault, Read, Write, Analysis, Done, Asked, asked_at, Call, Hello, Ask, Wait, OfficeReply, Welcome, Job, Told, EachDoneIsTrue, IsTrueAnalysis, IsTrueDone, TrueSession, asks_of_lines, with_request, is_bye, Request, Makes, Tabulates, request, session_lines, talk_result, texts_for, IsAnsweredOf, IsWrittenOf, LineTurn, Made, Tabulated, turns, turn_text, next_reply, later_replies, seated_after, entries_text, pair_text, between}

module _ (written : List ℕ) (texts : List (List ℕ)) where
  ended : (r : Result End SessionFault) (bytes : List ℕ) (last : List ReadAnswer) (answered : List LineText) → IsTalkEnd is_bye (talk_result r) bytes last →
      IsAnsweredOf r answered (session_lines (bytes_due (talk_result r) bytes)) → IsWrittenOf (write_result (talk_result r)) written texts →
      r ≡ Ok EndOfInput → (last ≡ Ended ∷ []) × (answered ≡ session_lines bytes) × (written ≡ written_texts texts)
  ended (Ok EndOfInput) bytes last answered ends lines out is = (ends.0, lines, out)
  ended _ bytes last answered ends lines out is = absurd cc

  failed : (r : Result End SessionFault) (bytes : List ℕ) (last : List ReadAnswer) → IsTalkEnd is_bye (talk_result r) bytes last →
      IsWrittenOf (write_result (talk_result r)) written texts → r ≡ Err Read → (last ≡ Failed ∷ []) × (written ≡ written_texts texts)
  failed (Err Read) bytes last ends out is = (ends.0, out)
  failed _ bytes last ends out is = absurd cc

  cut : (r : Result End SessionFault) → IsWrittenOf (write_result (talk_result r)) written texts → r ≡ Err Write →
      (rest : List ℕ) × (written ++ rest ≡ written_texts texts) × IsCutShort texts rest
  cut (Err Write) out is = out
  cut _ out is = absurd cc

-- ---- three lines

abbrev hello : LineText
hello = Whole (codes "HELLO 4 8")

abbrev welcome : OfficeReply
welcome = Welcome (record { segments = 4; nodes = 8 })

abbrev greeted : LineTurn
greeted = Made (Hello (record { segments = 4; nodes = 8 })) welcome

abbrev replies_of : ℕ → ℕ → Analysis → List OfficeReply
replies_of number job analysis = welcome ∷ Job number ∷ Told job (Done analysis) ∷ []

-- the first two lines with their answers, and the texts of three answers
abbrev two : LineText → List (LineText × List ℕ)
two asks = (asks, codes "JOB " ++ decimal 1) ∷ (hello, codes "WELCOME " ++ pair_text 4 8) ∷ []

abbrev texts_with : List ℕ → List (List ℕ)
texts_with last = (codes "WELCOME " ++ pair_text 4 8) ∷ (codes "JOB " ++ decimal 1) ∷ last ∷ []

-- the turns of a line that makes a call, or asks for a table, and of the lines after it
module _ (line : LineText) (lines : List LineText) where
  makes : (call : Call) (replies : List OfficeReply) → request true line ≡ Makes call →
      turns true (line ∷ lines) replies ≡ Made call (next_reply replies) ∷ turns (seated_after true (next_reply replies)) lines (later_replies replies)
  makes call replies is = rw is refl

  tabulates : (job : ℕ) (replies : List OfficeReply) → request true line ≡ Tabulates job →
      turns true (line ∷ lines) replies ≡ Tabulated job (next_reply replies) ∷ turns (seated_after true (next_reply replies)) lines (later_replies replies)
  tabulates job replies is = rw is refl

one-asked : (asked : Asked) (job : ℕ) (found : Asked) → asked_at (asked ∷ []) job ≡ Some found → (job ≡ 1) × (asked ≡ found)
one-asked asked job found at = grind (arith, nat_tests)

-- what the third answer says, and all answers
abbrev SaysThird : LineText → ℕ → List Cell → ℕ → ℕ → Analysis → List (List ℕ) → Type 0
SaysThird third depth board number job analysis texts =
    (number ≡ 1)
    × (request true third ≡ Makes (Wait job) → (job ≡ 1)
    × (texts ≡ texts_with (codes "DONE " ++ decimal 1 ++ codes " " ++ value_text (minimax depth board) (best_choice depth board))))
    × (request true third ≡ Tabulates job → (job ≡ 1) × IsTable depth board analysis.bounds
    × (texts ≡ texts_with (codes "TABLE " ++ decimal 1 ++ entries_text analysis.bounds)))

-- where the second line asks
module _ (asks : LineText) (depth : ℕ) (board : List Cell) (side : Side) (is : request true asks ≡ Makes (Ask depth board side)) where
  abbrev asked : Asked
  asked = record { board = board; depth = depth }

  -- the first two turns, and those of the lines after them
  two-turns : (more : List LineText) (number : ℕ) (replies : List OfficeReply) →
      turns false (hello ∷ asks ∷ more) (welcome ∷ Job number ∷ replies) ≡ greeted ∷ Made (Ask depth board side) (Job number) ∷ turns true more replies
  two-turns more number replies = ap (λ (l : List LineTurn). greeted ∷ l) (makes asks more (Ask depth board side) (Job number ∷ replies) is)

  -- what was asked by the two lines, where the second was answered by JOB 1
  asked-at : (job : ℕ) → asked_at (asked ∷ []) job ≡ asked_at (asks_of_lines (two asks)) job
  asked-at job = ap (λ (q : Request). asked_at (with_request [] q) job) (sym is)

  module _ (third : LineText) (job : ℕ) (analysis : Analysis) where
    is-valued : IsTrueDone (two asks) job analysis → (job ≡ 1) × (analysis.best.value ≡ minimax depth board) × (analysis.best.choice ≡ best_choice depth board)
    is-valued done =
        let one = one-asked asked job done.asked (asked-at job ∙ done.is) in
        (one.0, done.value ∙ ap (λ (a : Asked). minimax a.depth a.board) (sym one.1), done.choice ∙ ap (λ (a : Asked). best_choice a.depth a.board) (sym one.1))

    is-tabulated : IsTrueAnalysis (two asks) job analysis → (job ≡ 1) × IsTable depth board analysis.bounds
    is-tabulated done =
        let one = one-asked asked job done.asked (asked-at job ∙ done.is) in
        (one.0, subst (λ (a : Asked). IsTable a.depth a.board analysis.bounds) (sym one.1) done.table)

    abbrev AllDone : ℕ → Type 0
    AllDone number = EachDoneIsTrue [] (hello ∷ asks ∷ third ∷ []) (turns false (hello ∷ asks ∷ third ∷ []) (replies_of number job analysis))

    -- the number of the new job
    next-number : (number : ℕ) → AllDone number → number ≡ 1
    next-number number dones =
        (subst (λ (l : List LineTurn). EachDoneIsTrue [] (hello ∷ asks ∷ third ∷ []) l) (two-turns (third ∷ []) number (Told job (Done analysis) ∷ [])) dones).1.0

    -- all three answers
    third-of : AllDone 1 → SaysThird third depth board 1 job analysis (texts_for (hello ∷ asks ∷ third ∷ []) (replies_of 1 job analysis))
    third-of dones = (
      refl,
      λ waits.
          let are = first ∙ ap (λ (l : List LineTurn). greeted ∷ Made (Ask depth board side) (Job 1) ∷ l) (makes third [] (Wait job) rest waits) in
          let valued = is-valued (subst (λ (l : List LineTurn). EachDoneIsTrue [] (hello ∷ asks ∷ third ∷ []) l) are dones).1.1.0 in
          (valued.0, ap (map turn_text) are ∙ rw (valued.0, valued.1, valued.2) refl),
      λ tabled.
          let are = first ∙ ap (λ (l : List LineTurn). greeted ∷ Made (Ask depth board side) (Job 1) ∷ l) (tabulates third [] job rest tabled) in
          let table = is-tabulated (subst (λ (l : List LineTurn). EachDoneIsTrue [] (hello ∷ asks ∷ third ∷ []) l) are dones).1.1.0 in
          (table.0, table.1, ap (map turn_text) are ∙ rw table.0 refl),
    )
      where
        rest : List OfficeReply
        rest = Told job (Done analysis) ∷ []

        first : turns false (hello ∷ asks ∷ third ∷ []) (welcome ∷ Job 1 ∷ rest) ≡ greeted ∷ Made (Ask depth board side) (Job 1) ∷ turns true (third ∷ []) rest
        first = two-turns (third ∷ []) 1 rest

-- all that is said of a session's third answer
abbrev pub ServesThird : {S K : Type 0} → (S → ReadAnswer → S → Type 0) → (K → WriteAnswer → K → Type 0) → S → K → S → K → Result End SessionFault → Type 0
ServesThird gives takes source sink source' sink' r = (blocks : List (List ℕ)) × (last : List ReadAnswer) × (pieces : List (List ℕ)) × (lines : List LineText) × (replies : List OfficeReply)
    × Leads gives source (map Gave blocks ++ last) source'
    × Leads takes sink (writes_of pieces (write_result (talk_result r))) sink'
    × (r ≡ Ok EndOfInput → (last ≡ Ended ∷ []) × (lines ≡ session_lines (concat blocks)) × (concat pieces ≡ written_texts (texts_for lines replies)))
    × (r ≡ Err Read → (last ≡ Failed ∷ []) × (concat pieces ≡ written_texts (texts_for lines replies)))
    × (r ≡ Err Write → (rest : List ℕ) × (concat pieces ++ rest ≡ written_texts (texts_for lines replies)) × IsCutShort (texts_for lines replies) rest)
    × ((asks third : LineText) (depth : ℕ) (board : List Cell) (side : Side) (number job : ℕ) (analysis : Analysis) →
    lines ≡ hello ∷ asks ∷ third ∷ [] → request true asks ≡ Makes (Ask depth board side) →
    replies ≡ replies_of number job analysis → SaysThird third depth board number job analysis (texts_for lines replies))

pub serves-third : {S K : Type 0} (gives : S → ReadAnswer → S → Type 0) (takes : K → WriteAnswer → K → Type 0) (source : S) (sink : K) (source' : S) (sink' : K)
    (r : Result End SessionFault) → TrueSession (between gives source source') (between takes sink sink') r → ServesThird gives takes source sink source' sink' r
serves-third gives takes source sink source' sink' r is =
    let s = is.session in
    let texts = texts_for s.answered s.replies in (
      s.blocks,
      s.last,
      s.pieces,
      s.answered,
      s.replies,
      s.reads,
      s.writes,
      ended (concat s.pieces) texts r (concat s.blocks) s.last s.answered s.ends s.lines s.written,
      failed (concat s.pieces) texts r (concat s.blocks) s.last s.ends s.written,
      cut (concat s.pieces) texts r s.written,
      λ asks third depth board side number job analysis lines asked replies.
          let three = hello ∷ asks ∷ third ∷ [] in
          let P : List LineText → List OfficeReply → Type 0 = λ ls rs. EachDoneIsTrue [] ls (turns false ls rs) in
          let Q : List LineText → List OfficeReply → Type 0 = λ ls rs. SaysThird third depth board number job analysis (texts_for ls rs) in
          let R : ℕ → Type 0 = λ n. SaysThird third depth board n job analysis (texts_for three (replies_of n job analysis)) in
          let dones = subst (λ (rs : List OfficeReply). P three rs) replies (subst (λ (ls : List LineText). P ls s.replies) lines is.dones) in
          let one = next-number asks depth board side asked third job analysis number dones in
          let first = third-of asks depth board side asked third job analysis (subst (λ n. P three (replies_of n job analysis)) one dones) in
          subst (λ (ls : List LineText). Q ls s.replies) (sym lines) (subst (λ (rs : List OfficeReply). Q three rs) (sym replies) (subst R (sym one) first)),
    )
