-- The lines of a client, answered one after another, make a session.
use Rattle.session.proofs.Common.{◌≡◌, ℕ, List, [], ◌∷◌, ◌++◌, map, Bool, true, false, refl, sym, ap, ap₂, ◌∙◌, subst, Result, Ok, Err, append-nil, concat, WriteFailed, LineText, Leads, Answers, ReadAnswer, WriteAnswer, IsAnswered, written_texts, bytes_due, write_result, Talk, End, Bye, EndOfInput, SessionFault, Read, Write, Call, OfficeReply, is_bye, Request, Fault, Makes, Tabulates, Ends, request, LineTurn, Faulted, Made, Tabulated, Closed, turns, turn_text, calls_in, leaving, by_request, next_reply, later_replies, seated_after, Called, LeavesIf, Turned, handler_of, Session, LineFault, TalkEnd, IsAnsweredOf, IsWrittenOf, session_lines, talk_result, texts_for, calls_for, between, answering}

-- the turns of a line that asks for this, and of the lines after it
abbrev pub next_turns : Request → Bool → List LineText → List OfficeReply → List LineTurn
next_turns q seated lines replies =
    by_request q (λ fault. Faulted fault ∷ turns seated lines replies)
    (λ call. Made call (next_reply replies) ∷ turns (seated_after seated (next_reply replies)) lines (later_replies replies))
    (λ job. Tabulated job (next_reply replies) ∷ turns (seated_after seated (next_reply replies)) lines (later_replies replies))
    (λ _. Closed ∷ turns false lines replies)

-- a relation that answers lines
abbrev pub Answering : Type 0 → Type 1
Answering A = A → LineText → List ℕ → A → Type 0

-- what each answer keeps, a chain of them keeps
module _ {A N : Type 0} (answers : Answering A) (name : A → N)
    (keeps : (a : A) (line : LineText) (text : List ℕ) (b : A) → answers a line text b → name b ≡ name a) where
  pub chain-keeps : (a : A) (lines : List LineText) (texts : List (List ℕ)) (b : A) → Answers answers a lines texts b → name b ≡ name a
  chain-keeps a [] [] b h = sym (ap name h)
  chain-keeps a (l ∷ ls) (t ∷ ts) b h = chain-keeps h.0 ls ts b h.2 ∙ keeps a l t h.0 h.1
  chain-keeps a ls ts b h = absurd h

-- what a state shows of itself is led through the same answers
module _ {A H : Type 0} (answers : Answering A) (comes : Answering H) (see : A → H)
    (sees : (a : A) (line : LineText) (text : List ℕ) (b : A) → answers a line text b → comes (see a) line text (see b)) where
  chain-seen : (a : A) (lines : List LineText) (texts : List (List ℕ)) (b : A) → Answers answers a lines texts b → Answers comes (see a) lines texts (see b)
  chain-seen a [] [] b h = ap see h
  chain-seen a (l ∷ ls) (t ∷ ts) b h = (see h.0, sees a l t h.0 h.1, chain-seen h.0 ls ts b h.2)
  chain-seen a ls ts b h = absurd h

  pub talk-seen : {S K : Type 0} {gives : S → ReadAnswer → S → Type 0} {takes : K → WriteAnswer → K → Type 0} {s s' : S} {k k' : K} (a b : A) (from : H) {ends : LineText → Bool} {r : Result TalkEnd LineFault} → see a ≡ from
      → Talk (between gives s s') (between takes k k') (answering answers a b) ends r → Talk (between gives s s') (between takes k k') (answering comes from (see b)) ends r
  talk-seen a b from start talk =
      let y = talk.lines in
      record {
        blocks = talk.blocks;
        last = talk.last;
        reads = talk.reads;
        ending = talk.ending;
        lines = record {
          answered = y.answered;
          texts = y.texts;
          pieces = y.pieces;
          rest = y.rest;
          answers_lead = subst (λ h. Answers comes h y.answered y.texts (see b)) start (chain-seen a y.answered y.texts b y.answers_lead);
          writes = y.writes;
          taken = y.taken;
          ends = y.ends;
        };
      }

-- what was answered and written, by how it ended
module _ (lines answered : List LineText) (texts : List (List ℕ)) (rest : List ℕ) where
  lines-answered : (r : Result End SessionFault) → IsAnswered (write_result (talk_result r)) lines answered texts rest → IsAnsweredOf r answered lines
  lines-answered (Ok Bye) h = h.0
  lines-answered (Ok EndOfInput) h = h.0
  lines-answered (Err Read) h = h.0
  lines-answered (Err Write) h = h.0

  answers-written : (r : Result (Unit {0}) WriteFailed) (texts' : List (List ℕ)) (pieces : List (List ℕ)) → texts ≡ texts' → concat pieces ++ rest ≡ written_texts texts →
      IsAnswered r lines answered texts rest → IsWrittenOf r (concat pieces) texts'
  answers-written (Ok u) texts' pieces e taken h = sym (append-nil (concat pieces)) ∙ (ap (λ z. concat pieces ++ z) (sym h.1) ∙ (taken ∙ ap written_texts e))
  answers-written (Err d) texts' pieces e taken h = subst (λ ts. IsWrittenOf (Err d) (concat pieces) ts) e (rest, taken, h.1)

module _ {O : Type 0} (does : O → Call → OfficeReply → O → Type 0) where
  -- where replies give these turns, the texts are theirs, and the office is led through their calls, once a tenant that is there has left
  pub record Came (turned : List OfficeReply → List LineTurn) (from : O) (seated : Bool) (texts : List (List ℕ)) (to : O) (seated' : Bool) : Type 0 where
    pub replies : List OfficeReply
    pub are : texts ≡ map turn_text (turned replies)
    pub made : (end : O) → LeavesIf does seated' to end → Leads (Called does) from (calls_in seated (turned replies)) end

  leaves : (seated : Bool) (from to : O) → LeavesIf does seated from to → Leads (Called does) from (leaving seated) to
  leaves true from to h = (to, h, refl)
  leaves false from to h = h

  leaves-more : (seated : Bool) (from mid to : O) (more : List (Call × OfficeReply)) → LeavesIf does seated from mid → Leads (Called does) mid more to →
      Leads (Called does) from (leaving seated ++ more) to
  leaves-more true from mid to more h k = (mid, h, k)
  leaves-more false from mid to more h k = subst (λ o. Leads (Called does) o more to) (sym h) k

  -- one line before others
  module _ (from : O) (seated : Bool) (text : List ℕ) {mid to : O} {seated' seated'' : Bool} {texts : List (List ℕ)} (lines : List LineText)
      (came : Came (turns seated' lines) mid seated' texts to seated'') where
    came-next : (q : Request) → Turned does q (handler_of from seated) text (handler_of mid seated') → Came (next_turns q seated lines) from seated (text ∷ texts) to seated''
    came-next (Fault fault) h =
        let same = subst (λ o. Came (turns seated lines) o seated texts to seated'') (sym h.0) (subst (λ s. Came (turns s lines) mid s texts to seated'') h.1 came) in
        record { replies = same.replies; are = ap₂ (λ t ts. t ∷ ts) h.2 same.are; made = same.made }
    came-next (Makes call) h =
        let same = subst (λ s. Came (turns s lines) mid s texts to seated'') h.2 came in
        record { replies = h.0 ∷ same.replies; are = ap₂ (λ t ts. t ∷ ts) h.3 same.are; made = λ end k. (mid, h.1, same.made end k) }
    came-next (Tabulates job) h =
        let same = subst (λ s. Came (turns s lines) mid s texts to seated'') h.2 came in
        record { replies = h.0 ∷ same.replies; are = ap₂ (λ t ts. t ∷ ts) h.3 same.are; made = λ end k. (mid, h.1, same.made end k) }
    came-next Ends h =
        let same = subst (λ s. Came (turns s lines) mid s texts to seated'') h.1 came in
        let later = calls_in false (turns false lines same.replies) in
        record { replies = same.replies; are = ap₂ (λ t ts. t ∷ ts) h.2 same.are; made = λ end k. leaves-more seated from mid end later h.0 (same.made end k) }

  -- an answerer that holds an office, and knows whether a tenant is there
  module _ {A : Type 0} (office : A → O) (seated : A → Bool) (answers : Answering A)
      (turned : (a : A) (line : LineText) (text : List ℕ) (b : A) → answers a line text b →
      Turned does (request (seated a) line) (handler_of (office a) (seated a)) text (handler_of (office b) (seated b))) where
    -- all lines of a chain of answers
    came-all : (a : A) (lines : List LineText) (texts : List (List ℕ)) (b : A) → Answers answers a lines texts b →
        Came (turns (seated a) lines) (office a) (seated a) texts (office b) (seated b)
    came-all a [] [] b h =
        subst (λ z. Came (turns (seated a) []) (office a) (seated a) [] (office z) (seated z)) h (record { replies = []; are = refl; made = leaves (seated a) (office a) })
    came-all a (l ∷ ls) (t ∷ ts) b h = came-next (office a) (seated a) t ls (came-all h.0 ls ts b h.2) (request (seated a) l) (turned a l t h.0 h.1)
    came-all a ls ts b h = absurd h

    -- a talk whose answerer starts without a tenant, and whose tenant then leaves, is a session
    pub talk-session : {S K : Type 0} {gives : S → ReadAnswer → S → Type 0} {takes : K → WriteAnswer → K → Type 0} {s s' : S} {k k' : K} (a b : A) (o o' : O)
        (r : Result End SessionFault) → office a ≡ o → seated a ≡ false → Talk (between gives s s') (between takes k k') (answering answers a b) is_bye (talk_result r) →
        LeavesIf does (seated b) (office b) o' → Session (between gives s s') (between takes k k') (between (Called does) o o') r
    talk-session a b o o' r at new talk left =
        let y = talk.lines in
        let lines = session_lines (bytes_due (talk_result r) (concat talk.blocks)) in
        let came = subst (λ z. Came (turns z y.answered) (office a) z y.texts (office b) (seated b)) new (came-all a y.answered y.texts b y.answers_lead) in
        record {
          blocks = talk.blocks;
          last = talk.last;
          answered = y.answered;
          replies = came.replies;
          pieces = y.pieces;
          reads = talk.reads;
          ends = talk.ending;
          writes = y.writes;
          lines = lines-answered lines y.answered y.texts y.rest r y.ends;
          made = subst (λ z. Leads (Called does) z (calls_for y.answered came.replies) o') at (came.made o' left);
          written = answers-written lines y.answered y.texts y.rest (write_result (talk_result r)) (texts_for y.answered came.replies) y.pieces came.are y.taken y.ends;
        }
