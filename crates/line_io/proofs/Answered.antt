-- Lines in, answers out: the answers to some lines of an input, and their writes.
use Rattle.line_io.proofs.Common.{◌≡◌, ℕ, List, [], ◌∷◌, ◌++◌, map, refl, sym, ap, ◌∙◌, subst, append_assoc, Result, Ok, Err, arith, append-nil, map-append, concat-append, flat_map-append, concat, WriteFailed, LineText, Leads, Took, IsWritten, LinesAnswered, IsAnswered, with_newline, written_texts, writes_of, between, answering}
use Rattle.line_io.proofs.Chains.{Answering, Writing, Leads-append, Answers-append}

-- how writes ended
abbrev Wrote : Type 0
Wrote = Result (Unit {0}) WriteFailed

module _ {K A : Type 0} {takes : Writing K} {answers : Answering A} where
  -- no line
  pub LinesAnswered-none : {k : K} {a : A} → LinesAnswered (between takes k k) (answering answers a a) [] (Ok tt)
  LinesAnswered-none = record { answered = []; texts = []; pieces = []; rest = []; answers_lead = refl; writes = refl; taken = refl; ends = (refl, refl) }

  module _ {k k' : K} {a a' : A} {line : LineText} (text : List ℕ) {bytes : List ℕ} (h : answers a line text a') (e : bytes ≡ with_newline text) where
    -- one line, where its answer's writes ended so
    one-line : {r : Wrote} (w : IsWritten takes k bytes k' r) → IsAnswered r (line ∷ []) (line ∷ []) (text ∷ []) w.rest →
        LinesAnswered (between takes k k') (answering answers a a') (line ∷ []) r
    one-line w ends = grind (arith, append-nil)

    -- one line, whose answer was written
    pub LinesAnswered-one : (r : Wrote) → IsWritten takes k bytes k' r → LinesAnswered (between takes k k') (answering answers a a') (line ∷ []) r
    LinesAnswered-one (Ok u) w = one-line w (refl, w.ends)
    LinesAnswered-one (Err d) w =
        one-line w (([], refl), record { before = []; last = text; begun = concat w.pieces; texts_are = refl; last_is = w.taken ∙ e; left = w.ends })

module _ (ps qs : List (List ℕ)) where
  -- the writes of two lists of pieces
  writes_of-append : (r : Wrote) → writes_of (ps ++ qs) r ≡ map Took ps ++ writes_of qs r
  writes_of-append r = grind (arith, map-append, append_assoc)

  -- what is taken of two lists of texts
  taken-append : (rest rest' : List ℕ) (ts us : List (List ℕ)) → concat ps ++ rest ≡ written_texts ts → rest ≡ [] → concat qs ++ rest' ≡ written_texts us →
      concat (ps ++ qs) ++ rest' ≡ written_texts (ts ++ us)
  taken-append rest rest' ts us p e q = grind (arith, concat-append, append_assoc, append-nil, flat_map-append)

-- how the answers to two lists of lines end
module _ (ls ls' ms ms' : List LineText) (ts us : List (List ℕ)) (rest : List ℕ) (e : ls' ≡ ls) where
  ends-append : (r : Wrote) → IsAnswered r ms ms' us rest → IsAnswered r (ls ++ ms) (ls' ++ ms') (ts ++ us) rest
  ends-append (Ok u) h = (ap (λ z. z ++ ms') e ∙ ap (λ z. ls ++ z) h.0, h.1)
  ends-append (Err d) h =
      let c = h.1 in
      let first = append_assoc ls' ms' h.0.0 ∙ (ap (λ z. z ++ (ms' ++ h.0.0)) e ∙ ap (λ z. ls ++ z) h.0.1) in
      let are = ap (λ z. ts ++ z) c.texts_are ∙ sym (append_assoc ts c.before (c.last ∷ [])) in
      ((h.0.0, first), record { before = ts ++ c.before; last = c.last; begun = c.begun; texts_are = are; last_is = c.last_is; left = c.left })

module _ {K A : Type 0} {takes : Writing K} {answers : Answering A} {k k' : K} {a a' : A} {ls : List LineText} where
  -- two lists of lines, one after the other
  pub LinesAnswered-append : {ms : List LineText} {k'' : K} {a'' : A} {r : Wrote} → LinesAnswered (between takes k k') (answering answers a a') ls (Ok tt) →
      LinesAnswered (between takes k' k'') (answering answers a' a'') ms r → LinesAnswered (between takes k k'') (answering answers a a'') (ls ++ ms) r
  LinesAnswered-append {ms} {k''} {a''} {r} x y =
      record {
        answered = x.answered ++ y.answered;
        texts = x.texts ++ y.texts;
        pieces = x.pieces ++ y.pieces;
        rest = y.rest;
        answers_lead = Answers-append answers a x.answered x.texts a' y.answered y.texts a'' x.answers_lead y.answers_lead;
        writes = subst (λ ws. Leads takes k ws k'') (sym (writes_of-append x.pieces y.pieces r)) (Leads-append takes k _ k' _ k'' x.writes y.writes);
        taken = taken-append x.pieces y.pieces x.rest y.rest x.texts y.texts x.taken x.ends.1 y.taken;
        ends = ends-append ls x.answered ms y.answered x.texts y.texts y.rest x.ends.0 r y.ends;
      }

  -- where a write failed, more lines may follow
  pub LinesAnswered-before : (more : List LineText) {e : WriteFailed} → LinesAnswered (between takes k k') (answering answers a a') ls (Err e) →
      LinesAnswered (between takes k k') (answering answers a a') (ls ++ more) (Err e)
  LinesAnswered-before more x = grind (arith, append_assoc)

  -- the same lines by another name
  pub LinesAnswered-same : {ms : List LineText} {r : Wrote} → ls ≡ ms → LinesAnswered (between takes k k') (answering answers a a') ls r → LinesAnswered (between takes k k') (answering answers a a') ms r
  LinesAnswered-same e x = grind arith
