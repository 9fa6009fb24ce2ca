-- Readers whose bytes are known, and writers whose contents are: what reads and writes come to for them.
use Rattle.line_io.proofs.Common.{◌≡◌, ℕ, List, [], ◌∷◌, ◌++◌, map, sym, ap, ◌∙◌, append_assoc, subst, Option, Some, Result, Ok, Err, arith, append-nil, concat, Keeps, Appends, Consumes, IsAtEnd, WriteFailed, Leads, Gave, Ended, ReadsKnown, WritesKnown, writes_of, FunctionRun, between}
use Rattle.line_io.proofs.Chains.{Reading, Writing}

-- the reads of a source of which this is left, and the writes to a sink that has these contents
abbrev reads_of : {S : Type 0} → (S → Option (List ℕ)) → Reading S
reads_of left a r b = ReadsKnown (left a) r (left b)

abbrev writes_to : {K : Type 0} → (K → Option (List ℕ)) → Writing K
writes_to held a w b = WritesKnown (held a) w (held b)

-- at the end no byte is left
module _ (old new : Option (List ℕ)) (bytes : List ℕ) (h4 : old ≡ Some bytes) where
  at-end : Consumes old new [] → IsAtEnd new → [] ≡ bytes
  at-end h5 h6 = grind arith

  -- a read takes the first of the bytes
  takes-first : (block : List ℕ) → Consumes old new block → (rest : List ℕ) × (new ≡ Some rest) × (block ++ rest ≡ bytes)
  takes-first block h6 = grind arith

-- reads up to the end give all bytes
pub known-read : {S : Type 0} (left : S → Option (List ℕ)) (s : S) (blocks : List (List ℕ)) (t : S) (bytes : List ℕ) → left s ≡ Some bytes →
    Leads (reads_of left) s (map Gave blocks ++ Ended ∷ []) t → concat blocks ≡ bytes
known-read left s [] t bytes e p = at-end (left s) (left p.0) bytes e p.1.0 p.1.1
known-read left s (block ∷ blocks) t bytes e p =
    let q = takes-first (left s) (left p.0) bytes e block p.1 in
    ap (λ z. block ++ z) (known-read left p.0 blocks t q.0 q.1 p.2) ∙ q.2

-- a write adds its bytes
adds : (old new : Option (List ℕ)) (bytes piece : List ℕ) → old ≡ Some bytes → Appends old new piece → new ≡ Some (bytes ++ piece)
adds old new bytes piece h5 h6 = grind arith

-- a write that fails adds none
keeps : (old new : Option (List ℕ)) (bytes : List ℕ) → old ≡ Some bytes → Keeps old new → new ≡ Some bytes
keeps old new bytes h4 h5 = grind arith

-- the contents grow by what the writes took
module _ {K : Type 0} (held : K → Option (List ℕ)) where
  pub known-write : (k : K) (pieces : List (List ℕ)) (t : K) (r : Result (Unit {0}) WriteFailed) (bytes : List ℕ) → held k ≡ Some bytes →
      Leads (writes_to held) k (writes_of pieces r) t → held t ≡ Some (bytes ++ concat pieces)
  known-write k [] t (Ok u) bytes e p = ap held (sym p) ∙ (e ∙ ap Some (sym (append-nil bytes)))
  known-write k [] t (Err f) bytes e p = grind (arith, keeps, append-nil)
  known-write k (piece ∷ pieces) t (Ok u) bytes e p =
      known-write p.0 pieces t (Ok u) (bytes ++ piece) (adds (held k) (held p.0) bytes piece e p.1) p.2 ∙ ap Some (append_assoc bytes piece (concat pieces))
  known-write k (piece ∷ pieces) t (Err f) bytes e p =
      known-write p.0 pieces t (Err f) (bytes ++ piece) (adds (held k) (held p.0) bytes piece e p.1) p.2 ∙ ap Some (append_assoc bytes piece (concat pieces))

-- a run over both that answers by a function
module _ {S K : Type 0} (left : S → Option (List ℕ)) (holds : K → Option (List ℕ)) {out : List ℕ → List ℕ} {s s' : S} {k k' : K} (bytes held : List ℕ) where
  pub known-run : left s ≡ Some bytes → holds k ≡ Some held → FunctionRun (between (reads_of left) s s') (between (writes_to holds) k k') out (Ok tt) → holds k' ≡ Some (held ++ out bytes)
  known-run e f x =
      let reads = subst (λ last. Leads (reads_of left) s (map Gave x.blocks ++ last) s') x.ends x.reads in
      known-write holds k x.pieces k' (Ok tt) held f x.writes ∙ ap (λ z. Some (held ++ z)) (x.written ∙ ap out (known-read left s x.blocks s' bytes e reads))
