-- Lines in, answers out: the lines that end in one block of the input.
use Rattle.line_io.proofs.Common.{◌≡◌, ◌≢◌, ℕ, ◌+◌, ◌<◌, ◌≤◌, List, [], ◌∷◌, ◌++◌, length, get_or, drop, cond, eqb, false, refl, sym, ap, ◌∙◌, append_assoc, arith, Option, Some, Result, Ok, Err, at_drop_more, drop_all, nat_tests, WriteFailed, LineText, LinesAnswered, with_byte, ended_line, held_after, ended_within, between, answering}
use Rattle.line_io.proofs.Chains.{Answering, Writing}
use Rattle.line_io.proofs.Answered.{LinesAnswered-none, LinesAnswered-append, LinesAnswered-before, LinesAnswered-same}

module _ {K A : Type 0} (takes : Writing K) (answers : Answering A) (k : K) (a : A) (h : Option (List ℕ)) (block : List ℕ) where
  -- the lines that ended in the first bytes of the block are answered
  pub record BlockSoFar (i : ℕ) (k' : K) (a' : A) (h' : Option (List ℕ)) : Type 0 where
    pub lines : List LineText
    pub answered : LinesAnswered (between takes k k') (answering answers a a') lines (Ok tt)
    pub to_come : lines ++ ended_within h' (drop i block) ≡ ended_within h block
    pub held : held_after h' (drop i block) ≡ held_after h block

  abbrev pub Block-start : BlockSoFar 0 k a h
  Block-start = record { lines = []; answered = LinesAnswered-none; to_come = refl; held = refl }

pub not-lf : (b : ℕ) → b ≢ 10 → eqb b 10 ≡ false
not-lf b ne = grind (arith, nat_tests)

module _ (block : List ℕ) (i : ℕ) (l : i < length block) where
  -- what is left of a block, by its first byte
  pub next-byte : drop i block ≡ get_or block i 0 ∷ drop (i + 1) block
  next-byte = at_drop_more (λ z. z) block i 0 l

  -- the lines to come, where that is an LF
  pub lf-next : (lines : List LineText) (h : Option (List ℕ)) → get_or block i 0 ≡ 10 →
      lines ++ ended_within h (drop i block) ≡ (lines ++ ended_line h ∷ []) ++ ended_within (Some []) (drop (i + 1) block)
  lf-next lines h e = rw (next-byte, e) (sym (append_assoc lines (ended_line h ∷ []) (ended_within (Some []) (drop (i + 1) block))))

module _ {K A : Type 0} {takes : Writing K} {answers : Answering A} {k k' : K} {a a' : A}
    {h h' : Option (List ℕ)} {block : List ℕ} {i : ℕ} (s : BlockSoFar takes answers k a h block i k' a' h') where
  pub Block-held : length block ≤ i → h' ≡ held_after h block
  Block-held l = ap (held_after h') (sym (drop_all i block l)) ∙ s.held

  module _ (l : i < length block) where
    -- a byte that is no LF
    abbrev pub Block-byte : {h'' : Option (List ℕ)} → get_or block i 0 ≢ 10 → h'' ≡ with_byte h' (get_or block i 0) →
        BlockSoFar takes answers k a h block (i + 1) k' a' h''
    Block-byte ne e =
        let b = get_or block i 0 in let rest = drop (i + 1) block in let other = not-lf b ne in
        let held = ap (λ t. held_after (cond t (Some []) (with_byte h' b)) rest) (sym other) ∙ (sym (at_drop_more (held_after h') block i 0 l) ∙ s.held) in
        record { lines = s.lines; answered = s.answered; to_come = rw e (rw (next-byte block i l, other) at s.to_come); held = ap (λ z. held_after z rest) e ∙ held }

    module _ {line : LineText} (e : get_or block i 0 ≡ 10) (f : line ≡ ended_line h') where
      -- the lines so far and the line that an LF ends
      pub one-more : {k'' : K} {a'' : A} {r : Result (Unit {0}) WriteFailed} → LinesAnswered (between takes k' k'') (answering answers a' a'') (line ∷ []) r →
          LinesAnswered (between takes k k'') (answering answers a a'') (s.lines ++ ended_line h' ∷ []) r
      one-more x = LinesAnswered-append s.answered (LinesAnswered-same (ap (λ z. z ∷ []) f) x)

      -- an LF, and the line before it answered
      abbrev pub Block-line : {k'' : K} {a'' : A} {h'' : Option (List ℕ)} → LinesAnswered (between takes k' k'') (answering answers a' a'') (line ∷ []) (Ok tt) → h'' ≡ Some [] →
          BlockSoFar takes answers k a h block (i + 1) k'' a'' h''
      Block-line x n =
          let come = sym (lf-next block i l s.lines h' e) ∙ s.to_come in
          let rest = drop (i + 1) block in let before = sym (at_drop_more (held_after h') block i 0 l) ∙ s.held in
          let held = ap (λ b. held_after (cond (eqb b 10) (Some []) (with_byte h' b)) rest) (sym e) ∙ before in
          record { lines = s.lines ++ ended_line h' ∷ []; answered = one-more x; to_come = rw n come; held = ap (λ z. held_after z rest) n ∙ held }

      -- an LF, and the answer to the line before it not written
      pub Block-failed : {k'' : K} {a'' : A} {d : WriteFailed} → LinesAnswered (between takes k' k'') (answering answers a' a'') (line ∷ []) (Err d) →
          LinesAnswered (between takes k k'') (answering answers a a'') (ended_within h block) (Err d)
      Block-failed x = LinesAnswered-same (sym (lf-next block i l s.lines h' e) ∙ s.to_come) (LinesAnswered-before _ (one-more x))
