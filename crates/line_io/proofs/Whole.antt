-- A whole input: the lines of all its blocks, and their answers.
use Rattle.line_io.proofs.Common.{◌≡◌, ◌≢◌, ℕ, ◌+◌, ◌≤◌, ◌^◌, List, [], ◌∷◌, ◌++◌, length, map, take, cond, eqb, refl, sym, ap, ◌∙◌, subst, arith, Option, Some, inl, Ok, Err, length-append, append-nil, map-append, length-take, concat, option_to_list, WriteFailed, Read, Write, TooMuch, LineText, lines_of, Leads, Gave, Ended, Failed, LinesAnswered, held_after, ended_within, last_line, Run, between, answering}
use Rattle.line_io.proofs.Chains.{Answering, Reading, Writing, Leads-more, concat-more}
use Rattle.line_io.proofs.Answered.{LinesAnswered-none, LinesAnswered-append, LinesAnswered-before, LinesAnswered-same}
use Rattle.line_io.proofs.Streamed.{ended_within-all, lines_of-all, held_after-append, ended_within-append}

module _ {S : Type 0} (gives : Reading S) where
  module _ (count : ℕ) (room : List ℕ) (s s' : S) where
    -- a read that gave bytes
    pub read-gave : count ≢ 0 → gives s (cond (eqb count 0) Ended (Gave (take count room))) s' → gives s (Gave (take count room)) s'
    read-gave ne r = grind arith

    -- a read that gave none
    pub read-ended : count ≡ 0 → gives s (cond (eqb count 0) Ended (Gave (take count room))) s' → gives s Ended s'
    read-ended e r = grind arith

  module _ (blocks : List (List ℕ)) (block : List ℕ) (s s' s'' : S) (p : Leads gives s (map Gave blocks) s') (r : gives s' (Gave block) s'') where
    -- one more read
    pub reads-more : Leads gives s (map Gave (blocks ++ block ∷ [])) s''
    reads-more = grind (arith, map-append, Leads-more)

    pub block-reads : Leads gives s (map Gave (blocks ++ block ∷ []) ++ []) s''
    block-reads = subst (λ rs. Leads gives s rs s'') (sym (append-nil (map Gave (blocks ++ block ∷ [])))) reads-more

-- how many bytes it gave
pub length-front : (count : ℕ) (room : List ℕ) → count ≤ length room → count ≡ length (take count room)
length-front count room l = omega (arith, length-take count room)

module _ (blocks : List (List ℕ)) (h : Option (List ℕ)) (e : h ≡ held_after (Some []) (concat blocks)) where
  -- the lines of one more block
  pub lines-more : (block : List ℕ) → ended_within (Some []) (concat blocks) ++ ended_within h block ≡ ended_within (Some []) (concat (blocks ++ block ∷ []))
  lines-more block = grind (arith, ended_within-append, concat-more)

  -- all lines, the last one too
  pub last-lines : ended_within (Some []) (concat blocks) ++ option_to_list (last_line h) ≡ lines_of (concat blocks)
  last-lines = grind (arith, lines_of-all)

  -- all lines of what was read, where the last block is this one
  module _ (block : List ℕ) where
    abbrev pub last_after : List LineText
    last_after = option_to_list (last_line (held_after (Some []) (concat (blocks ++ block ∷ []))))

    pub all-lines : (ended_within (Some []) (concat blocks) ++ ended_within h block) ++ last_after ≡ lines_of (concat (blocks ++ block ∷ []))
    all-lines = ap (λ z. z ++ last_after) (lines-more block) ∙ lines_of-all (concat (blocks ++ block ∷ []))

module _ {S K A : Type 0} (gives : Reading S) (takes : Writing K) (answers : Answering A) (s : S) (k : K) (a : A) where
  -- so many bytes were read, and the lines that an LF ended in them answered
  pub record RunSoFar (total : ℕ) (s' : S) (k' : K) (a' : A) (h : Option (List ℕ)) : Type 0 where
    pub blocks : List (List ℕ)
    pub reads : Leads gives s (map Gave blocks) s'
    pub count : total ≡ length (concat blocks)
    pub lines : LinesAnswered (between takes k k') (answering answers a a') (ended_within (Some []) (concat blocks)) (Ok tt)
    pub held : h ≡ held_after (Some []) (concat blocks)

  abbrev pub Run-start : (h : Option (List ℕ)) → h ≡ Some [] → RunSoFar 0 s k a h
  Run-start h e = record { blocks = []; reads = refl; count = refl; lines = LinesAnswered-none; held = e }

module _ {S K A : Type 0} {gives : Reading S} {takes : Writing K} {answers : Answering A} {s s' : S} {k k' : K} {a a' : A} {total : ℕ} {h : Option (List ℕ)}
    (x : RunSoFar gives takes answers s k a total s' k' a' h) where
  -- a read failed
  pub Run-read-failed : {s'' : S} → gives s' Failed s'' → Run (between gives s s'') (between takes k k') (answering answers a a') (Err Read)
  Run-read-failed r = grind (arith, Leads-more, LinesAnswered-same, ended_within-all)

  -- too many bytes were read
  pub Run-too_much : 2 ^ 62 ≤ total → Run (between gives s s') (between takes k k') (answering answers a a') (Err TooMuch)
  Run-too_much l = grind (arith, append-nil, LinesAnswered-same, ended_within-all)

  module _ {s'' : S} {k'' : K} {a'' : A} (r : gives s' Ended s'') where
    -- the end of the input, and the last line answered
    pub Run-ended : LinesAnswered (between takes k' k'') (answering answers a' a'') (option_to_list (last_line h)) (Ok tt) → Run (between gives s s'') (between takes k k'') (answering answers a a'') (Ok tt)
    Run-ended y = let lines = LinesAnswered-same (last-lines x.blocks h x.held) (LinesAnswered-append x.lines y) in grind (arith, Leads-more)

    -- the end of the input, and the answer to the last line not written
    pub Run-last-failed : {e : WriteFailed} → LinesAnswered (between takes k' k'') (answering answers a' a'') (option_to_list (last_line h)) (Err e) →
        Run (between gives s s'') (between takes k k'') (answering answers a a'') (Err Write)
    Run-last-failed y = let lines = LinesAnswered-same (last-lines x.blocks h x.held) (LinesAnswered-append x.lines y) in grind (arith, Leads-more)

  module _ {block : List ℕ} {s'' : S} {k'' : K} {a'' : A} (r : gives s' (Gave block) s'') where
    -- one more block
    abbrev pub Run-more : {count : ℕ} {h' : Option (List ℕ)} → count ≡ length block → LinesAnswered (between takes k' k'') (answering answers a' a'') (ended_within h block) (Ok tt) →
        h' ≡ held_after h block → RunSoFar gives takes answers s k a (total + count) s'' k'' a'' h'
    Run-more n y e =
        let more = sym (held_after-append (Some []) (concat x.blocks) block) ∙ ap (held_after (Some [])) (sym (concat-more x.blocks block)) in
        record {
          blocks = x.blocks ++ block ∷ [];
          reads = reads-more gives x.blocks block s s' s'' x.reads r;
          count = omega (arith, x.count, length-append (concat x.blocks) block, ap length (concat-more x.blocks block));
          lines = LinesAnswered-same (lines-more x.blocks h x.held block) (LinesAnswered-append x.lines y);
          held = e ∙ (ap (λ z. held_after z block) x.held ∙ more);
        }

    -- an answer within a block not written
    pub Run-write-failed : {e : WriteFailed} → LinesAnswered (between takes k' k'') (answering answers a' a'') (ended_within h block) (Err e) →
        Run (between gives s s'') (between takes k k'') (answering answers a a'') (Err Write)
    Run-write-failed y =
        let lines = LinesAnswered-same (all-lines x.blocks h x.held block) (LinesAnswered-before _ (LinesAnswered-append x.lines y)) in
        record { blocks = x.blocks ++ block ∷ []; last = []; reads = block-reads gives x.blocks block s s' s'' x.reads r; ends = inl refl; lines = lines }
