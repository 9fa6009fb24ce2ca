-- A whole talk: lines of an input and their answers, up to a line that ends it, the end or a fault.
use Rattle.line_io.proofs.Common.{◌≡◌, ℕ, ◌+◌, List, [], ◌∷◌, ◌++◌, length, Bool, true, false, true≢false, not, ◌&&◌, refl, sym, ap, ◌∙◌, Option, Some, Ok, Err, inl, map, arith, if◌then◌else◌, append-nil, concat, option_to_list, WriteFailed, Read, Write, TalkEnd, Line as by_line, LineText, lines_of, IsPrefixOf, Gave, Ended, Failed, LinesAnswered, held_after, ended_within, last_line, Talk, IsTalkEnd, upto, none_ends, end_of, between, answering}
use Rattle.line_io.proofs.Chains.{Answering, Reading, Writing, Leads-more}
use Rattle.line_io.proofs.Answered.{LinesAnswered-append, LinesAnswered-before, LinesAnswered-same}
use Rattle.line_io.proofs.Streamed.{ended_within-all}
use Rattle.line_io.proofs.Whole.{RunSoFar, Run-start, Run-more, block-reads, lines-more, last-lines, last_after, all-lines}
use Rattle.line_io.proofs.Talked.{none-append, upto-append}

module _ (ends : LineText → Bool) where
  upto-none : (xs : List LineText) → none_ends ends xs ≡ true → upto ends xs ≡ xs
  upto-none xs none = ap (upto ends) (sym (append-nil xs)) ∙ (upto-append ends xs [] none ∙ append-nil xs)

  module _ (t : Bool) (x : LineText) (xs ys : List LineText) where
    -- a line ends the talk already, whatever follows
    before-step : (not t && none_ends ends xs) ≡ false → (none_ends ends xs ≡ false → upto ends (xs ++ ys) ≡ upto ends xs) →
        (if t then x ∷ [] else x ∷ upto ends (xs ++ ys)) ≡ (if t then x ∷ [] else x ∷ upto ends xs)
    before-step some later = grind arith

  upto-before : (xs ys : List LineText) → none_ends ends xs ≡ false → upto ends (xs ++ ys) ≡ upto ends xs
  upto-before [] ys e = absurd (true≢false e)
  upto-before (x ∷ xs) ys e = before-step (ends x) x xs ys e (λ d. upto-before xs ys d)

  -- what is answered of the first lines is the first of what is answered of all
  upto-first_of : (xs ys : List LineText) → IsPrefixOf (upto ends xs) (upto ends (xs ++ ys))
  upto-first_of [] ys = (upto ends ys, refl)
  upto-first_of (x ∷ xs) ys =
      let later = upto-first_of xs ys in
      elim (ends x) as (λ t. IsPrefixOf (if t then x ∷ [] else x ∷ upto ends xs) (if t then x ∷ [] else x ∷ upto ends (xs ++ ys))) [
        | true ↦ ([], refl)
        | false ↦ (later.0, ap (λ z. x ∷ z) later.1)
      ]

  -- one line at most
  one-step : (t : Bool) (x : LineText) → (if t then x ∷ [] else x ∷ []) ≡ x ∷ []
  one-step t x = grind arith

  upto-option : (line : Option LineText) → upto ends (option_to_list line) ≡ option_to_list line
  upto-option line = grind (arith, one-step)

  -- how the talk ends at the input's end
  last-ending : (b : Bool) (end : TalkEnd) (bytes : List ℕ) → end ≡ end_of b → none_ends ends (lines_of bytes) ≡ b → IsTalkEnd ends (Ok end) bytes (Ended ∷ [])
  last-ending b end bytes h4 h5 = grind arith

  -- the lines that are due at the end of the input
  last-due : (blocks : List (List ℕ)) (h : Option (List ℕ)) → h ≡ held_after (Some []) (concat blocks) →
      none_ends ends (ended_within (Some []) (concat blocks)) ≡ true → ended_within (Some []) (concat blocks) ++ option_to_list (last_line h) ≡ upto ends (lines_of (concat blocks))
  last-due blocks h e none =
      let ended = ended_within (Some []) (concat blocks) in let last = option_to_list (last_line h) in
      ap (λ z. ended ++ z) (sym (upto-option (last_line h))) ∙ (sym (upto-append ends ended last none) ∙ ap (upto ends) (last-lines blocks h e))

  module _ {S K A : Type 0} (gives : Reading S) (takes : Writing K) (answers : Answering A) (s : S) (k : K) (a : A) where
    -- some blocks were read, the lines that an LF ended in them answered, and none of them ends the talk
    pub record TalkingSoFar (s' : S) (k' : K) (a' : A) (h : Option (List ℕ)) : Type 0 where
      pub total : ℕ
      pub so_far : RunSoFar gives takes answers s k a total s' k' a' h
      pub none : none_ends ends (ended_within (Some []) (concat so_far.blocks)) ≡ true

    pub Talking-start : (h : Option (List ℕ)) → h ≡ Some [] → TalkingSoFar s k a h
    Talking-start h e = record { total = 0; so_far = Run-start gives takes answers s k a h e; none = refl }

module _ {ends : LineText → Bool} {S K A : Type 0} {gives : Reading S} {takes : Writing K} {answers : Answering A}
    {s s' : S} {k k' : K} {a a' : A} {h : Option (List ℕ)} (x : TalkingSoFar ends gives takes answers s k a s' k' a' h) where
  abbrev blocks : List (List ℕ)
  blocks = x.so_far.blocks

  -- the lines that ended in the blocks so far, and those that end in one more
  abbrev ended : List LineText
  ended = ended_within (Some []) (concat blocks)

  abbrev more : List ℕ → List LineText
  more block = ended_within h block

  -- a read failed
  pub Talk-read-failed : {s'' : S} → gives s' Failed s'' → Talk (between gives s s'') (between takes k k') (answering answers a a') ends (Err Read)
  Talk-read-failed r = grind (arith, ended_within-all, Leads-more, LinesAnswered-same, upto-none)

  module _ {block : List ℕ} {s'' : S} {k'' : K} {a'' : A} (r : gives s' (Gave block) s'') where
    -- a line of a block ended the talk
    pub Talk-stopped : LinesAnswered (between takes k' k'') (answering answers a' a'') (upto ends (more block)) (Ok tt) → none_ends ends (more block) ≡ false →
        Talk (between gives s s'') (between takes k k'') (answering answers a a'') ends (Ok by_line)
    Talk-stopped y some =
        let last = last_after blocks h x.so_far.held block in
        let stops : none_ends ends (ended ++ more block) ≡ false = none-append ends ended (more block) x.none ∙ some in
        let those = lines-more blocks h x.so_far.held block ∙ ended_within-all (concat (blocks ++ block ∷ [])) in
        let all = sym (upto-before ends (ended ++ more block) last stops) ∙ ap (upto ends) (all-lines blocks h x.so_far.held block) in
        record {
          blocks = blocks ++ block ∷ [];
          last = [];
          reads = block-reads gives blocks block s s' s'' x.so_far.reads r;
          ending = inl (refl, ap (none_ends ends) (sym those) ∙ stops);
          lines = LinesAnswered-same (sym (upto-append ends ended (more block) x.none) ∙ all) (LinesAnswered-append x.so_far.lines y);
        }

    -- an answer within a block wasn't written
    pub Talk-write-failed : {d : WriteFailed} → LinesAnswered (between takes k' k'') (answering answers a' a'') (upto ends (more block)) (Err d) →
        Talk (between gives s s'') (between takes k k'') (answering answers a a'') ends (Err Write)
    Talk-write-failed y =
        let first = upto-first_of ends (ended ++ more block) (last_after blocks h x.so_far.held block) in
        let all = first.1 ∙ ap (upto ends) (all-lines blocks h x.so_far.held block) in
        let due = ap (λ (z : List LineText). z ++ first.0) (sym (upto-append ends ended (more block) x.none)) ∙ all in
        let lines = LinesAnswered-same due (LinesAnswered-before first.0 (LinesAnswered-append x.so_far.lines y)) in
        record { blocks = blocks ++ block ∷ []; last = []; reads = block-reads gives blocks block s s' s'' x.so_far.reads r; ending = inl refl; lines = lines }

    pub Talking-more : {h' : Option (List ℕ)} → LinesAnswered (between takes k' k'') (answering answers a' a'') (upto ends (more block)) (Ok tt) → none_ends ends (more block) ≡ true →
        h' ≡ held_after h block → TalkingSoFar ends gives takes answers s k a s'' k'' a'' h'
    Talking-more y none e =
        record {
          total = x.total + length block;
          so_far = Run-more x.so_far r refl (LinesAnswered-same (upto-none ends (more block) none) y) e;
          none = ap (none_ends ends) (sym (lines-more blocks h x.so_far.held block)) ∙ (none-append ends ended (more block) x.none ∙ none);
        }

  module _ {s'' : S} {k'' : K} {a'' : A} (r : gives s' Ended s'') where
    -- the end of the input, and the last line answered
    pub Talk-ended : {end : TalkEnd} → LinesAnswered (between takes k' k'') (answering answers a' a'') (option_to_list (last_line h)) (Ok tt) →
        end ≡ end_of (none_ends ends (option_to_list (last_line h))) → Talk (between gives s s'') (between takes k k'') (answering answers a a'') ends (Ok end)
    Talk-ended {end} y e =
        let last = option_to_list (last_line h) in
        let none = ap (none_ends ends) (sym (last-lines blocks h x.so_far.held)) ∙ none-append ends ended last x.none in
        let ending = last-ending ends (none_ends ends last) end (concat blocks) e none in
        let lines = LinesAnswered-same (last-due ends blocks h x.so_far.held x.none) (LinesAnswered-append x.so_far.lines y) in
        record { blocks = blocks; last = Ended ∷ []; reads = Leads-more gives s (map Gave blocks) s' Ended s'' x.so_far.reads r; ending = ending; lines = lines }

    -- the end of the input, and the answer to the last line not written
    pub Talk-last-failed : {d : WriteFailed} → LinesAnswered (between takes k' k'') (answering answers a' a'') (option_to_list (last_line h)) (Err d) →
        Talk (between gives s s'') (between takes k k'') (answering answers a a'') ends (Err Write)
    Talk-last-failed y =
        let lines = LinesAnswered-same (last-due ends blocks h x.so_far.held x.none) (LinesAnswered-append x.so_far.lines y) in grind (arith, Leads-more)
