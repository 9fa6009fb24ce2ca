-- Lines of an input that are answered up to one that ends the talk.
use Rattle.line_io.proofs.Common.{◌≡◌, ◌≢◌, ℕ, ◌+◌, ◌<◌, ◌≤◌, List, [], ◌∷◌, ◌++◌, length, get_or, drop, Bool, true, false, not, ◌&&◌, refl, sym, ap, ◌∙◌, append_assoc, Option, Some, Ok, Err, arith, if◌then◌else◌, append-nil, drop_all, not-true, WriteFailed, LineText, LinesAnswered, with_byte, ended_line, held_after, ended_within, upto, none_ends, between, answering}
use Rattle.line_io.proofs.Chains.{Answering, Writing}
use Rattle.line_io.proofs.Answered.{LinesAnswered-append, LinesAnswered-before, LinesAnswered-same}
use Rattle.line_io.proofs.Blocks.{BlockSoFar, Block-start, Block-byte, Block-line, Block-held, lf-next}

module _ (ends : LineText → Bool) where
  pub none-append : (xs ys : List LineText) → none_ends ends xs ≡ true → none_ends ends (xs ++ ys) ≡ none_ends ends ys
  none-append [] ys e = refl
  none-append (x ∷ xs) ys e = grind (arith, none-append xs ys)

  pub upto-append : (xs ys : List LineText) → none_ends ends xs ≡ true → upto ends (xs ++ ys) ≡ xs ++ upto ends ys
  upto-append [] ys e = refl
  upto-append (x ∷ xs) ys e = grind (arith, upto-append xs ys, not-true)

  upto-last : (l : LineText) (ls : List LineText) → ends l ≡ true → upto ends (l ∷ ls) ≡ l ∷ []
  upto-last l ls e = ap (λ t. if t then l ∷ [] else l ∷ upto ends ls) e

  upto-first : (l : LineText) (ls : List LineText) → (more : List LineText) × (upto ends (l ∷ ls) ≡ l ∷ more)
  upto-first l ls =
      elim (ends l) as (λ t. (more : List LineText) × ((if t then l ∷ [] else l ∷ upto ends ls) ≡ l ∷ more)) [ true ↦ ([], refl) | false ↦ (upto ends ls, refl) ]

  some-last : (xs : List LineText) (l : LineText) (ls : List LineText) → none_ends ends xs ≡ true → ends l ≡ true → none_ends ends (xs ++ l ∷ ls) ≡ false
  some-last xs l ls none e = none-append xs (l ∷ ls) none ∙ ap (λ t. not t && none_ends ends ls) e

  module _ {K A : Type 0} (takes : Writing K) (answers : Answering A) (k : K) (a : A) (h : Option (List ℕ)) (block : List ℕ) where
    -- the lines that ended so far are answered, and none of them ends the talk
    pub record TalkSoFar (i : ℕ) (k' : K) (a' : A) (h' : Option (List ℕ)) : Type 0 where
      pub so_far : BlockSoFar takes answers k a h block i k' a' h'
      pub none : none_ends ends so_far.lines ≡ true

    pub Talk-start : TalkSoFar 0 k a h
    Talk-start = record { so_far = Block-start takes answers k a h block; none = refl }

module _ {ends : LineText → Bool} {K A : Type 0} {takes : Writing K} {answers : Answering A} {k k' : K} {a a' : A}
    {h h' : Option (List ℕ)} {block : List ℕ} {i : ℕ} (s : TalkSoFar ends takes answers k a h block i k' a' h') where
  pub Talk-end : length block ≤ i → LinesAnswered (between takes k k') (answering answers a a') (upto ends (ended_within h block)) (Ok tt)
      × (none_ends ends (ended_within h block) ≡ true) × (h' ≡ held_after h block)
  Talk-end l = grind (arith, drop_all, upto-append, append-nil, LinesAnswered-same, none-append, Block-held)

  module _ (l : i < length block) where
    pub Talk-byte : {h'' : Option (List ℕ)} → get_or block i 0 ≢ 10 → h'' ≡ with_byte h' (get_or block i 0) → TalkSoFar ends takes answers k a h block (i + 1) k' a' h''
    Talk-byte ne e = record { so_far = Block-byte s.so_far l ne e; none = s.none }

    module _ (e : get_or block i 0 ≡ 10) where
      -- the lines after the one that the byte ends
      abbrev rest : List LineText
      rest = ended_within (Some []) (drop (i + 1) block)

      -- all lines of the block, and those of them that are due
      next : ended_within h block ≡ s.so_far.lines ++ ended_line h' ∷ rest
      next = sym s.so_far.to_come ∙ ap (λ z. s.so_far.lines ++ z) (lf-next block i l [] h' e)

      due : upto ends (ended_within h block) ≡ s.so_far.lines ++ upto ends (ended_line h' ∷ rest)
      due = ap (upto ends) next ∙ upto-append ends s.so_far.lines (ended_line h' ∷ rest) s.none

      pub Talk-failed : {k'' : K} {a'' : A} {d : WriteFailed} → LinesAnswered (between takes k' k'') (answering answers a' a'') (ended_line h' ∷ []) (Err d) →
          LinesAnswered (between takes k k'') (answering answers a a'') (upto ends (ended_within h block)) (Err d)
      Talk-failed x =
          let lines = s.so_far.lines in
          let first = upto-first ends (ended_line h') rest in
          let same = append_assoc lines (ended_line h' ∷ []) first.0 ∙ sym (due ∙ ap (λ (z : List LineText). lines ++ z) first.1) in
          LinesAnswered-same same (LinesAnswered-before first.0 (LinesAnswered-append s.so_far.answered x))

      module _ {k'' : K} {a'' : A} (x : LinesAnswered (between takes k' k'') (answering answers a' a'') (ended_line h' ∷ []) (Ok tt)) where
        pub Talk-line : {h'' : Option (List ℕ)} → ends (ended_line h') ≡ false → h'' ≡ Some [] → TalkSoFar ends takes answers k a h block (i + 1) k'' a'' h''
        Talk-line on n = record {
          so_far = Block-line s.so_far l e refl x n;
          none = none-append ends s.so_far.lines (ended_line h' ∷ []) s.none ∙ ap (λ t. not t && true) on;
        }

        pub Talk-stopped : ends (ended_line h') ≡ true → LinesAnswered (between takes k k'') (answering answers a a'') (upto ends (ended_within h block)) (Ok tt)
            × (none_ends ends (ended_within h block) ≡ false)
        Talk-stopped off =
            let lines = s.so_far.lines in
            let same = sym (due ∙ ap (λ (z : List LineText). lines ++ z) (upto-last ends (ended_line h') rest off)) in
            let stops = ap (none_ends ends) next ∙ some-last ends lines (ended_line h') rest s.none off in
            (LinesAnswered-same same (LinesAnswered-append s.so_far.answered x), stops)
