-- Representation: how the words of a stack's node lie in a region of memory: in a chain of segments, each linked to
-- the next.
use Rattle.std.specs.Prelude.{◌≡◌, ◌≢◌, ℕ, zero, suc, ◌+◌, ◌-◌, ◌*◌, List, [], ◌∷◌, ◌++◌, length, Option, Some, None, replicate}
use Rattle.segment_region.specs.Segments.{Segment, Segments, segment_at, words_at, link_at, IsTaken, IsFree, taken_count}

-- the segments that the links lead through from `head` on, at most `count` of them
abbrev pub chain : ℕ → Segments → Option ℕ → List ℕ
chain zero region head = []
chain (suc count) region None = []
chain (suc count) region (Some segment) = segment ∷ chain count region (link_at region segment)

-- the words of these segments of a region, one segment after another
abbrev pub content : Segments → List ℕ → List ℕ
content region [] = []
content region (segment ∷ segments) = words_at region segment ++ content region segments

-- the number isn't in the list of numbers
abbrev pub Lacks : List ℕ → ℕ → Type 0
Lacks [] n = Unit {0}
Lacks (x ∷ xs) n = (x ≢ n) × Lacks xs n

-- no number is in both lists
abbrev pub AreApart : List ℕ → List ℕ → Type 0
AreApart [] ys = Unit {0}
AreApart (x ∷ xs) ys = Lacks ys x × AreApart xs ys

-- no number is in the list twice
abbrev pub IsOnce : List ℕ → Type 0
IsOnce [] = Unit {0}
IsOnce (x ∷ xs) = Lacks xs x × IsOnce xs

-- each of the segments is taken, and has sixteen words
abbrev pub AllBlocks : Segments → List ℕ → Type 0
AllBlocks region [] = Unit {0}
AllBlocks region (segment ∷ segments) = IsTaken region segment × (length (words_at region segment) ≡ 16) × AllBlocks region segments

-- each of these segments of a region is free
abbrev pub AllFree : Segments → List ℕ → Type 0
AllFree region [] = Unit {0}
AllFree region (segment ∷ segments) = IsFree region segment × AllFree region segments

-- both regions have the same entry under each number of the list
abbrev pub AgreesOn : Segments → Segments → List ℕ → Type 0
AgreesOn old new [] = Unit {0}
AgreesOn old new (segment ∷ segments) = (segment_at new segment ≡ segment_at old segment) × AgreesOn old new segments

-- the segments of the list are `count` in number, each once, all taken, and have sixteen words each
pub record IsChain (region : Segments) (segments : List ℕ) (count : ℕ) : Type 0 where
  pub blocks : AllBlocks region segments
  pub whole : length segments ≡ count
  pub once : IsOnce segments

-- a segment with this link, and with these words, then zeros
abbrev pub filled : List ℕ → Option ℕ → Segment
filled words link = record { words = words ++ replicate (16 - length words) 0; link = link }

-- from `old` to `new` a chain of `count` segments was taken, which were free; it holds the words, then zeros, and what
-- was taken before stays
pub record IsFreshChain (old new : Segments) (segments : List ℕ) (words : List ℕ) (count : ℕ) : Type 0 where
  pub same_count : length new ≡ length old
  pub counted : taken_count new ≡ taken_count old + count
  pub kept : (s : ℕ) → IsTaken old s → segment_at new s ≡ segment_at old s
  pub is_chain : IsChain new segments count
  pub were_free : AllFree old segments
  pub holds : content new segments ≡ words ++ replicate (16 * count - length words) 0

-- from `old` to `new` the chain `before` was made longer, to `after`, by `more` segments that were free and now hold
-- zeros; what else was taken stays
pub record IsGrownChain (old new : Segments) (before after : List ℕ) (more : ℕ) : Type 0 where
  pub same_count : length new ≡ length old
  pub counted : taken_count new ≡ taken_count old + more
  pub kept : (s : ℕ) → IsTaken old s → Lacks before s → segment_at new s ≡ segment_at old s
  pub added : List ℕ
  pub joined : after ≡ before ++ added
  pub were_free : AllFree old added
  pub is_chain : IsChain new after (length before + more)
  pub holds : content new after ≡ content old before ++ replicate (16 * more) 0

-- from `old` to `new` the segments of the list were given back, and all others stay
pub record IsGivenBack (old new : Segments) (segments : List ℕ) : Type 0 where
  pub same_count : length new ≡ length old
  pub counted : taken_count new + length segments ≡ taken_count old
  pub kept : (s : ℕ) → Lacks segments s → segment_at new s ≡ segment_at old s
