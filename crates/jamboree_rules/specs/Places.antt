-- Meaning: the words of a search's frame: which place holds what. No other file knows places.
--
-- | Place | Holds |
-- | 0, 1 | the bits of the mover's discs and of the opponent's (bit s is square s) |
-- | 2 | the depth left |
-- | 3, 4 | the words of alpha and beta |
-- | 5 | role | 6 | number of the choice in the parent's order |
-- | 7 | phase | 8 | the word of the best score | 9 | the code of the choice, 65 for none |
-- | 10 | number of choices | 11 | number of choices spawned so far |
-- | 12 + i | the entry of choice i: status + 8 * kind + 32 * the word of a score |
-- The kinds are 1 low, 2 high, 3 exact, and 0 where nothing is found yet, with no score: then the entry is the status.
use Rattle.std.specs.Prelude.{ℕ, ◌+◌, ◌*◌, ◌/◌, ◌%◌, ◌==◌, ◌&&◌, nat_le, Bool, true, if◌then◌else◌, ℤ, pos, ◌+ℤ◌, ◌-ℤ◌, nat_abs, List, [], ◌∷◌, map, drop, length, slice_index, slice_set}
use Rattle.leaf_search.specs.othello_eval.declared.bound.BoundKind.{BoundKind}
use Rattle.leaf_search.specs.othello_eval.declared.bound.BoundKind.TheVariants.{Low, High, Exact}
use Rattle.jamboree_rules.specs.Frames.{Frame, is_score, is_frame, may_be_child, role_root, status_runs_again}

-- the score that a word stands for: 1,000,000 less than the word
abbrev pub score_of : ℕ → ℤ
score_of word = pos word -ℤ pos 1000000

-- the word of a score: 1,000,000 more than the score, so that no word is negative
abbrev pub word_of : ℤ → ℕ
word_of score = nat_abs (score +ℤ pos 1000000)

-- the status in an entry: its three low bits
abbrev pub status_of : ℕ → ℕ
status_of entry = entry % 8

-- the rest of an entry, which is all of it but the status: the bound that is known of the choice, 0 for none
abbrev pub entry_rest : ℕ → ℕ
entry_rest entry = entry / 8

-- the entry word of a choice with this status and this rest (what is known of it)
abbrev pub entry_of : ℕ → ℕ → ℕ
entry_of status rest = status + 8 * rest

-- the number that stands for a kind in an entry
abbrev pub kind_number : BoundKind → ℕ
kind_number Low = 1
kind_number High = 2
kind_number Exact = 3

-- the number of the kind in the rest of an entry, 0 for none
abbrev pub kind_in : ℕ → ℕ
kind_in rest = rest % 4

-- the score in the rest (all but the status) of a choice's entry
abbrev pub score_in : ℕ → ℤ
score_in rest = score_of (rest / 4)

-- the rest of an entry whose bound has this kind and this score
abbrev pub rest_with : BoundKind → ℤ → ℕ
rest_with kind score = kind_number kind + 4 * word_of score

-- the frame of the search that these words say
abbrev pub frame_of : List ℕ → Frame
frame_of words = record {
  own = slice_index words 0;
  opp = slice_index words 1;
  depth = slice_index words 2;
  alpha = score_of (slice_index words 3);
  beta = score_of (slice_index words 4);
  role = slice_index words 5;
  number = slice_index words 6;
  phase = slice_index words 7;
  best = score_of (slice_index words 8);
  choice = slice_index words 9;
  count = slice_index words 10;
  spawned = slice_index words 11;
  statuses = map status_of (drop 12 words);
  rests = map entry_rest (drop 12 words);
}

-- whether this may be the rest of an entry: 0 for no bound, or a kind and the word of a score from -200,000 to
-- 200,000
abbrev pub is_rest : ℕ → Bool
is_rest rest = if kind_in rest == 0 then rest == 0 else is_score (score_in rest)

-- whether this may be an entry: a status from 0 to 4, and a rest
abbrev pub is_entry : ℕ → Bool
is_entry entry = nat_le (status_of entry) status_runs_again && is_rest (entry_rest entry)

-- whether each of these words may be an entry of a choice
abbrev pub are_entries : List ℕ → Bool
are_entries [] = true
are_entries (entry ∷ entries) = is_entry entry && are_entries entries

-- whether words have the form of a frame: the places 0 to 11, then one entry for each choice and nothing else,
-- each in its range
abbrev pub is_formed : List ℕ → Bool
is_formed words = (length words == 12 + slice_index words 10) && (are_entries (drop 12 words) && is_frame (frame_of words))

-- whether words, which have the form of a frame, suit the levels above: with none they are a root's; else the
-- parent's words have the form of a frame too, and this may be a child of it
abbrev pub is_placed : List ℕ → List (List ℕ) → Bool
is_placed words [] = (frame_of words).role == role_root
is_placed words (parent ∷ above) = is_formed parent && may_be_child (frame_of parent) (frame_of words)

-- one store into a frame's words, named by what it sets
pub data Change : Type 0 where
  OwnBits : (word : ℕ) → Change
  OppBits : (word : ℕ) → Change
  Phase : (phase : ℕ) → Change
  Best : (score : ℤ) → Change
  Chosen : (code : ℕ) → Change
  Count : (count : ℕ) → Change
  Spawned : (count : ℕ) → Change
  Status : (i status rest : ℕ) → Change

-- the place and the word of a store into a frame
abbrev pub pair_of : Change → ℕ × ℕ
pair_of (OwnBits word) = (0, word)
pair_of (OppBits word) = (1, word)
pair_of (Phase phase) = (7, phase)
pair_of (Best score) = (8, word_of score)
pair_of (Chosen code) = (9, code)
pair_of (Count count) = (10, count)
pair_of (Spawned count) = (11, count)
pair_of (Status i status rest) = (12 + i, entry_of status rest)

-- stores into a frame as places and words
abbrev pub pairs_of : List Change → List (ℕ × ℕ)
pairs_of [] = []
pairs_of (change ∷ changes) = pair_of change ∷ pairs_of changes

-- the frame after a store into its words
abbrev pub changed : Change → Frame → Frame
changed (OwnBits word) f = record f { own = word }
changed (OppBits word) f = record f { opp = word }
changed (Phase phase) f = record f { phase = phase }
changed (Best score) f = record f { best = score }
changed (Chosen code) f = record f { choice = code }
changed (Count count) f = record f { count = count }
changed (Spawned count) f = record f { spawned = count }
changed (Status i status rest) f = record f { statuses = slice_set f.statuses i status; rests = slice_set f.rests i rest }

-- the eight words that a child begins with: a depth, a window, its role and the number of its choice. Its board
-- isn't known yet (0 and 0), and its phase is new
abbrev pub given_words : ℕ → ℤ → ℤ → ℕ → ℕ → List ℕ
given_words depth alpha beta role number = 0 ∷ 0 ∷ depth ∷ word_of alpha ∷ word_of beta ∷ role ∷ number ∷ 0 ∷ []

-- the eight words that a root begins with: a board, a depth, and the full window, as the words of its ends
abbrev pub root_words : ℕ → ℕ → ℕ → List ℕ
root_words own opp depth = own ∷ opp ∷ depth ∷ 800000 ∷ 1200000 ∷ 0 ∷ 0 ∷ 0 ∷ []

-- how many words a new frame has
abbrev pub frame_size : ℕ
frame_size = 12
