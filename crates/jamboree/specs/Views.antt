-- Representation: the typed view of the words of a search's frame: which frame it stands for.
use Rattle.std.specs.Prelude.{ℕ, zero, suc, ◌*◌, List, [], map, drop, take, slice_index}
use Rattle.jamboree.specs.declared.view.Head.{Head}
use Rattle.jamboree.specs.declared.frame.FrameView.{FrameView}
use Rattle.jamboree_rules.specs.Frames.{Frame}
use Rattle.jamboree_rules.specs.Places.{score_of, status_of, entry_rest}
use Rattle.jamboree.specs.Numbers.{frame_by}

-- the first twelve words by name, 0 for each that is missing
abbrev pub head_of : List ℕ → Head
head_of words = record {
  own = slice_index words 0;
  opp = slice_index words 1;
  depth = slice_index words 2;
  alpha = slice_index words 3;
  beta = slice_index words 4;
  role = slice_index words 5;
  number = slice_index words 6;
  phase = slice_index words 7;
  best = slice_index words 8;
  choice = slice_index words 9;
  count = slice_index words 10;
  spawned = slice_index words 11;
}

-- the frame of these first words, with these entries of choices
abbrev pub frame_from : Head → List ℕ → Frame
frame_from head entries = record {
  own = head.own;
  opp = head.opp;
  depth = head.depth;
  alpha = score_of head.alpha;
  beta = score_of head.beta;
  role = head.role;
  number = head.number;
  phase = head.phase;
  best = score_of head.best;
  choice = head.choice;
  count = head.count;
  spawned = head.spawned;
  statuses = map status_of entries;
  rests = map entry_rest entries;
}

-- the entries of the choices in these words: one from place 12 on for each choice
abbrev pub entries_of : List ℕ → List ℕ
entries_of words = drop 12 words

-- the statuses of the choices in these words
abbrev pub statuses_in : List ℕ → List ℕ
statuses_in words = map status_of (entries_of words)

-- the rests of the entries in these words: what is known of each choice
abbrev pub rests_in : List ℕ → List ℕ
rests_in words = map entry_rest (entries_of words)

-- the frame that a view shows, where its choices have these entries
abbrev pub frame_with : FrameView → List ℕ → Frame
frame_with v entries = frame_by v.board v.goal v.role v.number (record { phase = v.phase; best = v.best; choice = v.choice; count = v.count; spawned = v.spawned }) entries

-- the frame that a view shows, without entries: for what doesn't depend on them
abbrev pub frame_in : FrameView → Frame
frame_in v = frame_with v []

-- the entries of choices in the segment of this number, of 16 words each: in segment 0 they are the four after
-- the first twelve words
abbrev pub entries_in : List ℕ → ℕ → List ℕ
entries_in words zero = drop 12 (take 16 words)
entries_in words (suc number) = take 16 (drop (16 * suc number) words)
