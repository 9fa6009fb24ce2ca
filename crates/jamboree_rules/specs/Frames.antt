-- Meaning: a frame of a Jamboree search in the terms of the game: its board, its goal, its place under its parent, and how far it has come.
-- (Kuszmaul, Synchronized MIMD Computing, 1994: Jamboree search.)
use Rattle.std.specs.Prelude.{ℕ, ◌==◌, ◌&&◌, ◌||◌, nat_le, nat_lt, Bool, true, ℤ, pos, negsuc, int_le, int_lt, List, Option, Some, None, length, slice_index, slice_index_or, bit_and, if◌then◌else◌, filter}
use Rattle.std.specs.Int.{int_max}
use Rattle.std.specs.Ordering.{int_eq}
use Rattle.othello_board.specs.declared.cells.Cell.{Cell}
use Rattle.othello_board.specs.Rules.{squares, cell_at, is_own_cell, is_opp_cell}
use Rattle.othello_board.specs.Words.{cells_of, bits_of}
use Rattle.othello_moves.specs.declared.choices.Choice.{Choice}
use Rattle.othello_moves.specs.declared.choices.Choice.TheVariants.{Square, Pass}
use Rattle.othello_moves.specs.Choices.{choices}
use Rattle.othello_moves.specs.Depths.{greatest_depth}
use Rattle.leaf_search.specs.othello_eval.Minimax.{minimax, choice_value}

-- the phase of a frame that was opened and has done nothing yet
abbrev pub phase_new : ℕ
phase_new = 0

-- the phase of a frame that one worker computes by itself
abbrev pub phase_computing : ℕ
phase_computing = 1

-- the phase of a frame whose first choice is searched
abbrev pub phase_first : ℕ
phase_first = 2

-- the phase of a frame whose later choices are tested, and searched again where a test has failed
abbrev pub phase_tests : ℕ
phase_tests = 3

-- the phase of a frame that is done: it has its score
abbrev pub phase_done : ℕ
phase_done = 4

-- the role of the search's root, which has no parent
abbrev pub role_root : ℕ
role_root = 0

-- the role of the child that searches its parent's first choice in full
abbrev pub role_first_child : ℕ
role_first_child = 1

-- the role of a child that tests a later choice of its parent
abbrev pub role_test : ℕ
role_test = 2

-- the role of a child that searches again a choice of its parent whose test has failed
abbrev pub role_again : ℕ
role_again = 3

-- the status of a choice that no child was opened for
abbrev pub status_not_spawned : ℕ
status_not_spawned = 0

-- the status of a choice whose first search, or test, runs
abbrev pub status_runs : ℕ
status_runs = 1

-- the status of a choice that needs no more search: it is worth at most the best score, or its score has ended
-- the frame
abbrev pub status_settled : ℕ
status_settled = 2

-- the status of a choice whose test has failed, and that isn't searched again yet
abbrev pub status_failed : ℕ
status_failed = 3

-- the status of a choice that is searched again
abbrev pub status_runs_again : ℕ
status_runs_again = 4

-- a frame of the search: what its words say
pub record Frame : Type 0 where
  -- the two words of the board, seen by the mover
  pub own : ℕ
  pub opp : ℕ
  -- the depth left, and the window
  pub depth : ℕ
  pub alpha : ℤ
  pub beta : ℤ
  -- what the frame is to its parent, and the number of its choice among the parent's, from 0
  pub role : ℕ
  pub number : ℕ
  pub phase : ℕ
  -- the best score so far, and the code of the choice that has it
  pub best : ℤ
  pub choice : ℕ
  -- how many choices there are, how many of them were spawned, the status of each, and the rest of each entry:
  -- the bound that is known of the choice (0 for none)
  pub count : ℕ
  pub spawned : ℕ
  pub statuses : List ℕ
  pub rests : List ℕ

-- the lower end of the full window, -200,000
abbrev pub least : ℤ
least = negsuc 199999

-- the upper end of the full window, 200,000
abbrev pub greatest : ℤ
greatest = pos 200000

-- the best score of a frame that has none yet, -1,000,000 (stored as the word 0)
abbrev pub unscored : ℤ
unscored = negsuc 999999

-- the frame's board, as 64 cells seen by the mover
abbrev pub board : Frame → List Cell
board f = cells_of f.own f.opp

-- the choice of the frame's board with this number, from 0; a pass where there is none
abbrev pub choice_at : Frame → ℕ → Choice
choice_at f i = slice_index_or (choices (board f)) i Pass

-- the code of a choice: 0 to 63 a square, 64 a pass
abbrev pub code_of : Choice → ℕ
code_of (Square s) = s
code_of Pass = 64

-- the code (0 to 63 a square, 64 a pass) of the frame's choice with this number
abbrev pub code_at : Frame → ℕ → ℕ
code_at f i = code_of (choice_at f i)

-- the code of a choice (0 to 63 a square, 64 a pass), or 65 for none
abbrev pub coded : Option Choice → ℕ
coded None = 65
coded (Some c) = code_of c

-- the rest of the entry of the choice with this number: the bound that is known of it, 0 for none
abbrev pub rest_at : Frame → ℕ → ℕ
rest_at f i = slice_index f.rests i

-- what the choice with this number is worth to the mover
abbrev pub value_at : Frame → ℕ → ℤ
value_at f i = choice_value f.depth (board f) (choice_at f i)

-- the minimax value of a frame's board to its depth
abbrev pub value : Frame → ℤ
value f = minimax f.depth (board f)

-- the greater of alpha and the best score: only a choice that is worth more still matters
abbrev pub floor : Frame → ℤ
floor f = int_max f.alpha f.best

-- the bits of the mover's discs on a board
abbrev pub own_word : List Cell → ℕ
own_word b = bits_of (filter (λ s. is_own_cell (cell_at b s)) squares)

-- the bits of the opponent's discs on a board
abbrev pub opp_word : List Cell → ℕ
opp_word b = bits_of (filter (λ s. is_opp_cell (cell_at b s)) squares)

-- whether these numbers are in the ranges of a leaf: no square has two discs, the depth is at most 12, and
-- -200,000 <= alpha < beta <= 200,000
abbrev pub is_leaf : ℕ → ℕ → ℕ → ℤ → ℤ → Bool
is_leaf own opp depth alpha beta = (bit_and own opp == 0) && (nat_le depth greatest_depth && (int_le least alpha && (int_lt alpha beta && int_le beta greatest)))

-- whether a score is in range: from -200,000 to 200,000
abbrev pub is_score : ℤ → Bool
is_score s = int_le least s && int_le s greatest

-- whether a frame in this phase searches its choices
abbrev pub is_searching : ℕ → Bool
is_searching phase = (phase == phase_first) || (phase == phase_tests)

-- whether the count of choices is that of the board, at least 1, at a depth of at least 1
abbrev pub counts_choices : Frame → Bool
counts_choices f = nat_lt 0 f.depth && (nat_lt 0 f.count && (f.count == length (choices (board f))))

-- whether best score and count of choices suit the phase: before the first search there is no score, and the
-- count is 0; later the score is in range, and while choices are searched the count is that of the board's
-- choices
abbrev pub is_in_phase : Frame → Bool
is_in_phase f =
    if nat_le f.phase phase_computing then int_eq f.best unscored && (f.count == 0)
    else is_score f.best && (if is_searching f.phase then counts_choices f else true)

-- whether the numbers of a frame are in their ranges
abbrev pub is_frame : Frame → Bool
is_frame f =
    is_leaf f.own f.opp f.depth f.alpha f.beta
    && (nat_le f.role role_again && (nat_le f.phase phase_done && (nat_le f.choice 65 && (nat_le f.spawned f.count && is_in_phase f))))

-- whether c may be a child of f: it is no root, and its number is that of a choice of f
abbrev pub may_be_child : Frame → Frame → Bool
may_be_child f c = nat_lt role_root c.role && (nat_lt c.number f.count && nat_lt c.number (length (choices (board f))))
