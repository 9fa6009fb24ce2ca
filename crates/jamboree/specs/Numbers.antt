-- Representation: the numbers that stand for phases, roles and statuses in the words of a search's frame, and a frame
-- by its parts.
use Rattle.std.specs.Prelude.{ℕ, ℤ, List, map}
use Rattle.othello_board.specs.declared.boards.Board.{Board}
use Rattle.jamboree.specs.declared.frame.Goal.{Goal}
use Rattle.jamboree.specs.declared.phases.Phase.{Phase}
use Rattle.jamboree.specs.declared.phases.Phase.TheVariants.{New, Computing, First, Tests, Done}
use Rattle.jamboree.specs.declared.phases.Role.{Role}
use Rattle.jamboree.specs.declared.phases.Role.TheVariants.{Root, FirstChild, Test, Again}
use Rattle.jamboree.specs.declared.phases.Status.{Status}
use Rattle.jamboree.specs.declared.phases.Status.TheVariants.{NotSpawned, Runs, Settled, Failed, RunsAgain}
use Rattle.jamboree_rules.specs.Frames.{Frame, phase_new, phase_computing, phase_first, phase_tests, phase_done, role_root, role_first_child, role_test, role_again, status_not_spawned, status_runs, status_settled, status_failed, status_runs_again}
use Rattle.jamboree_rules.specs.Places.{status_of, entry_rest}

-- the number that stands for a phase in a frame's words
abbrev pub phase_number : Phase → ℕ
phase_number New = phase_new
phase_number Computing = phase_computing
phase_number First = phase_first
phase_number Tests = phase_tests
phase_number Done = phase_done

-- the number that stands for a role in a frame's words
abbrev pub role_number : Role → ℕ
role_number Root = role_root
role_number FirstChild = role_first_child
role_number Test = role_test
role_number Again = role_again

-- the number that stands for a status in an entry
abbrev pub status_number : Status → ℕ
status_number NotSpawned = status_not_spawned
status_number Runs = status_runs
status_number Settled = status_settled
status_number Failed = status_failed
status_number RunsAgain = status_runs_again

-- how far a frame has come: its phase, its best score and the code of the choice that has it, how many choices it
-- has, and for how many of them a child was opened
pub record Progress : Type 0 where
  pub phase : Phase
  pub best : ℤ
  pub choice : ℕ
  pub count : ℕ
  pub spawned : ℕ

-- the frame with this board, goal, role and number of its choice among its parent's, that has come so far, where its
-- choices have these entries
abbrev pub frame_by : Board → Goal → Role → ℕ → Progress → List ℕ → Frame
frame_by board goal role number progress entries = record {
  own = board.own;
  opp = board.opp;
  depth = goal.depth;
  alpha = goal.alpha;
  beta = goal.beta;
  role = role_number role;
  number = number;
  phase = phase_number progress.phase;
  best = progress.best;
  choice = progress.choice;
  count = progress.count;
  spawned = progress.spawned;
  statuses = map status_of entries;
  rests = map entry_rest entries;
}
