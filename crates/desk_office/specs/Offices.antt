-- Representation: what a session sees of its seat at a desk: its asks, and how its jobs stand.
use Rattle.std.specs.Prelude.{List, [], map, Option, Some, None, Result, Ok, Err}
use Rattle.othello_board.specs.Words.{cells}
use Rattle.othello_eval.specs.Minimax.{minimax, best_choice}
use Rattle.sched_rules.specs.declared.refusal.Refusal.{Refusal}
use Rattle.desk.specs.jamboree.declared.reply.Reply.{Reply}
use Rattle.desk.specs.jamboree.Replies.{board_of, depth_of, table_of}
use Rattle.desk.specs.jamboree_core.declared.outcomes.Outcome.{Outcome}
use Rattle.desk.specs.jamboree_core.declared.outcomes.Outcome.TheVariants.{Pending, Done, Spent, Cancelled}
use Rattle.session.specs.declared.standings.Analysis.{Analysis}
use Rattle.session.specs.declared.standings.Standing.{Standing}
use Rattle.session.specs.declared.standings.Standing.TheVariants.{Pending as pending, Done as done, Spent as spent, Cancelled as cancelled}
use Rattle.session.specs.Asks.{Asked}
use Rattle.hall.specs.declared.desk_rules.asked.SeatAsked.{SeatAsked}
use Rattle.desk.specs.Seats.{SeatOf}

-- what a seat asked, as a session sees it: a list of cells and a depth
abbrev pub ask_of : SeatAsked → Asked
ask_of asked = record { board = cells asked.board; depth = asked.depth }

-- what the tenant of a seat asked for, from job 1 on; nothing where none is there
abbrev pub asks_of : Option SeatOf → List Asked
asks_of None = []
asks_of (Some seat) = map ask_of seat.asked

-- a reply as a session tells it: the minimax value and the best choice of its board to its depth, and its table
abbrev pub analysis_of : Reply → Analysis
analysis_of reply = record { best = record { value = minimax (depth_of reply) (cells (board_of reply)); choice = best_choice (depth_of reply) (cells (board_of reply)) }; bounds = table_of reply }

-- a job's outcome at the desk, as a session tells it
abbrev pub standing_of : Outcome → Standing
standing_of Pending = pending
standing_of (Done reply) = done (analysis_of reply)
standing_of Spent = spent
standing_of Cancelled = cancelled

-- the desk's answer about a job, as a session tells it; a refusal stays as it is
abbrev pub told_answer : Result Outcome Refusal → Result Standing Refusal
told_answer (Ok outcome) = Ok (standing_of outcome)
told_answer (Err refusal) = Err refusal
