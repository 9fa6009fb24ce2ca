-- Meaning: what the reply to a search says, as words for its private parts.
use Rattle.std.specs.Prelude.{ℕ, List, take}
use Rattle.othello_board.specs.declared.boards.Board.{Board}
use Rattle.othello_board.specs.Words.{cells}
use Rattle.othello_moves.specs.Choices.{choices}
use Rattle.jamboree_rules.specs.othello_eval.declared.bound.Bound.{Bound}
use Rattle.jamboree.specs.declared.reply.Reply.{Reply}
use Rattle.jamboree.specs.Knowledge.{bounds_by}

-- the board of the search that a reply answers
abbrev pub board_of : Reply → Board
board_of reply = reply.board

-- the depth (in plies) of the search that a reply answers
abbrev pub depth_of : Reply → ℕ
depth_of reply = reply.depth

-- the table of a reply: what is known of each choice, in the order of the choices
abbrev pub table_of : Reply → List Bound
table_of reply = bounds_by (choices (cells reply.board)) (take reply.count reply.known)
