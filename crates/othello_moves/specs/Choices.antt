-- Meaning: what a player to move may choose, and the board after each choice, by the rules of the World Othello
-- Federation. A pass is the one choice of a side that can't move in a game that isn't over. The order of
-- the choices is the project's: legal corners first, then the other legal squares by rising index.
use Rattle.std.specs.Prelude.{ℕ, ◌<◌, IsTrue, not, if◌then◌else◌, List, [], ◌∷◌, ◌++◌, map, filter, count_by}
use Rattle.othello_board.specs.declared.cells.Cell.{Cell}
use Rattle.othello_board.specs.Rules.{squares, cell_at, is_among, is_empty_cell, is_opp_cell, is_legal, is_nil, exchanged, played}
use Rattle.othello_moves.specs.declared.choices.Choice.{Choice}
use Rattle.othello_moves.specs.declared.choices.Choice.TheVariants.{Square, Pass}

-- the four corners of a board: a1, h1, a8, h8
abbrev pub corners : List ℕ
corners = 0 ∷ 7 ∷ 56 ∷ 63 ∷ []

-- all squares in the order in which they are chosen: the corners, then the others by rising index
unfoldable pub in_order : List ℕ
in_order = corners ++ filter (λ s. not (is_among s corners)) squares

-- the legal squares of a board: corners first, then the others by rising index
abbrev pub legal_squares : List Cell → List ℕ
legal_squares board = filter (is_legal board) in_order

-- the choices where there is no legal square: to pass where the opponent has one, else none, as the
-- game is over
abbrev pub choices_without_move : List Cell → List Choice
choices_without_move board = if is_nil (legal_squares (exchanged board)) then [] else Pass ∷ []

-- the choices of the player to move, in order
abbrev pub choices : List Cell → List Choice
choices board = if is_nil (legal_squares board) then choices_without_move board else map Square (legal_squares board)

-- the board after a choice, seen by the other player
abbrev pub after : List Cell → Choice → List Cell
after board (Square s) = played board s
after board Pass = exchanged board

-- a choice is allowed on a board by itself: a square has to be on the board and legal; a pass always is, whether or
-- not it is one of the board's choices
abbrev pub IsAllowed : List Cell → Choice → Type 0
IsAllowed board (Square s) = (s < 64) × IsTrue (is_legal board s)
IsAllowed board Pass = Unit {0}

-- the plies that a choice uses: a square uses one, and a pass none
abbrev pub plies : Choice → ℕ
plies (Square s) = 1
plies Pass = 0

-- how many squares of a board are empty
abbrev pub empty_squares : List Cell → ℕ
empty_squares board = count_by (λ s. is_empty_cell (cell_at board s)) squares

-- how many opposing discs are on a board
abbrev pub opposing_discs : List Cell → ℕ
opposing_discs board = count_by (λ s. is_opp_cell (cell_at board s)) squares
