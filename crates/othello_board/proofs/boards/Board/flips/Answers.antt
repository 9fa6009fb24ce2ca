-- A board's flips (`Board::flips`): the discs found in the four rising and the four falling directions are those that
-- the rules flip.
use Rattle.othello_board.proofs.Common.{arith}
use Rattle.othello_board.proofs.PlayLemmas.{flips-in-lanes}
use Rattle.othello_board.proofs.boards.Board.flips.Goals as goal

pub returns : goal.returns
returns c =
    rw (c.rising-above.ensures, c.falling-below.ensures)
    (flips-in-lanes c.args.self.own c.args.self.opp c.args.square (omega arith) c.args.self.disjoint c.requires)
