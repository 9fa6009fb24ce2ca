-- A player's legal squares (`legal::moves`): the word's bits are those of the squares that the rules allow.
use Rattle.othello_moves.proofs.Common.{arith}
use Rattle.othello_moves.proofs.LaneLemmas.{both-lines}
use Rattle.othello_moves.proofs.legal.moves.Goals as goal

pub returns : goal.returns
returns c =
    rw (c.lower.ensures, c.raise.ensures)
    (both-lines c.args.board.own c.args.board.opp (omega arith) (omega arith) c.args.board.disjoint)
