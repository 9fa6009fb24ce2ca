-- Both players' legal squares, kept (`Mobility::is_over`): the game is over exactly where neither has one.
use Rattle.othello_moves.proofs.Common.{bit_or, arith, eqb-true, eq-eqb, cells}
use Rattle.othello_moves.proofs.BitLemmas.{over-exactly}
use Rattle.othello_moves.proofs.mobility.Mobility.is_over.Goals as goal

pub returns : goal.returns
returns c =
    let m = c.args.self in
    let exactly = over-exactly (cells m.board) m.own m.opp m.own_legal (omega arith) m.opp_legal (omega arith) in
    ((λ none. exactly.0 (eqb-true (bit_or m.own m.opp) 0 none)), (λ none. eq-eqb (bit_or m.own m.opp) 0 (exactly.1 none)))
