-- Both players' legal squares (`legal::both_moves`): the words' bits are those of the squares that the rules allow.
use Rattle.othello_moves.proofs.Common.{filter, ap, ◌∙◌, arith, squares, is_legal, bits_of, exchanged-cells_of}
use Rattle.std.proofs.lemmas.Nat.{and_comm}
use Rattle.othello_moves.proofs.LaneLemmas.{by-lanes}
use Rattle.othello_moves.proofs.legal.both_moves.Goals as goal

pub returns-clause-own : goal.returns-clause-own
returns-clause-own c =
    rw (c.lower.ensures, c.raise.ensures, c.lower-2.ensures, c.raise-2.ensures, c.lanes.ensures, c.lanes-2.ensures)
    (by-lanes c.args.board.own c.args.board.opp (omega arith) (omega arith) c.args.board.disjoint)

pub returns-clause-opp : goal.returns-clause-opp
returns-clause-opp c =
    let own = c.args.board.own in
    let opp = c.args.board.opp in
    rw (c.lower.ensures, c.raise.ensures, c.lower-2.ensures, c.raise-2.ensures, c.lanes.ensures, c.lanes-2.ensures)
    (by-lanes opp own (omega arith) (omega arith) (and_comm opp own ∙ c.args.board.disjoint)
    ∙ ap (λ cs. bits_of (filter (is_legal cs) squares)) (exchanged-cells_of own opp c.args.board.disjoint))
