-- A board with its weighed discs is played (`Weighed::play`): the kept sum is that of the new board's discs.
use Rattle.othello_eval.proofs.Common.{arith, ints, cells}
use Rattle.othello_eval.proofs.ValueLemmas.{known-within, known-bits, after-move}
use Rattle.othello_eval.proofs.weighed.Weighed.play.Goals as goal

pub turned-requires-clause-discs : goal.turned-requires-clause-discs
turned-requires-clause-discs c = known-bits _ (known-within _ (cells c.args.self.board) c.args.self.weighed)

pub invariant_of-result : goal.invariant_of-result
invariant_of-result c =
    let board = c.args.self.board in
    let next = c.play-board.result in
    let moved = after-move board.own board.opp next.own next.opp c.args.square board.disjoint next.disjoint c.requires.legal c.play-board.ensures in
    let known = c.args.self.weighed in
    let within = known-within _ (cells board) known in
    let flipped = c.word_value-flipped.ensures in let weight = c.weight_of.ensures in
    record {
      weighed = omega (
        arith,
        ints,
        moved,
        known,
        within.0,
        within.1,
        c.turned.ensures,
        flipped.value,
        flipped.within.0,
        flipped.within.1,
        weight.value,
        weight.within.0,
        weight.within.1,
      );
    }
