-- The discs of a position's text while it is read (`Discs::with`): a new bit stands where the other word has none.
use Rattle.othello_board.proofs.PositionText.Common.{◌∙◌, and_comm}
use Rattle.othello_board.proofs.PositionText.ReadingLemmas.{still-apart}
use Rattle.othello_board.proofs.position_text.discs.Discs.with.Goals as goal
use Rattle.othello_board.proofs.position_text.discs.Discs.with.Goals.{in-Disc-Black, in-Disc-White, in-Blank}

pub invariant_of-self : goal.invariant_of-self
invariant_of-self c =
    elim c.match-mark.branch [
      | in-Disc-Black w ↦ record { disjoint = rw w.result-is (still-apart c.args.self.black w.with_bit.result c.args.self.white c.args.square c.args.self.disjoint c.requires.no_white w.with_bit.ensures.others) }
      | in-Disc-White w ↦ record { disjoint = rw w.result-is (and_comm c.args.self.black w.with_bit-in-Disc-White.result ∙ still-apart c.args.self.white w.with_bit-in-Disc-White.result c.args.self.black c.args.square (and_comm c.args.self.white c.args.self.black ∙ c.args.self.disjoint) c.requires.no_black w.with_bit-in-Disc-White.ensures.others) }
      | in-Blank w ↦ record { disjoint = rw w.result-is c.args.self.disjoint }
    ]
