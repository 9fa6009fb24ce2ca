-- A board after a disc is set (`Board::play`): no square has two discs, and the board is that of the rules.
use Rattle.othello_board.proofs.Common.{◌≡◌, ◌<◌, ◌*◌, ◌%◌, ◌^◌, ◌∷◌, arith, bit_or, one_shl, or_lt, mod_below, flips, cells}
use Rattle.othello_board.proofs.PlayLemmas.{play-disjoint, played-cells_of, bit_at-made}
use Rattle.othello_board.proofs.boards.Board.play.Goals as goal

pub invariant_of-result : goal.invariant_of-result
invariant_of-result c =
    let shifted_fits : 1 * 2 ^ c.args.square % 2 ^ 64 < 2 ^ 64 = mod_below (1 * 2 ^ c.args.square) (2 ^ 64) (omega arith) in
    let discs_fit = or_lt 64 c.flips.result (1 * 2 ^ c.args.square % 2 ^ 64) c.flips.type_inv shifted_fits in
    record { disjoint = play-disjoint c.args.self.own c.args.self.opp (bit_or c.flips.result (1 * 2 ^ c.args.square % 2 ^ 64)) (omega arith) discs_fit c.args.self.disjoint }

pub returns : goal.returns
returns c =
    let shifted_fits : 1 * 2 ^ c.args.square % 2 ^ 64 < 2 ^ 64 = mod_below (1 * 2 ^ c.args.square) (2 ^ 64) (omega arith) in
    let discs_fit = or_lt 64 c.flips.result (1 * 2 ^ c.args.square % 2 ^ 64) c.flips.type_inv shifted_fits in
    let flipped = flips (cells c.args.self) c.args.square in
    let shifted : 1 * 2 ^ c.args.square % 2 ^ 64 ≡ 2 ^ c.args.square = one_shl c.args.square 64 c.requires.on_board in
    played-cells_of c.args.self.own c.args.self.opp (bit_or c.flips.result (1 * 2 ^ c.args.square % 2 ^ 64)) (c.args.square ∷ flipped) discs_fit c.args.self.disjoint
    (λ i. rw (shifted, c.flips.ensures) (bit_at-made flipped c.args.square i))
