-- A function that the page calls (`exports::opp_after`): the discs, after the choice with this code,
-- of the player who made it.
use Rattle.std.proofs.Common.{◌≡◌, ◌∙◌, ap, Some, None, arith}
use Rattle.std.specs.Option.{option_map_or}
use Rattle.othello_board.specs.Words.{cells, cells_of}
use Rattle.page_engine.specs.Codes.{after_code, opp_bits}
use Rattle.page_engine.proofs.CodeLemmas.{cells-here, opp_word-cells}
use Rattle.page_engine.proofs.exports.opp_after.Goals as goal

pub returns-in-None-board_after-clause-value : goal.returns-in-None-board_after-clause-value
returns-in-None-board_after-clause-value c board =
    let here = cells-here c.in-Some.board c.args.own c.args.opp c.in-Some.ensures.words in
    let none : None ≡ after_code (cells_of c.args.own c.args.opp) c.args.choice = c.in-None-board_after.ensures ∙ ap (λ b. after_code b c.args.choice) here in
    ap (λ found. option_map_or opp_bits found 0) none

pub returns-in-Some-board_after-clause-value : goal.returns-in-Some-board_after-clause-value
returns-in-Some-board_after-clause-value c board =
    let here = cells-here c.in-Some.board c.args.own c.args.opp c.in-Some.ensures.words in
    let some : Some (cells c.in-Some-board_after.next) ≡ after_code (cells_of c.args.own c.args.opp) c.args.choice = c.in-Some-board_after.ensures ∙ ap (λ b. after_code b c.args.choice) here in
    opp_word-cells c.in-Some-board_after.next (omega arith) c.in-Some-board_after.next.disjoint ∙ ap (λ found. option_map_or opp_bits found 0) some
