-- A function that the page calls (`exports::own_after`): the discs, after the choice with this code,
-- of the player who is then to move.
use Rattle.std.proofs.Common.{◌≡◌, ◌∙◌, ap, Some, None, arith}
use Rattle.std.specs.Option.{option_map_or}
use Rattle.othello_board.specs.Words.{cells, cells_of}
use Rattle.page_engine.specs.Codes.{after_code, own_bits}
use Rattle.page_engine.proofs.CodeLemmas.{cells-here, own_word-cells}
use Rattle.page_engine.proofs.exports.own_after.Goals as goal

pub returns-in-None-board_after-clause-value : goal.returns-in-None-board_after-clause-value
returns-in-None-board_after-clause-value c board =
    let here = cells-here c.in-Some.board c.args.own c.args.opp c.in-Some.ensures.words in
    let none : None ≡ after_code (cells_of c.args.own c.args.opp) c.args.choice = c.in-None-board_after.ensures ∙ ap (λ b. after_code b c.args.choice) here in
    ap (λ found. option_map_or own_bits found 0) none

pub returns-in-Some-board_after-clause-value : goal.returns-in-Some-board_after-clause-value
returns-in-Some-board_after-clause-value c board =
    let here = cells-here c.in-Some.board c.args.own c.args.opp c.in-Some.ensures.words in
    let some : Some (cells c.in-Some-board_after.next) ≡ after_code (cells_of c.args.own c.args.opp) c.args.choice = c.in-Some-board_after.ensures ∙ ap (λ b. after_code b c.args.choice) here in
    own_word-cells c.in-Some-board_after.next (omega arith) ∙ ap (λ found. option_map_or own_bits found 0) some
