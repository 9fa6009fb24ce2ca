-- A function that the page calls (`exports::choice_value_near`): the same value, sought near a guess first.
use Rattle.std.proofs.Common.{◌≡◌, ◌∙◌, ap, None, Some, to_z, of_z, w32, arith}
use Rattle.std.proofs.lemmas.Int.{ints}
use Rattle.std.specs.Option.{option_map_or}
use Rattle.othello_board.specs.Words.{cells_of}
use Rattle.page_engine.specs.leaf_search.othello_eval.Minimax.{choice_value}
use Rattle.page_engine.specs.Codes.{choice_of_code, no_value}
use Rattle.page_engine.proofs.CodeLemmas.{cells-here, nothing-found}
use Rattle.page_engine.proofs.exports.choice_value_near.Goals as goal

pub returns-in-None-choice_of-clause-value : goal.returns-in-None-choice_of-clause-value
returns-in-None-choice_of-clause-value c board deep shallow =
    let here = cells-here c.in-Some.board c.args.own c.args.opp c.in-Some.ensures.words in
    let none : None ≡ choice_of_code (cells_of c.args.own c.args.opp) c.args.choice = c.in-None-choice_of.ensures.value ∙ ap (λ b. choice_of_code b c.args.choice) here in
    ap (λ found. option_map_or (choice_value c.args.depth (cells_of c.args.own c.args.opp)) found no_value) none

pub returns-in-None-choice_of-clause-within : goal.returns-in-None-choice_of-clause-within
returns-in-None-choice_of-clause-within c board deep shallow some =
    let here = cells-here c.in-Some.board c.args.own c.args.opp c.in-Some.ensures.words in
    let none : None ≡ choice_of_code (cells_of c.args.own c.args.opp) c.args.choice = c.in-None-choice_of.ensures.value ∙ ap (λ b. choice_of_code b c.args.choice) here in
    nothing-found _ _ none some

pub returns-in-Some-choice_of-clause-value : goal.returns-in-Some-choice_of-clause-value
returns-in-Some-choice_of-clause-value c board deep shallow =
    let here = cells-here c.in-Some.board c.args.own c.args.opp c.in-Some.ensures.words in
    let some : Some c.in-Some-choice_of.chosen ≡ choice_of_code (cells_of c.args.own c.args.opp) c.args.choice = c.in-Some-choice_of.ensures.value ∙ ap (λ b. choice_of_code b c.args.choice) here in
    let same : to_z w32 (of_z w32 c.worth_near.result) ≡ c.worth_near.result = omega (arith, ints, c.worth_near.ensures.within.0, c.worth_near.ensures.within.1) in
    same ∙ c.worth_near.ensures.value
    ∙ ap (λ b. choice_value c.args.depth b c.in-Some-choice_of.chosen) here
    ∙ ap (λ found. option_map_or (choice_value c.args.depth (cells_of c.args.own c.args.opp)) found no_value) some
