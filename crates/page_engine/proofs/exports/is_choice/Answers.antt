-- A function that the page calls (`exports::is_choice`): 1 exactly where a choice of the board has this code.
use Rattle.std.proofs.Common.{◌≡◌, ◌∙◌, sym, ap}
use Rattle.std.specs.Option.{is_some}
use Rattle.othello_board.specs.Words.{cells_of}
use Rattle.page_engine.specs.Codes.{choice_of_code}
use Rattle.page_engine.proofs.CodeLemmas.{cells-here}
use Rattle.page_engine.proofs.exports.is_choice.Goals as goal

pub returns-in-Some-clause-value : goal.returns-in-Some-clause-value
returns-in-Some-clause-value c board =
    let here = cells-here c.in-Some.board c.args.own c.args.opp c.in-Some.ensures.words in
    let same : c.is_some.result ≡ is_some (choice_of_code (cells_of c.args.own c.args.opp) c.args.choice) = c.is_some.ensures ∙ ap is_some (c.choice_of.ensures.value ∙ ap (λ b. choice_of_code b c.args.choice) here) in
    (λ yes. sym same ∙ yes, λ some. same ∙ some)
