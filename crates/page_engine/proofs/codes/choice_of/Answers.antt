-- The page's choice by its code (`codes::choice_of`): what is found is a choice of the board.
use Rattle.std.proofs.Common.{sym, ◌∙◌}
use Rattle.std.proofs.lemmas.Bool.{cond-true, eq-eqb}
use Rattle.othello_board.specs.Words.{cells}
use Rattle.othello_moves.specs.Choices.{choices}
use Rattle.page_engine.proofs.CodeLemmas.{coded-contained}
use Rattle.page_engine.proofs.codes.choice_of.Goals as goal

pub returns-then-code_of-code-clause-chosen : goal.returns-then-code_of-code-clause-chosen
returns-then-code_of-code-clause-chosen c =
    coded-contained c.args.code (choices (cells c.args.board)) c.in-Some.choice
    (sym c.loop-choice.invariant ∙ rw c.in-Some.ensures.cases (cond-true _ _ _ (eq-eqb _ _ (sym c.code_of.ensures ∙ c.if-code_of-code.true))))
