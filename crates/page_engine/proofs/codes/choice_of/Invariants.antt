-- The page's choice by its code (`codes::choice_of`): at each turn, no choice taken so far has the code. It ends, as
-- fewer are left.
use Rattle.std.proofs.Common.{◌≡◌, length}
use Rattle.othello_board.specs.Words.{cells}
use Rattle.page_engine.specs.Codes.{choice_of_code, with_code}
use Rattle.page_engine.proofs.codes.choice_of.Given as goal

abbrev pub invariant-loop-choice : goal.invariant-loop-choice
invariant-loop-choice l = with_code l.code l.left ≡ choice_of_code (cells l.fn.board) l.code

abbrev pub decreases-loop-choice : goal.decreases-loop-choice
decreases-loop-choice l = length l.left
