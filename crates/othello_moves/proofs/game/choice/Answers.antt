-- A board's choice by its number (`game::choice`): each turn takes the first choice that is left.
use Rattle.othello_moves.proofs.Common.{ap, ◌∙◌, drop, drop-drop, cells, choices}
use Rattle.othello_moves.proofs.game.choice.Goals as goal

pub loop-preserved : goal.loop-preserved
loop-preserved c = c.pop_first.ensures.rest ∙ ap (drop 1) c.loop.invariant ∙ drop-drop 1 c.loop.counter (choices (cells c.args.board))
