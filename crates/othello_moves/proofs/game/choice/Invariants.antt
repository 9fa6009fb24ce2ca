-- A board's choice by its number (`game::choice`): at each turn, what is left is the board's choices without those
-- taken so far.
use Rattle.othello_moves.proofs.Common.{◌≡◌, drop, cells, choices}
use Rattle.othello_moves.proofs.game.choice.Given as goal

abbrev pub invariant-loop : goal.invariant-loop
invariant-loop l = l.left ≡ drop l.counter (choices (cells l.fn.board))
