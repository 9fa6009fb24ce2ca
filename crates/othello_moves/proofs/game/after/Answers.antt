-- The board after a choice (`game::after`): the choice's square is on the board and legal.
use Rattle.othello_moves.proofs.Common.{subst, Contains, cells, choices}
use Rattle.othello_moves.proofs.AllowedLemmas.{contained-allowed}
use Rattle.othello_moves.proofs.game.after.Goals as goal

pub play-requires-clause-on_board : goal.play-requires-clause-on_board
play-requires-clause-on_board c = (contained-allowed (cells c.args.board) _ (subst (Contains (choices (cells c.args.board))) c.in-Square.is c.requires)).0

pub play-requires-clause-legal : goal.play-requires-clause-legal
play-requires-clause-legal c = (contained-allowed (cells c.args.board) _ (subst (Contains (choices (cells c.args.board))) c.in-Square.is c.requires)).1
