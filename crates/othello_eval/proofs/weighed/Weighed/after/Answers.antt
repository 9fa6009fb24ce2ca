-- A board with its weighed discs (`Weighed::after`): the choice's square is legal, so the board may be played.
use Rattle.othello_eval.proofs.Common.{subst, Contains, cells, choices, contained-allowed}
use Rattle.othello_eval.proofs.weighed.Weighed.after.Goals as goal

pub play-requires : goal.play-requires
play-requires c =
    let board = cells c.args.self.board in
    let allowed = contained-allowed board _ (subst (Contains (choices board)) c.in-Square.is c.requires) in
    record { on_board = allowed.0; legal = allowed.1 }
