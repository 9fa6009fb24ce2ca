-- Whether a game is over (`game::over`): exactly where the board has no choice.
use Rattle.othello_moves.proofs.Common.{◌≡◌, ◌↔◌, [], IsTrue, subst, Board, cells, choices}
use Rattle.othello_moves.proofs.game.over.Goals as goal

pub returns : goal.returns
returns c = subst (λ (b : Board). IsTrue c.is_over.result ↔ (choices (cells b) ≡ [])) c.of.ensures c.is_over.ensures
