-- The serial search (`tree::search`): it ends, as each call has a ply or a pass less; and what holds of the choices
-- searched so far; in the rules' order what is left gives what the specified search gives.
use Rattle.leaf_search.proofs.Common.{length, ◌+◌, ◌*◌, cells, choices, passing, choice_value}
use Rattle.leaf_search.proofs.WindowLemmas.{Searched}
use Rattle.leaf_search.proofs.SerialLemmas.{IsInTurn}
use Rattle.leaf_search.specs.Serial.{IsRulesOrder}
use Rattle.leaf_search.proofs.tree.+search.Given as goal

abbrev pub decreases-score_of : goal.decreases-score_of
decreases-score_of g l = 2 * (2 * l.depth + passing (cells l.board))

abbrev pub decreases-search_below : goal.decreases-search_below
decreases-search_below g l = 2 * (2 * l.depth + passing (cells l.weighed.board)) + 1

abbrev pub invariant-score_of-loop-choice : goal.invariant-score_of-loop-choice
invariant-score_of-loop-choice g l =
    let board = cells l.fn.board in
    Searched l.window.alpha l.window.beta (choice_value l.depth board) (choices board) l.left l.best.score
    × (IsRulesOrder g.O.ClassOrder.IsTaken → IsInTurn l.depth board l.window.alpha l.window.beta (l.best.score, l.best.visited) l.left)

abbrev pub decreases-score_of-loop-choice : goal.decreases-score_of-loop-choice
decreases-score_of-loop-choice g l = length l.left
