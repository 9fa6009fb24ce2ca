-- The serial search of a root (`tree::best_of`): at each turn, the best is that of the choices searched so far. It
-- ends, as fewer choices are left.
use Rattle.leaf_search.proofs.Common.{length, cells, choices, choice_value}
use Rattle.leaf_search.proofs.WindowLemmas.{IsSearching}
use Rattle.leaf_search.proofs.SerialLemmas.{IsInTurn}
use Rattle.leaf_search.specs.Serial.{IsRulesOrder}
use Rattle.leaf_search.proofs.tree.best_of.Given as goal

abbrev pub invariant-loop-choice : goal.invariant-loop-choice
invariant-loop-choice g l =
    let board = cells l.weighed.board in
    IsSearching l.window.alpha l.window.beta (choice_value l.depth board) (choices board) l.left l.best.score l.best.choice
    × (IsRulesOrder g.O.ClassOrder.IsTaken → IsInTurn l.depth board l.window.alpha l.window.beta (l.best.score, l.best.visited) l.left)

abbrev pub decreases-loop-choice : goal.decreases-loop-choice
decreases-loop-choice g l = length l.left
