-- The plain recursion for minimax (`recursion::plain`): it ends, as each call has a ply or a pass less; at each turn,
-- value and best choice of those tried and of those left are the board's.
use Rattle.othello_eval.proofs.Common.{◌+◌, ◌*◌, ◌≡◌, Some, All, Contains, length, cells, choices, minimax, choice_value, best_choice, passing}
use Rattle.othello_eval.proofs.MinimaxLemmas.{running}
use Rattle.othello_eval.proofs.recursion.+plain.Given as goal

abbrev pub decreases-plain : goal.decreases-plain
decreases-plain l = 2 * l.depth + passing (cells l.board)

abbrev pub invariant-loop-next : goal.invariant-loop-next
invariant-loop-next l = record {
  value : (running (choice_value l.fn.depth (cells l.fn.board)) l.value l.best l.left).0 ≡ minimax l.fn.depth (cells l.fn.board);
  choice : Some (running (choice_value l.fn.depth (cells l.fn.board)) l.value l.best l.left).1 ≡ best_choice l.fn.depth (cells l.fn.board);
  chosen : All (Contains (choices (cells l.fn.board))) l.left;
}

abbrev pub decreases-loop-next : goal.decreases-loop-next
decreases-loop-next l = length l.left
