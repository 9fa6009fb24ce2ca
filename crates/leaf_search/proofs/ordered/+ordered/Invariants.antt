-- The ordered serial search (`ordered`): it ends, as each call has a ply or a pass less; and what holds of the choices
-- tried so far.
use Rattle.leaf_search.proofs.Common.{map, drop, ◌+◌, ◌*◌, cells, choices, passing, choice_value, numbered_choice}
use Rattle.leaf_search.proofs.RankingLemmas.{IsRanking}
use Rattle.leaf_search.proofs.ordered.+ordered.Given as goal

abbrev pub decreases-best_ranked : goal.decreases-best_ranked
decreases-best_ranked l = 3 * (2 * l.depth + passing (cells l.weighed.board))

abbrev pub decreases-search_ranked : goal.decreases-search_ranked
decreases-search_ranked l = 3 * (2 * l.depth + passing (cells l.weighed.board)) + 1

abbrev pub decreases-score_after : goal.decreases-score_after
decreases-score_after l = 3 * (2 * l.depth + passing (cells l.weighed.board)) + 2

abbrev pub invariant-best_ranked-loop-ranked : goal.invariant-best_ranked-loop-ranked
invariant-best_ranked-loop-ranked l =
    let board = cells l.fn.weighed.board in
    IsRanking l.window.alpha l.window.beta l.first (choice_value l.depth board) (choices board) (map numbered_choice l.all)
    (map numbered_choice (drop l.ranked-index l.all)) l.best.found.score l.best.found.choice l.best.place
