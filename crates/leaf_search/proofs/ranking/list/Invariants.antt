-- The list of keyed choices for the ordered search (`ranking::list`): at each turn, it has the choices taken so far
-- in the rules' order. It ends, as fewer choices are left.
use Rattle.leaf_search.proofs.Common.{length, cells}
use Rattle.leaf_search.proofs.ListLemmas.{IsListed}
use Rattle.leaf_search.proofs.ranking.list.Given as goal

abbrev pub invariant-loop-choice : goal.invariant-loop-choice
invariant-loop-choice l = IsListed (cells l.weighed.board) l.ranked.items l.left

abbrev pub decreases-loop-choice : goal.decreases-loop-choice
decreases-loop-choice l = length l.left
