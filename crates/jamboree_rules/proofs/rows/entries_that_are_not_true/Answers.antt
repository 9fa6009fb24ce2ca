-- Rows of the search: an entry of c4 that isn't true is refused, one of each kind, each in another phase of its frame.
use Rattle.jamboree_rules.proofs.Common.{◌≡◌, negsuc, refl, arith, ints, squares, in_order, Exact}
use Rattle.othello_board.specs.Rules.{squares_beside}
use Rattle.leaf_search.specs.othello_eval.Values.{weights}
use Rattle.leaf_search.specs.othello_eval.Minimax.{minimax, best_choice}
use Rattle.leaf_search.specs.othello_eval.declared.bound.BoundKind.TheVariants.{Low, High}
use Rattle.jamboree_rules.proofs.rows.entries_that_are_not_true.Goals as goal

pub returns : goal.returns
unfolding squares squares_beside in_order weights minimax best_choice
returns c = record {
  low = λ s. (s.entries 1 Low refl).le;
  high = λ s. (s.entries 1 High refl).le;
  exact = λ s. (let e : negsuc 2 ≡ negsuc 3 = s.entries 1 Exact refl in omega (arith, ints, e));
}
