-- Rows of the search: best scores at beta, or below a settled choice's worth, that `IsSound` refuses.
use Rattle.jamboree_rules.proofs.Common.{refl, inl, inr, squares, in_order}
use Rattle.othello_board.specs.Rules.{squares_beside}
use Rattle.leaf_search.specs.othello_eval.Values.{weights}
use Rattle.leaf_search.specs.othello_eval.Minimax.{minimax, best_choice}
use Rattle.jamboree_rules.proofs.rows.scores_that_are_not_sound.Goals as goal

pub returns : goal.returns
unfolding squares squares_beside in_order weights minimax best_choice
returns c = record {
  below = λ s. (s.below (inr refl)).lt;
  below_first = λ s. (s.below (inl refl)).lt;
  settled = λ s. (s.settled (inr refl) 0 refl).le;
  settled_first = λ s. (s.settled (inl refl) 0 refl).le;
}
