-- Rows of the search: frames that are done, whose score or stored choice `IsSound` refuses.
use Rattle.jamboree_rules.proofs.Common.{◌≡◌, negsuc, refl, arith, ints, squares, in_order}
use Rattle.othello_board.specs.Rules.{squares_beside}
use Rattle.leaf_search.specs.othello_eval.Values.{weights}
use Rattle.leaf_search.specs.othello_eval.Minimax.{minimax, best_choice}
use Rattle.jamboree_rules.proofs.rows.ends_that_are_not_sound.Goals as goal

pub returns : goal.returns
unfolding squares squares_beside in_order weights minimax best_choice
returns c = record {
  greater = λ s. (let e : negsuc 2 ≡ negsuc 1 = (s.bound refl).exact (record { lt = tt }) (record { lt = tt }) in omega (arith, ints, e));
  above = λ s. ((s.bound refl).lower (record { le = tt })).le;
  below = λ s. ((s.bound refl).upper (record { le = tt })).le;
  later = λ s. (let e : 26 ≡ 19 = s.named refl (record { lt = tt }) (record { lt = tt }) in omega (arith, e));
  nothing = λ s. (let e : 65 ≡ 19 = s.named refl (record { lt = tt }) (record { lt = tt }) in omega (arith, e));
}
