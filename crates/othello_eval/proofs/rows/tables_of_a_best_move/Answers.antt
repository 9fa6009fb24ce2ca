-- Rows of tables: those of two boards with one best move, by computing the definition.
use Rattle.othello_eval.proofs.Common.{refl, arith, All-from_recursion, squares, squares_beside, in_order, two_discs_from_there, weights, minimax, best_choice, corner_or_edge, corner_and_edge, to_pass, IsTrueBound, IsExactIfBest}
use Rattle.othello_eval.proofs.TableLemmas.{apart}
use Rattle.othello_eval.proofs.rows.tables_of_a_best_move.Goals as goal

pub returns : goal.returns
unfolding squares squares_beside in_order weights minimax best_choice
returns c = record {
  corner = record {
    each = refl;
    holds = All-from_recursion (IsTrueBound 1 corner_or_edge) corner_and_edge (refl, (record { le = tt }, tt));
    best = All-from_recursion (IsExactIfBest (best_choice 1 corner_or_edge)) corner_and_edge (λ _. refl, (λ e. absurd (apart (best_choice 1 corner_or_edge) 0 4 refl (λ n. absurd (omega arith)) e), tt));
  };
  pass = record {
    each = refl;
    holds = All-from_recursion (IsTrueBound 1 two_discs_from_there) to_pass (refl, tt);
    best = All-from_recursion (IsExactIfBest (best_choice 1 two_discs_from_there)) to_pass (λ _. refl, tt);
  };
}
