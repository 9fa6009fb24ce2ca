-- Rows of tables: the opening's to one ply, with four equal moves, and the empty ones, by computing the definition.
use Rattle.othello_eval.proofs.Common.{refl, arith, [], All-from_recursion, squares, squares_beside, in_order, weights, minimax, best_choice, opening, all_opposing, equal_moves, IsTrueBound, IsExactIfBest}
use Rattle.othello_eval.proofs.TableLemmas.{apart}
use Rattle.othello_eval.proofs.rows.tables_of_equal_moves.Goals as goal

pub returns : goal.returns
unfolding squares squares_beside in_order weights minimax best_choice
returns c = record {
  opening = record {
    each = refl;
    holds = All-from_recursion (IsTrueBound 1 opening) equal_moves (refl, (record { le = tt }, (record { le = tt }, (record { le = tt }, tt))));
    best = All-from_recursion (IsExactIfBest (best_choice 1 opening)) equal_moves (
      λ _. refl,
      (
        λ e. absurd (apart (best_choice 1 opening) 19 26 refl (λ n. absurd (omega arith)) e),
        (λ e. absurd (apart (best_choice 1 opening) 19 37 refl (λ n. absurd (omega arith)) e), (λ e. absurd (apart (best_choice 1 opening) 19 44 refl (λ n. absurd (omega arith)) e), tt)),
      ),
    );
  };
  leaf = record { each = refl; holds = All-from_recursion (IsTrueBound 0 opening) [] tt; best = All-from_recursion (IsExactIfBest (best_choice 0 opening)) [] tt };
  over = record { each = refl; holds = All-from_recursion (IsTrueBound 12 all_opposing) [] tt; best = All-from_recursion (IsExactIfBest (best_choice 12 all_opposing)) [] tt };
}
