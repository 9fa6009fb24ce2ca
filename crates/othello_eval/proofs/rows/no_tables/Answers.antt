-- Rows of tables: three lists that are no table of a board, by computing the definition.
use Rattle.othello_eval.proofs.Common.{◌≡◌, pos, refl, ap, arith, length, squares, squares_beside, Square, in_order, High, Exact, weights, minimax, best_choice, entry}
use Rattle.othello_eval.proofs.rows.no_tables.Goals as goal

pub returns : goal.returns
unfolding squares squares_beside in_order weights minimax best_choice
returns c = record {
  untrue = λ h. h.le;
  vague = λ t. let exact : High ≡ Exact = t.best 0 (entry (Square 0) High (pos 89)) (omega arith) refl in absurd cc;
  short = λ t. absurd (omega (arith, ap length t.each));
}
