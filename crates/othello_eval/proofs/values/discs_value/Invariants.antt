-- The evaluation's discs (`values::discs_value`): at each turn, the sum so far and the weights left make the whole,
-- within 6,400 for each weight passed.
use Rattle.othello_eval.proofs.Common.{◌≡◌, ◌*◌, ◌≤ℤ◌, ◌+ℤ◌, pos, neg_ℤ, drop}
use Rattle.othello_eval.proofs.MaskLemmas.{weighed_sum, weight_table}
use Rattle.othello_eval.proofs.values.discs_value.Given as goal

abbrev pub invariant-loop-weight : goal.invariant-loop-weight
invariant-loop-weight l = record {
  so_far : l.sum +ℤ weighed_sum l.board.own l.board.opp (drop l.weight-index weight_table) ≡ weighed_sum l.board.own l.board.opp weight_table;
  low : neg_ℤ (pos (6400 * l.weight-index)) ≤ℤ l.sum;
  high : l.sum ≤ℤ pos (6400 * l.weight-index);
}
