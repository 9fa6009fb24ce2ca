-- Of values: evaluations lie within 1,184 and all values within 128,000, so the law `values_are_bounded`.
use Rattle.othello_eval.proofs.ValueLemmas.{eval-within, final_value-within}
use Rattle.othello_eval.proofs.MinimaxLemmas.{minimax-within}
use Rattle.othello_eval.proofs.laws.values_are_bounded.Goals as goal

pub returns : goal.returns
returns c = record { evaluation = eval-within; last = final_value-within; minimax = minimax-within }
