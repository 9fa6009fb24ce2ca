-- The lemmas on a board's values that the tactics try at the goals of each function that names a set.
use Rattle.othello_eval.proofs.MinimaxLemmas.{minimax-over, best_choice-over, best_choice-leaf, minimax-leaf-there, minimax-leaf, minimax-deeper, best_choice-deeper}
use Rattle.othello_eval.proofs.ValueLemmas.{final_value-within, small-fits, difference-fits, final-fits, final-is, known-within, negated-fits, negated-is, after-pass}
use Rattle.othello_eval.proofs.Common.{length-cells, count_by-le-length}

pub ruleset final_value_rules = (count_by-le-length, length-cells, final_value-within, small-fits, difference-fits, final-fits, final-is)

pub ruleset finished_games_rules = (minimax-over, best_choice-over)

pub ruleset games_at_depth_0_rules = (best_choice-leaf, minimax-leaf-there)

pub ruleset swap_rules = (known-within, negated-fits, negated-is, after-pass)

pub ruleset values_by_choices_rules = (minimax-leaf, minimax-deeper, best_choice-deeper)
