-- Of the best choice: it attains the minimax value, and no earlier choice does, so the law `best_choice_is_the_first`.
use Rattle.othello_eval.proofs.MinimaxLemmas.{best_choice-attains, best_choice-first}
use Rattle.othello_eval.proofs.laws.best_choice_is_the_first.Goals as goal

pub returns : goal.returns
returns c = record { attains = best_choice-attains; first = best_choice-first }
