-- The lemmas on a board's choices that the tactics try at the goals of each function that names a set.
use Rattle.othello_moves.proofs.AllowedLemmas.{length-cells, length-after}
use Rattle.othello_moves.proofs.FewLemmas.{legal-empty, legal-opposing, few-choices}
use Rattle.othello_moves.proofs.BitLemmas.{slice_get-drop, length-sequence, bool_byte-cond, length-in_order}

pub ruleset boards_keep_their_size_rules = (length-cells, length-after)

pub ruleset choices_are_few_rules = (legal-empty, legal-opposing, few-choices)

pub ruleset choice_rules = (slice_get-drop)

pub ruleset len_rules = (length-sequence, bool_byte-cond)

pub ruleset move_count_rules = (length-in_order)
