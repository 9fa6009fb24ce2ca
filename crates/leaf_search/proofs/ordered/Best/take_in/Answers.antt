-- The best of the choices tried (`Best::take_in`): a score above the best, or above what the window asked for, replaces
-- the choice; else it is kept.
use Rattle.leaf_search.proofs.Common.{arith, ints, clamps}
use Rattle.leaf_search.proofs.ordered.Best.take_in.Goals as goal

pub returns-then-score-min-clause-score : goal.returns-then-score-min-clause-score
returns-then-score-min-clause-score c = omega (arith, ints, clamps, c.max-self.ensures.value, c.min.ensures.value)

pub returns-then-score-min-clause-kept : goal.returns-then-score-min-clause-kept
returns-then-score-min-clause-kept c no_better no_higher = absurd (omega (arith, ints, clamps, c.min.ensures.value))

pub returns-else-score-min-clause-score : goal.returns-else-score-min-clause-score
returns-else-score-min-clause-score c = omega (arith, ints, clamps, c.min.ensures.value)

pub returns-else-score-min-clause-better : goal.returns-else-score-min-clause-better
returns-else-score-min-clause-better c better = absurd (omega (arith, ints, clamps, c.min.ensures.value))

pub returns-else-score-min-clause-above : goal.returns-else-score-min-clause-above
returns-else-score-min-clause-above c higher = absurd (omega (arith, ints, clamps, c.min.ensures.value))
