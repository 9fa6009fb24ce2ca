-- A search's inlet (`inlet::best_of`): the greater of the frame's best score and the
-- child's score is at most 1,000,000.
use Rattle.jamboree.proofs.Common.{arith, ints, clamps}
use Rattle.jamboree.proofs.inlet.best_of.Goals as goal

pub returns-clause-high : goal.returns-clause-high
returns-clause-high c = omega (arith, ints, clamps)
