-- A search's next act (`next::floor`): the greater of alpha and the best score is at most 200,000.
use Rattle.jamboree.proofs.Common.{arith, ints, clamps}
use Rattle.jamboree.proofs.next.floor.Goals as goal

pub returns-clause-high : goal.returns-clause-high
returns-clause-high c = omega (arith, ints, clamps)
