-- A use of the law on discs and evaluations (`by_one_disc`): one disc decides.
use Rattle.promise_uses.proofs.Common.{arith}
use Rattle.promise_uses.proofs.values.by_one_disc.Goals as goal

pub returns-clause-won : goal.returns-clause-won
returns-clause-won c board other discs theirs mine = c.a_disc_outranks_evaluations.ensures.won board other (omega (arith, theirs, mine))

pub returns-clause-lost : goal.returns-clause-lost
returns-clause-lost c board other discs mine theirs = c.a_disc_outranks_evaluations.ensures.lost board other (omega (arith, theirs, mine))
