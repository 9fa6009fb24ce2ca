-- Of what a stack's nodes are charged: the total changes by just the entry that changes, so the law
-- `charges_are_counted`.
use Rattle.cactus_stack.proofs.LawFacts.{charge-without}
use Rattle.cactus_stack.proofs.laws.charges_are_counted.Goals as goal

pub returns-clause-closed : goal.returns-clause-closed
returns-clause-closed c = λ nodes numbers once. charge-without nodes numbers once
