-- The promise on two lists of steps (`run_two`): a tenant whose own taken steps are the same in both is the same after
-- both, also beside nobody.
use Rattle.promises.proofs.Isolation.{undisturbed, alone}
use Rattle.promises.proofs.run_two.Goals as goal

pub returns-clause-headline : goal.returns-clause-headline
returns-clause-headline g c = (c.in_ok-one.ensures, c.in_ok-other.ensures)

pub returns-clause-undisturbed : goal.returns-clause-undisturbed
returns-clause-undisturbed g c number same = undisturbed _ number c.in_ok-one.ensures c.in_ok-other.ensures same

pub returns-clause-alone : goal.returns-clause-alone
returns-clause-alone g c number are admitted = alone _ number c.in_ok-one.ensures c.in_ok-other.ensures are admitted
