-- A new badge for a worker at the desk (`LockedHall::badge`): it has share 0 and one part of the spare share.
use Rattle.desk.proofs.Common.{rules}
use Rattle.desk.proofs.locked_hall.LockedHall.badge.Goals as goal

pub invariant_of-result : goal.invariant_of-result
invariant_of-result g c = search rules

pub returns-clause-share : goal.returns-clause-share
returns-clause-share g c = search rules
