-- The desk's lock (`Kept::has_sleepers`): whether some worker sleeps is read from the count that is kept.
use Rattle.desk.proofs.Common.{rules}
use Rattle.desk.proofs.lock.Kept.has_sleepers.Goals as goal

pub returns : goal.returns
returns g c = search rules
