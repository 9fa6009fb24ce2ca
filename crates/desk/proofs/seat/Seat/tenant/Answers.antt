-- A tenant's seat at the desk (`Seat::tenant`): the number is that of its tenant.
use Rattle.desk.proofs.Common.{rules}
use Rattle.desk.proofs.seat.Seat.tenant.Goals as goal

pub returns : goal.returns
returns g c = search rules
