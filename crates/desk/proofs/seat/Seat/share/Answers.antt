-- A tenant's seat at the desk (`Seat::share`): its share is the number that its clauses call so.
use Rattle.desk.proofs.Common.{rules}
use Rattle.desk.proofs.seat.Seat.share.Goals as goal

pub returns : goal.returns
returns g c = search rules
