-- The hall admits a tenant or raises one (`Hall::admit`): what the core would refuse is refused, before any memory is
-- taken.
use Rattle.hall.proofs.Common.{sym, rules}
use Rattle.hall.proofs.Halls.{refused}
use Rattle.hall.proofs.hall.Hall.admit.Goals as goal

pub returns-in-Some : goal.returns-in-Some
returns-in-Some g c = record { one = rw (← c.self.view_is) (refused _ _ _ c.in-Some.why (sym c.in-Some.ensures)); taken = tt; refused = search rules; count = tt }
