-- A new hall (`Hall::new`): one without a tenant keeps the hall's invariant.
use Rattle.std.proofs.Common.{arith}
use Rattle.hall.proofs.Halls.{empty-kept}
use Rattle.hall.proofs.hall.Hall.new.Goals as goal

pub invariant_of-result : goal.invariant_of-result
invariant_of-result g c = grind (arith, empty-kept)
