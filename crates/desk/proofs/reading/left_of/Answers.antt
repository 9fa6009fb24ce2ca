-- A desk's reading of the hall (`reading::left_of`): what is left to a tenant, or NoTenant where it isn't there.
use Rattle.desk.proofs.Common.{rules}
use Rattle.desk.proofs.reading.left_of.Goals as goal

pub returns : goal.returns
returns g c = search rules
