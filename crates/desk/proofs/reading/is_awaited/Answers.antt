-- A desk's reading of the hall (`reading::is_awaited`): a job is awaited exactly where it is pending.
use Rattle.desk.proofs.Common.{rules}
use Rattle.desk.proofs.reading.is_awaited.Goals as goal

pub returns-in-Some-Pending : goal.returns-in-Some-Pending
returns-in-Some-Pending g c = search rules
