-- How long a thread waits before it tries the desk's lock again (`Backoff::double`): the wait is doubled, up to the
-- longest.
use Rattle.std.proofs.Common.{rules}
use Rattle.hall.proofs.desk_rules.backoff.Backoff.double.Goals as goal

pub returns-clause-wait : goal.returns-clause-wait
returns-clause-wait c = search rules
