-- How long a thread waits for the desk's lock at most (`backoff::longest`): after a shallow leaf as long as its
-- definition says.
use Rattle.std.proofs.Common.{rules}
use Rattle.hall.proofs.desk_rules.backoff.longest.Goals as goal

pub returns-then-depth-le-SHALLOW-clause-longest : goal.returns-then-depth-le-SHALLOW-clause-longest
returns-then-depth-le-SHALLOW-clause-longest c = search rules
