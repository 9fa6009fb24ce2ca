-- Of a raised reservation in a core: it is beyond the totals exactly where the sum of all would pass one, so the law
-- `more_is_beyond_exactly_where_a_total_is_passed`.
use Rattle.sched_laws.proofs.Sums.{beyond-exactly}
use Rattle.sched_laws.proofs.totals.more_is_beyond_exactly_where_a_total_is_passed.Goals as goal

pub returns : goal.returns
returns c = beyond-exactly
