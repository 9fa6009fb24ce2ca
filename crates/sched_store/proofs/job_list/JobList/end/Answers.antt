-- A tenant's jobs in the core's store (`JobList::end`): the live job of this root is replaced by how it ended; where
-- there is none the list stays.
use Rattle.sched_store.proofs.Lookups.{arith, length-set}
use Rattle.sched_store.proofs.Jobs.{none-number_from, ended-none, ended-from, once-ended}
use Rattle.sched_store.proofs.job_list.JobList.end.Goals as goal

pub invariant_of-self : goal.invariant_of-self
invariant_of-self g c = grind (arith, length-set, once-ended)

pub returns-then-number-gt0 : goal.returns-then-number-gt0
returns-then-number-gt0 g c = grind (arith, ended-from)

pub returns-else-number-gt0 : goal.returns-else-number-gt0
returns-else-number-gt0 g c = grind (arith, ended-none, none-number_from)
