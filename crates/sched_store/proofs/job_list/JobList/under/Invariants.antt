-- A tenant's jobs in the core's store (`JobList::under`): at each turn of the search from the newest on, no job passed
-- so far lives under this root.
use Rattle.sched_store.proofs.Lookups.{◌≡◌, false, drop, is_live_in}
use Rattle.sched_store.proofs.job_list.JobList.under.Given as goal

abbrev pub invariant-loop-at : goal.invariant-loop-at
invariant-loop-at g l = is_live_in l.root (drop l.at l.self-inside.jobs.items) ≡ false
