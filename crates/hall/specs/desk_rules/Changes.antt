-- Meaning: what a worker's step changed at a desk that somebody may wait for, and what a seat waits for.
use Rattle.std.specs.Prelude.{Bool, true, false, Option, Some, None, Result, Ok, Err}
use Rattle.sched_rules.specs.declared.job.Job.{Job}
use Rattle.sched_rules.specs.declared.job.Job.TheVariants.{Live, Done as DoneJob, Spent as SpentJob, Cancelled as CancelledJob}
use Rattle.sched_rules.specs.declared.refusal.Refusal.{Refusal}
use Rattle.sched_rules.specs.declared.step.DidOf.{DidOf}
use Rattle.sched_rules.specs.declared.step.DidOf.TheVariants.{Admitted, AdmittedMore, Submitted, Took, Went, Grew, Spawned, Waited, Computing, Returned, Answered, TakenIn, Finished, Spent, Cancelled, Left}
use Rattle.hall.specs.jamboree_rules.declared.leaf.Leaf.{Leaf}
use Rattle.hall.specs.declared.desk_rules.change.Change.{Change}
use Rattle.hall.specs.declared.desk_rules.change.Change.TheVariants.{Nothing, InReady, Job as InJob}

-- whether there is such a job, and it hasn't ended
abbrev pub is_some_live : Option Job → Bool
is_some_live None = false
is_some_live (Some (Live root)) = true
is_some_live (Some (DoneJob words)) = false
is_some_live (Some SpentJob) = false
is_some_live (Some CancelledJob) = false

-- what a worker's step changed that somebody may wait for, by the hall's answer: a frame became ready where a child was
-- opened or a parent woken, and a job ended where it was finished or spent
abbrev pub ends_of : Result (DidOf Leaf) Refusal → Change
ends_of (Err refusal) = Nothing
ends_of (Ok Admitted) = Nothing
ends_of (Ok AdmittedMore) = Nothing
ends_of (Ok (Submitted job root)) = Nothing
ends_of (Ok Took) = Nothing
ends_of (Ok Went) = Nothing
ends_of (Ok Grew) = Nothing
ends_of (Ok (Spawned child)) = InReady
ends_of (Ok Waited) = Nothing
ends_of (Ok (Computing leaf)) = Nothing
ends_of (Ok (Returned root)) = Nothing
ends_of (Ok Answered) = Nothing
ends_of (Ok (TakenIn None aborted)) = Nothing
ends_of (Ok (TakenIn (Some woken) aborted)) = InReady
ends_of (Ok (Finished job)) = InJob
ends_of (Ok (Spent job)) = InJob
ends_of (Ok Cancelled) = Nothing
ends_of (Ok Left) = Nothing
