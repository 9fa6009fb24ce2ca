-- Representation: what a tenant of the hall has used up of what it may do: each of its taken steps uses one.
use Rattle.std.specs.Prelude.{ℕ, ◌+◌, List, [], ◌∷◌, length}
use Rattle.sched_rules.specs.declared.job.Job.{Job}
use Rattle.sched_rules.specs.declared.job.Job.TheVariants.{Live, Done, Spent, Cancelled}
use Rattle.sched_rules.specs.Trees.{Tenant}

-- how many of a tenant's jobs have ended
abbrev pub ended_count : List Job → ℕ
ended_count [] = 0
ended_count (Live root ∷ jobs) = ended_count jobs
ended_count (Done words ∷ jobs) = ended_count jobs + 1
ended_count (Spent ∷ jobs) = ended_count jobs + 1
ended_count (Cancelled ∷ jobs) = ended_count jobs + 1

-- how many steps a tenant has used up of those that it may take: its admission, its counted steps, a Submit for each
-- job, and a Spend or a Cancel for each job that has ended
abbrev pub uses : Tenant → ℕ
uses tenant = 1 + tenant.steps + length tenant.jobs + ended_count tenant.jobs
