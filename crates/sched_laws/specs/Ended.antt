-- Meaning: which jobs of a tenant have ended, and that they stay as they are.
use Rattle.std.specs.Prelude.{◌≡◌, ℕ, List, Option, Some, None}
use Rattle.sched_rules.specs.declared.job.Job.{Job}
use Rattle.sched_rules.specs.declared.job.Job.TheVariants.{Live, Done, Spent, Cancelled}
use Rattle.sched_rules.specs.Trees.{Tenant, job_at}

-- a job has ended: it is done, spent or cancelled
abbrev pub HasEnded : Job → Type 0
HasEnded (Live root) = ⊥
HasEnded (Done words) = Unit {0}
HasEnded Spent = Unit {0}
HasEnded Cancelled = Unit {0}

-- each of these jobs that has ended is the same, under the same number, in the tenant, if that is still there
abbrev pub KeepsEnded : List Job → Option Tenant → Type 0
KeepsEnded jobs None = Unit {0}
KeepsEnded jobs (Some tenant) = (number : ℕ) (job : Job) → HasEnded job → job_at jobs number ≡ Some job → job_at tenant.jobs number ≡ Some job
