-- Representation: the jobs of each tenant in the core's store: a list of tenants, each with its jobs, in the order of
-- their numbers.
use Rattle.std.specs.Prelude.{◌≡◌, ℕ, Bool, true, false, ◌||◌, List, [], ◌∷◌}
use Rattle.numbered_list.specs.Places.{read_by_number, has_by_number, change_by_number, remove_by_number}
use Rattle.sched_rules.specs.declared.job.Job.{Job}
use Rattle.sched_rules.specs.declared.job.Job.TheVariants.{Live, Done, Spent, Cancelled}
use Rattle.sched_rules.specs.Trees.{is_live_at}

-- a tenant's number, and its jobs from number 1 on
abbrev pub JobListOf : Type 0
JobListOf = ℕ × List Job

-- the number of the tenant whose list of jobs it is
abbrev pub owner_of_jobs : JobListOf → ℕ
owner_of_jobs job_list = job_list.0

-- the jobs of the tenant of this number; none where it isn't there
abbrev pub jobs_of : List JobListOf → ℕ → List Job
jobs_of job_lists number = read_by_number owner_of_jobs (λ job_list. job_list.1) [] number job_lists

-- the numbers of these things, in their order
abbrev pub numbers_by : {X : Type 0} → (X → ℕ) → List X → List ℕ
numbers_by number_of [] = []
numbers_by number_of (x ∷ xs) = number_of x ∷ numbers_by number_of xs

-- the numbers of the tenants whose lists of jobs these are
abbrev pub numbers_of : List JobListOf → List ℕ
numbers_of job_lists = numbers_by owner_of_jobs job_lists

-- whether the tenant of this number is there
abbrev pub is_there : ℕ → List JobListOf → Bool
is_there number job_lists = has_by_number owner_of_jobs number job_lists

-- whether a job lives, that is, hasn't ended
abbrev pub is_live : Job → Bool
is_live (Live root) = true
is_live (Done words) = false
is_live Spent = false
is_live Cancelled = false

-- whether one of a tenant's jobs lives under this root
abbrev pub is_live_in : ℕ → List Job → Bool
is_live_in root [] = false
is_live_in root (job ∷ jobs) = is_live_at root job || is_live_in root jobs

-- no two of a tenant's jobs live under one root
abbrev pub AreLiveOnce : List Job → Type 0
AreLiveOnce [] = Unit {0}
AreLiveOnce (job ∷ jobs) = ((root : ℕ) → is_live_at root job ≡ true → is_live_in root jobs ≡ false) × AreLiveOnce jobs

-- the lists of jobs, the jobs of the tenant of this number changed by change
abbrev pub with_jobs : ℕ → (List Job → List Job) → List JobListOf → List JobListOf
with_jobs number change job_lists = change_by_number owner_of_jobs number (λ job_list. (job_list.0, change job_list.1)) job_lists

-- the lists of jobs without that of the tenant of this number
abbrev pub without_jobs : ℕ → List JobListOf → List JobListOf
without_jobs number job_lists = remove_by_number owner_of_jobs number job_lists
