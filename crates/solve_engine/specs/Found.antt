-- Meaning: what the search of a line of `solve` by a core came to.
use Rattle.std.specs.Prelude.{◌≡◌, ℕ, List, [], ◌∷◌, Option, Some, None}
use Rattle.tenant_quota.specs.Reserves.{ReserveOf}
use Rattle.sched_rules.specs.declared.job.Job.{Job}
use Rattle.sched_rules.specs.declared.job.Job.TheVariants.{Live, Done as DoneJob, Spent as SpentJob, Cancelled as CancelledJob}
use Rattle.sched_rules.specs.Cores.{CoreState}
use Rattle.sched_rules.specs.Views.{job_of, left_in_core}
use Rattle.solve_engine.specs.Asked.{HasAsked, HasRun, HasReserved}
use Rattle.solve_engine.specs.declared.found.Way.{Way}
use Rattle.solve_engine.specs.declared.found.Way.TheVariants.{Done, Spent, Stopped}
use Rattle.solve_engine.specs.declared.found.Searched.{Searched}

-- how the answer was found, by what became of the job; not true where there is no job
abbrev pub IsWayOf : Option Job → Way → Type 0
IsWayOf None way = ⊥
IsWayOf (Some (Live root)) way = way ≡ Stopped
IsWayOf (Some (DoneJob words)) way = way ≡ Done
IsWayOf (Some SpentJob) way = way ≡ Spent
IsWayOf (Some CancelledJob) way = way ≡ Stopped

-- what was found says how job 1 of tenant 1 ended, and what that tenant has left
pub record IsFoundIn (shared : CoreState) (found : Searched) : Type 0 where
  pub way : IsWayOf (job_of shared 1 1) found.way
  pub left : left_in_core shared 1 ≡ Some found.left

-- what was found is what a core came to from new: it has this grain and these totals, which tenant 1 reserves,
-- and one job, which was submitted with these words
pub record IsFoundBy (grain : ℕ) (totals : ReserveOf) (words : List ℕ) (found : Searched) : Type 0 where
  pub shared : CoreState
  pub run : HasRun grain totals shared
  pub reserved : HasReserved totals shared
  pub asked : HasAsked (words ∷ []) shared
  pub found_in : IsFoundIn shared found
