-- Representation: small states in which it is tried whether a worker can go on.
use Rattle.std.specs.Prelude.{ℕ, ◌+◌, List, [], ◌∷◌, ◌++◌, map, Option, Some}
use Rattle.frame_table.specs.declared.names.State.TheVariants.{Ready, Running}
use Rattle.sched_rules.specs.declared.job.Job.{Job}
use Rattle.sched_rules.specs.declared.job.Job.TheVariants.{Live}
use Rattle.sched_rules.specs.declared.refusal.Refusal.{Refusal}
use Rattle.sched_rules.specs.declared.step.StepOf.{StepOf}
use Rattle.sched_rules.specs.Trees.{Tenant, Tree}
use Rattle.sched_rules.specs.Lone.{lone_refusal}
use Rattle.toys.specs.FanRows.{frame, one, toy_quota}
use Rattle.toys.specs.SmallStates.{idle}

-- the numbers of the 32 workers
abbrev pub workers : List ℕ
workers = 1 ∷ 2 ∷ 3 ∷ 4 ∷ 5 ∷ 6 ∷ 7 ∷ 8 ∷ 9 ∷ 10 ∷ 11 ∷ 12 ∷ 13 ∷ 14 ∷ 15 ∷ 16 ∷ 17 ∷ 18 ∷ 19 ∷ 20 ∷ 21 ∷ 22 ∷ 23 ∷ 24 ∷ 25 ∷ 26 ∷ 27 ∷ 28 ∷ 29 ∷ 30 ∷ 31 ∷ 32 ∷ []

-- a tenant with 33 jobs, each with its root alone: worker k runs root k, and the 33rd is ready in the hall
abbrev pub thirty_three : Tenant
thirty_three = record {
  reserve = toy_quota 64 64;
  serials = 33;
  steps = 32;
  jobs = map (λ root. Live root) workers ++ Live 33 ∷ [];
  frames = map (λ worker. frame worker (worker ∷ []) (Running worker) (0 ∷ [])) workers ++ frame 33 (33 ∷ []) (Ready 0) (0 ∷ []) ∷ [];
}

-- why each of these steps, one for each worker, is refused to the tenant of 33 jobs
abbrev pub refusals : (ℕ → StepOf ℕ) → List (Option Refusal)
refusals step = map (λ worker. lone_refusal idle (Some thirty_three) (step worker)) workers
