-- Representation: worked examples of the toy procedure Chain, as lists of a core's steps.
use Rattle.std.specs.Prelude.{ℕ, List, [], ◌∷◌}
use Rattle.sched_rules.specs.declared.job.Job.TheVariants.{Spent as SpentJob}
use Rattle.sched_rules.specs.declared.step.StepOf.{StepOf}
use Rattle.sched_rules.specs.declared.step.StepOf.TheVariants.{Admit, Submit, Take, Steal, Advance, Inlet, Finish}
use Rattle.sched_rules.specs.Trees.{Tenant}
use Rattle.toys.specs.FanRows.{one, toy_quota}

-- tenant 1 with this reservation, and one job of Chain with count 2, whose root opens frame 2, which worker 1 then runs
abbrev pub chain_begins : ℕ → ℕ → List (StepOf ℕ)
chain_begins segments nodes =
    Admit 1 (toy_quota segments nodes) ∷ Submit 1 (2 ∷ 0 ∷ []) 20 ∷ Steal 1 0 (one 1) ∷ Advance 1 (one 1) ∷ Advance 1 (one 1) ∷ Take 1 (one 2) ∷ []

-- tenant 1 after chain_begins, where frame 2 couldn't open its child and the job was given up
abbrev pub chain_spent : ℕ → ℕ → Tenant
chain_spent segments nodes = record { reserve = toy_quota segments nodes; serials = 2; steps = 4; jobs = SpentJob ∷ []; frames = [] }

-- the rest of the job, by one worker that always takes the newest ready frame
abbrev pub chain_ends : List (StepOf ℕ)
chain_ends =
    Advance 1 (one 2)
    ∷ Advance 1 (one 2)
    ∷ Take 1 (one 3)
    ∷ Advance 1 (one 3)
    ∷ Inlet 1 (one 3)
    ∷ Take 1 (one 2)
    ∷ Advance 1 (one 2)
    ∷ Inlet 1 (one 2)
    ∷ Take 1 (one 1)
    ∷ Advance 1 (one 1)
    ∷ Finish 1 (one 1)
    ∷ []
