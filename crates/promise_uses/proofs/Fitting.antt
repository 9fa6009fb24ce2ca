-- For the uses of the laws on what each run keeps: a core that fits after each step of a list fits after its first two; and the
-- job of a number holds what the Submit of that number asked.
use Rattle.promise_uses.proofs.Common.{◌≡◌, ℕ, List, [], ◌∷◌, Some, Result, arith, Refusal, DidOf, StepOf, CoreState, job_at, origin_at}
use Rattle.sched_rules.specs.declared.job.Job.{Job}
use Rattle.sched_rules.specs.Functions.{Functions}
use Rattle.sched_rules.specs.Trees.{Tree}
use Rattle.sched_rules.specs.Laws.{Fitting, Rooting}
use Rattle.sched_laws.specs.Fitted.{CoreFits, JobFits, JobsFit, StaysFitting}

pub fits-now : {I A : Type 0} (functions : Functions I A) (fits : Fitting) (rooted : Rooting) (begun : (ℕ → List (List ℕ)) × CoreState) (steps : List (StepOf A)) (answers : List (Result (DidOf I) Refusal)) →
    StaysFitting functions fits rooted begun steps answers → CoreFits fits rooted begun.0 begun.1
fits-now functions fits rooted begun [] answers stays = stays
fits-now functions fits rooted begun (step ∷ steps) [] stays = stays
fits-now functions fits rooted begun (step ∷ steps) (answer ∷ answers) stays = stays.0

pub job-fits : (fits : Fitting) (rooted : Rooting) (tree : Tree) (origins : List (List ℕ)) (jobs : List Job) (number : ℕ) (job : Job) → JobsFit fits rooted tree origins jobs → job_at jobs number ≡ Some job →
    (origin : List ℕ) × (origin_at origins number ≡ Some origin) × JobFits fits rooted tree origin job
job-fits fits rooted tree origins [] number job fit at = absurd cc
job-fits fits rooted tree [] (first ∷ jobs) number job fit at = absurd fit
job-fits fits rooted tree (origin ∷ origins) (first ∷ jobs) number job fit at = grind (arith, job-fits fits rooted tree origins jobs)
