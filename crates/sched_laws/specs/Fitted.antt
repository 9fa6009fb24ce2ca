-- Meaning: what a run of a core keeps of a procedure's frames: that every frame fits (is right by the procedure's
-- invariant), and that each job holds what it was asked.
use Rattle.std.specs.Prelude.{◌≡◌, ℕ, ◌<◌, true, ◌&&◌, ◌==◌, List, [], ◌∷◌, ◌++◌, Some, Result, if◌then◌else◌, is_ok}
use Rattle.sched_rules.specs.cactus_stack.Nodes.{padded}
use Rattle.sched_rules.specs.declared.job.Job.{Job}
use Rattle.sched_rules.specs.declared.job.Job.TheVariants.{Live, Done, Spent as SpentJob, Cancelled as CancelledJob}
use Rattle.sched_rules.specs.declared.refusal.Refusal.{Refusal}
use Rattle.sched_rules.specs.declared.step.StepOf.{StepOf}
use Rattle.sched_rules.specs.declared.step.StepOf.TheVariants.{Submit}
use Rattle.sched_rules.specs.declared.step.DidOf.{DidOf}
use Rattle.sched_rules.specs.Functions.{Functions}
use Rattle.sched_rules.specs.Trees.{Tree, Tenant, kept_words, words_in}
use Rattle.sched_rules.specs.Laws.{Fitting, Rooting, Neither, HasReturned, EveryFrameFits}
use Rattle.sched_rules.specs.Runs.{tenant_of}
use Rattle.sched_rules.specs.Cores.{CoreState, tenant_in}
use Rattle.sched_rules.specs.Headline.{after_answer}

-- a job holds what it was asked: the root of a live one belongs to the words that it was submitted with, and a done one kept the
-- first words of a root that fitted, had returned, and belonged to them
abbrev pub JobFits : Fitting → Rooting → Tree → List ℕ → Job → Type 0
JobFits fits rooted tree origin (Live root) = rooted origin (words_in tree root)
JobFits fits rooted tree origin (Done words) = (all : List ℕ) × (kept_words all ≡ words) × fits all [] HasReturned × rooted origin all
JobFits fits rooted tree origin SpentJob = Unit {0}
JobFits fits rooted tree origin CancelledJob = Unit {0}

-- there are as many jobs as origins, and each job holds what its origin, at the same place, asked
abbrev pub JobsFit : Fitting → Rooting → Tree → List (List ℕ) → List Job → Type 0
JobsFit fits rooted tree [] [] = Unit {0}
JobsFit fits rooted tree [] (job ∷ jobs) = ⊥
JobsFit fits rooted tree (origin ∷ origins) [] = ⊥
JobsFit fits rooted tree (origin ∷ origins) (job ∷ jobs) = JobFits fits rooted tree origin job × JobsFit fits rooted tree origins jobs

-- a tenant fits: every frame does, and its jobs hold what these origins asked, in order
pub record TenantFits (fits : Fitting) (rooted : Rooting) (origins : List (List ℕ)) (tenant : Tenant) : Type 0 where
  pub frames : EveryFrameFits fits tenant.frames
  pub jobs : JobsFit fits rooted tenant.frames origins tenant.jobs

-- a core fits: each tenant does, with the origins of its number; a number above the greatest so far has none
pub record CoreFits (fits : Fitting) (rooted : Rooting) (origins : ℕ → List (List ℕ)) (shared : CoreState) : Type 0 where
  pub tenants : (number : ℕ) (tenant : Tenant) → tenant_in shared.tenants number ≡ Some tenant → TenantFits fits rooted (origins number) tenant
  pub unused : (number : ℕ) → shared.newest < number → origins number ≡ []

-- the words of a job's root that a step submits, if it is a Submit
abbrev pub submits : {A : Type 0} → StepOf A → List (List ℕ)
submits (Submit number words size) = words ∷ []
submits _ = []

-- the words of the Submits of a list, in order
abbrev pub origins_of : {A : Type 0} → List (StepOf A) → List (List ℕ)
origins_of [] = []
origins_of (step ∷ steps) = submits step ++ origins_of steps

-- the new root of a step, if it submits one, fits and belongs to the words of the step
abbrev pub RootFits : {A : Type 0} → Fitting → Rooting → StepOf A → Type 0
RootFits fits rooted (Submit number words size) = fits (padded words size) [] Neither × rooted words (padded words size)
RootFits fits rooted _ = Unit {0}

-- at each step of a list that submits a job, the new root fits and belongs to what was submitted (`RootFits`)
abbrev pub RootsFit : {A : Type 0} → Fitting → Rooting → List (StepOf A) → Type 0
RootsFit fits rooted [] = Unit {0}
RootsFit fits rooted (step ∷ steps) = RootFits fits rooted step × RootsFit fits rooted steps

-- the origins of each number after a step with this answer: a taken Submit's words are added to its tenant's
abbrev pub origins_after : {I A : Type 0} → (ℕ → List (List ℕ)) → StepOf A → Result (DidOf I) Refusal → ℕ → List (List ℕ)
origins_after origins step answer number = if is_ok answer && (tenant_of step == number) then origins number ++ submits step else origins number

-- the core, which begins with these origins and in this state, fits before and after each step of a list, up to the first taken one
-- whose new root doesn't
abbrev pub StaysFitting : {I A : Type 0} → Functions I A → Fitting → Rooting → (ℕ → List (List ℕ)) × CoreState → List (StepOf A) → List (Result (DidOf I) Refusal) → Type 0
StaysFitting functions fits rooted begun [] answers = CoreFits fits rooted begun.0 begun.1
StaysFitting functions fits rooted begun (step ∷ steps) [] = CoreFits fits rooted begun.0 begun.1
StaysFitting functions fits rooted begun (step ∷ steps) (answer ∷ answers) =
    CoreFits fits rooted begun.0 begun.1
    × ((is_ok answer ≡ true → RootFits fits rooted step) → StaysFitting functions fits rooted (origins_after begun.0 step answer, after_answer functions begun.1 step answer) steps answers)
