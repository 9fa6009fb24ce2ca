-- Representation: worked examples of the toy procedure Fan, as lists of a core's steps.
use Rattle.std.specs.Prelude.{ℕ, List, [], ◌∷◌, ◌++◌, Result, Ok, Err}
use Rattle.tenant_quota.specs.Reserves.{ReserveOf}
use Rattle.tenant_quota.specs.declared.account.Left.{Left}
use Rattle.frame_table.specs.declared.names.FrameId.{FrameId}
use Rattle.frame_table.specs.declared.names.State.{State}
use Rattle.frame_table.specs.Frames.{Frame}
use Rattle.toys.specs.declared.fan.FanAnswer.{FanAnswer}
use Rattle.sched_rules.specs.declared.job.Job.TheVariants.{Live}
use Rattle.sched_rules.specs.declared.step.StepOf.{StepOf}
use Rattle.sched_rules.specs.declared.step.StepOf.TheVariants.{Admit, AdmitMore, Submit, Take, Steal, Advance, Answer, Inlet, Leave}
use Rattle.sched_rules.specs.declared.step.DidOf.{DidOf}
use Rattle.sched_rules.specs.declared.step.DidOf.TheVariants.{Admitted, Left as IsGone}
use Rattle.sched_rules.specs.declared.refusal.Refusal.{Refusal}
use Rattle.sched_rules.specs.declared.refusal.Refusal.TheVariants.{NoFrame}
use Rattle.toys.specs.Toys.{fan}
use Rattle.sched_rules.specs.Trees.{Tenant, Tree}
use Rattle.sched_rules.specs.Cores.{CoreState, shared_by_nobody, shared_run}

-- the name of tenant 1's frame with this serial
abbrev pub one : ℕ → FrameId
one serial = record { tenant = 1; serial = serial }

-- the name of tenant 2's frame with this serial
abbrev pub two : ℕ → FrameId
two serial = record { tenant = 2; serial = serial }

-- a reservation of so many segments and nodes
abbrev pub toy_quota : ℕ → ℕ → ReserveOf
toy_quota segments nodes = record { segments = segments; nodes = nodes }

-- what a tenant has left: so many segments, nodes and steps
abbrev pub some_left : ℕ → ℕ → ℕ → Left
some_left segments nodes steps = record { segments = segments; nodes = nodes; steps = steps }

-- a frame of a worked example, with this serial, path, state and words
abbrev pub frame : ℕ → List ℕ → State → List ℕ → Frame (List ℕ)
frame serial path state words = record { serial = serial; path = path; state = state; value = words }

-- a tenant with one job, which lives under frame 1: what it reserves, the last serial that it was given, its steps and
-- its frames
abbrev pub one_job : ReserveOf → ℕ → ℕ → Tree → Tenant
one_job reserve serials steps frames = record { reserve = reserve; serials = serials; steps = steps; jobs = Live 1 ∷ []; frames = frames }

-- an answer that was computed from this input
abbrev pub answer : ℕ → ℕ → FanAnswer
answer asked value = record { asked = asked; value = value }

-- tenant 1 submits a job, whose root opens frames 2, 3 and 4 and waits
abbrev pub fan_opens : List (StepOf FanAnswer)
fan_opens =
    Submit 1 (0 ∷ 0 ∷ []) 4 ∷ Steal 1 0 (one 1) ∷ Advance 1 (one 1) ∷ Advance 1 (one 1) ∷ Advance 1 (one 1) ∷ Advance 1 (one 1) ∷ []

-- frame 2 is computed by worker 2, and frame 3 opens frame 5
abbrev pub fan_opens_five : List (StepOf FanAnswer)
fan_opens_five =
    Steal 2 1 (one 2)
    ∷ Advance 2 (one 2)
    ∷ Steal 3 1 (one 3)
    ∷ Advance 3 (one 3)
    ∷ []

-- frame 4 is computed by worker 1; the answer to frame 2 comes, and frame 2 returns
abbrev pub fan_answers : List (StepOf FanAnswer)
fan_answers =
    Take 1 (one 4)
    ∷ Advance 1 (one 4)
    ∷ Answer 2 (one 2) (answer 1 7)
    ∷ Advance 2 (one 2)
    ∷ []

-- tenant 1 is admitted with so many segments and nodes
abbrev pub one_with : ℕ → ℕ → List (StepOf FanAnswer)
one_with segments nodes = Admit 1 (toy_quota segments nodes) ∷ []

-- one_with, fan_opens, fan_opens_five and fan_answers, and then frame 2 is taken in
abbrev pub fan_steps : List (StepOf FanAnswer)
fan_steps = one_with 8 8 ++ fan_opens ++ fan_opens_five ++ fan_answers ++ Inlet 2 (one 2) ∷ []

-- fan_steps without the last step, the inlet of frame 2
abbrev pub fan_steps_before_inlet : List (StepOf FanAnswer)
fan_steps_before_inlet = one_with 8 8 ++ fan_opens ++ fan_opens_five ++ fan_answers

-- what tenant 2 does between steps of tenant 1: it is admitted, submits a job, and worker 4 advances its root once
abbrev pub steps_between : List (StepOf FanAnswer)
steps_between = Admit 2 (toy_quota 8 8) ∷ Submit 2 (0 ∷ 0 ∷ []) 4 ∷ Steal 4 0 (two 1) ∷ Advance 4 (two 1) ∷ []

-- fan_steps, with tenant 2's steps put in after the root of tenant 1 waits
abbrev pub mixed_steps : List (StepOf FanAnswer)
mixed_steps = one_with 8 8 ++ fan_opens ++ steps_between ++ fan_opens_five ++ fan_answers ++ Inlet 2 (one 2) ∷ []

-- tenant 1 with 3 segments: its root opens two children
abbrev pub narrow_opens : List (StepOf FanAnswer)
narrow_opens = one_with 3 8 ++ Submit 1 (0 ∷ 0 ∷ []) 4 ∷ Steal 1 0 (one 1) ∷ Advance 1 (one 1) ∷ Advance 1 (one 1) ∷ []

-- narrow_opens, and then frame 2 is computed, returns, and is taken in
abbrev pub narrow_returns : List (StepOf FanAnswer)
narrow_returns =
    narrow_opens ++ Steal 2 1 (one 2) ∷ Advance 2 (one 2) ∷ Answer 2 (one 2) (answer 1 7) ∷ Advance 2 (one 2) ∷ Inlet 2 (one 2) ∷ []

-- a new core of 32 segments and 32 nodes after fan_steps_before_inlet
abbrev pub before_inlet : CoreState
before_inlet = shared_run fan (shared_by_nobody (toy_quota 32 32)) fan_steps_before_inlet

-- a core of 16 segments and 32 nodes with two tenants, the first of which has used all its segments
abbrev pub used_up : CoreState
used_up = shared_run fan (shared_by_nobody (toy_quota 16 32)) (Admit 1 (toy_quota 5 8) ∷ Admit 2 (toy_quota 3 8) ∷ fan_opens ++ fan_opens_five)

-- used_up once tenant 1 has raised its reservation to this
abbrev pub used_up_with : ℕ → ℕ → CoreState
used_up_with segments nodes = shared_run fan used_up (AdmitMore 1 (toy_quota segments nodes) ∷ [])

-- steps of two tenants, one of which is refused
abbrev pub some_steps : List (StepOf FanAnswer)
some_steps = Admit 1 (toy_quota 1 1) ∷ Admit 2 (toy_quota 1 1) ∷ Take 1 (one 9) ∷ Leave 2 ∷ []

-- the answers of a new core to the list `some_steps`
abbrev pub some_answers : List (Result (DidOf ℕ) Refusal)
some_answers = Ok Admitted ∷ Ok Admitted ∷ Err NoFrame ∷ Ok IsGone ∷ []
