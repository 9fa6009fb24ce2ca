-- Meaning: that no state is stuck: a frame waits only where it has a child, a worker can go on with each frame that
-- doesn't wait, and so with each job that lives.
use Rattle.std.specs.Prelude.{◌≡◌, ℕ, ◌≤◌, ◌⊎◌, Bool, true, false, ◌||◌, List, [], ◌∷◌, Some, None}
use Rattle.frame_table.specs.declared.names.State.{State}
use Rattle.frame_table.specs.declared.names.State.TheVariants.{Ready, Running, Computing, Waiting, Returned}
use Rattle.frame_table.specs.declared.names.FrameId.{FrameId}
use Rattle.frame_table.specs.Frames.{Frame, frame_at, root_of}
use Rattle.sched_rules.specs.declared.step.StepOf.{StepOf}
use Rattle.sched_rules.specs.declared.step.StepOf.TheVariants.{Admit, AdmitMore, Submit, Take, Steal, Advance, Answer, Inlet, Finish, Spend, Cancel, Leave}
use Rattle.sched_rules.specs.Functions.{Functions}
use Rattle.sched_rules.specs.Trees.{Tree, Tenant, is_outside, has_child, is_held_by, is_busy_in}
use Rattle.sched_rules.specs.Lone.{lone_refusal}
use Rattle.sched_rules.specs.Cores.{CoreState, tenant_in, shared_refusal}
use Rattle.sched_rules.specs.Views.{named}

-- a frame waits only for children: each frame of the tenant that waits has one
abbrev pub WaitsForChildren : Tenant → Type 0
WaitsForChildren tenant =
    (serial : ℕ) (frame : Frame (List ℕ)) → frame_at tenant.frames serial ≡ Some frame → frame.state ≡ Waiting → has_child tenant.frames serial ≡ true

-- each frame of a core's tenants that waits has a child
abbrev pub EachWaitsForChildren : CoreState → Type 0
EachWaitsForChildren shared = (number : ℕ) (tenant : Tenant) → tenant_in shared.tenants number ≡ Some tenant → WaitsForChildren tenant

-- no two tenants of a core have one number
abbrev pub AreNumbersApart : List (ℕ × Tenant) → Type 0
AreNumbersApart [] = Unit {0}
AreNumbersApart (entry ∷ entries) = (tenant_in entries entry.0 ≡ None) × AreNumbersApart entries

-- this is the frame of the greatest serial of the job with this root
pub record IsNewestOfJob (frames : Tree) (root : ℕ) (frame : Frame (List ℕ)) : Type 0 where
  pub there : frame_at frames frame.serial ≡ Some frame
  pub own : root_of frame.path ≡ root
  pub greatest : (serial : ℕ) (other : Frame (List ℕ)) → frame_at frames serial ≡ Some other → root_of other.path ≡ root → serial ≤ frame.serial

-- a step by which this worker goes on with this frame: it gets the frame, advances it, brings its answer, takes it in
-- or finishes it; or the frame's job is spent, which needs no worker
abbrev pub GoesOnWith : {A : Type 0} → ℕ → FrameId → StepOf A → Type 0
GoesOnWith worker name (Admit number quota) = ⊥
GoesOnWith worker name (AdmitMore number quota) = ⊥
GoesOnWith worker name (Submit number words size) = ⊥
GoesOnWith worker name (Take by frame) = (by ≡ worker) × (frame ≡ name)
GoesOnWith worker name (Steal by home frame) = (by ≡ worker) × (frame ≡ name)
GoesOnWith worker name (Advance by frame) = (by ≡ worker) × (frame ≡ name)
GoesOnWith worker name (Answer by frame answer) = (by ≡ worker) × (frame ≡ name)
GoesOnWith worker name (Inlet by frame) = (by ≡ worker) × (frame ≡ name)
GoesOnWith worker name (Finish by frame) = (by ≡ worker) × (frame ≡ name)
GoesOnWith worker name (Spend frame) = frame ≡ name
GoesOnWith worker name (Cancel number job) = ⊥
GoesOnWith worker name (Leave number) = ⊥

-- a worker can go on with a frame of a tenant that has the core to itself: a step by which it does is taken
abbrev pub CanGoOnAlone : {I A : Type 0} → Functions I A → Tenant → ℕ → FrameId → Type 0
CanGoOnAlone {A = A} functions tenant worker name =
    (step : StepOf A) × GoesOnWith worker name step × (lone_refusal functions (Some tenant) step ≡ None)

-- a worker can go on with a frame among several tenants: a step by which it does is taken
abbrev pub CanGoOn : {I A : Type 0} → Functions I A → CoreState → ℕ → FrameId → Type 0
CanGoOn {A = A} functions shared worker name = (step : StepOf A) × GoesOnWith worker name step × (shared_refusal functions shared step ≡ None)

-- there is an answer that a computing frame with these words can take: to its own input, and stored inside the frame
abbrev pub HasAnswer : {I A : Type 0} → Functions I A → List ℕ → Type 0
HasAnswer {A = A} functions words =
    (answer : A) × (functions.same (functions.asked answer) (functions.input words) ≡ true) × (is_outside (functions.accept words answer) words ≡ false)

-- where P worker says that this worker can go on with a frame in this state, somebody can: the worker that runs or
-- computes it (that, where there is an answer for its words); every worker that is free, where it is ready or has
-- returned. A frame that waits need not go on
abbrev pub SomebodyCan : {I A : Type 0} → Functions I A → List ℕ → (ℕ → Bool) → (ℕ → Type 0) → State → Type 0
SomebodyCan functions words is_busy P (Ready home) = (worker : ℕ) → is_busy worker ≡ false → P worker
SomebodyCan functions words is_busy P (Running worker) = P worker
SomebodyCan functions words is_busy P (Computing worker) = HasAnswer functions words → P worker
SomebodyCan functions words is_busy P Waiting = Unit {0}
SomebodyCan functions words is_busy P Returned = (worker : ℕ) → is_busy worker ≡ false → P worker

-- whether this worker runs or computes a frame of some tenant
abbrev pub is_busy_anywhere : ℕ → List (ℕ × Tenant) → Bool
is_busy_anywhere worker [] = false
is_busy_anywhere worker (entry ∷ entries) = is_busy_in worker entry.1.frames || is_busy_anywhere worker entries

-- each frame of a core that is computed has an answer that it can take
abbrev pub EachHasAnswer : {I A : Type 0} → Functions I A → CoreState → Type 0
EachHasAnswer functions shared =
    (name : FrameId) (frame : Frame (List ℕ)) (worker : ℕ) → named shared name ≡ Some frame → frame.state ≡ Computing worker → HasAnswer functions frame.value

-- a worker is one of the 32 and free, or it holds a frame in this state
abbrev pub IsFreeOrHolds : CoreState → ℕ → State → Type 0
IsFreeOrHolds shared worker state =
    ((1 ≤ worker) × (worker ≤ 32) × (is_busy_anywhere worker shared.tenants ≡ false)) ⊎ (is_held_by worker state ≡ true)

-- a worker that is free, or holds the frame, can go on with a frame of the tenant's job with this root
abbrev pub GoesOnInJob : {I A : Type 0} → Functions I A → CoreState → ℕ → ℕ → Type 0
GoesOnInJob functions shared number root =
    (worker serial : ℕ) × (frame : Frame (List ℕ)) × (named shared (record { tenant = number; serial = serial }) ≡ Some frame) × (root_of frame.path ≡ root)
    × IsFreeOrHolds shared worker frame.state × CanGoOn functions shared worker (record { tenant = number; serial = serial })

-- this worker holds a frame of some tenant, and can go on with it
abbrev pub GoesOnWithItsOwn : {I A : Type 0} → Functions I A → CoreState → ℕ → Type 0
GoesOnWithItsOwn functions shared worker =
    (name : FrameId) × (frame : Frame (List ℕ)) × (named shared name ≡ Some frame) × (is_held_by worker frame.state ≡ true) × CanGoOn functions shared worker name

-- a job isn't stuck: a worker can go on with a frame of it, or each of the 32 workers holds a frame and can go on with
-- that
abbrev pub IsNotStuck : {I A : Type 0} → Functions I A → CoreState → ℕ → ℕ → Type 0
IsNotStuck functions shared number root =
    GoesOnInJob functions shared number root ⊎ ((worker : ℕ) → 1 ≤ worker → worker ≤ 32 → GoesOnWithItsOwn functions shared worker)
