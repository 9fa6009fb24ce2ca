-- Representation: small states of a core and procedures, on which the refusals are tried, one by one and in their
-- order.
use Rattle.std.specs.Prelude.{ℕ, ◌==◌, Bool, false, List, [], ◌∷◌, Option, Some, Result, replicate}
use Rattle.frame_table.specs.declared.names.State.{State}
use Rattle.frame_table.specs.declared.names.State.TheVariants.{Ready, Running, Waiting, Returned}
use Rattle.frame_table.specs.Frames.{Frame}
use Rattle.sched_rules.specs.declared.act.Act.{Act}
use Rattle.sched_rules.specs.declared.act.InletAct.{InletAct}
use Rattle.sched_rules.specs.declared.act.Continuation.{Continuation}
use Rattle.sched_rules.specs.declared.act.Continuation.TheVariants.{Go}
use Rattle.sched_rules.specs.declared.job.Job.{Job}
use Rattle.sched_rules.specs.declared.job.Job.TheVariants.{Live, Spent, Cancelled}
use Rattle.sched_rules.specs.declared.refusal.Refusal.{Refusal}
use Rattle.sched_rules.specs.declared.step.StepOf.{StepOf}
use Rattle.sched_rules.specs.Functions.{Functions}
use Rattle.sched_rules.specs.Trees.{Tenant, Tree, admitted_with}
use Rattle.sched_rules.specs.Lone.{Outcome, lone, lone_refusal}
use Rattle.toys.specs.Toys.{word_at}
use Rattle.sched_rules.specs.Cores.{CoreState, shared_refusal}
use Rattle.toys.specs.FanRows.{frame, one_job, toy_quota}

-- a procedure with this act and this inlet at any words, and these stores of any answer, which is itself its input
abbrev pub always : Act → InletAct → List (ℕ × ℕ) → Functions ℕ ℕ
always act inlet stores =
    record { next = λ sight. act; inlet = λ own child_frame. inlet; input = λ own. word_at own 0; asked = λ answer. answer; accept = λ own answer. stores; same = λ one other. one == other }

-- an act: these stores, and what is done after them
abbrev pub act : List (ℕ × ℕ) → Continuation → Act
act stores after = record { stores = stores; after = after }

-- an inlet with these stores, and whether it aborts and whether it wakes the parent
abbrev pub inlet : List (ℕ × ℕ) → Bool → Bool → InletAct
inlet stores abort wake = record { stores = stores; abort = abort; wake = wake }

-- a procedure whose frames go on for ever, and whose inlets and answers do nothing
abbrev pub idle : Functions ℕ ℕ
idle = always (act [] Go) (inlet [] false false) []

-- a procedure of which every frame's next act is this one; its inlets and answers store nothing
abbrev pub acting : List (ℕ × ℕ) → Continuation → Functions ℕ ℕ
acting stores after = always (act stores after) (inlet [] false false) []

-- a procedure whose inlets and answers store at place 4, which a frame of 4 words hasn't
abbrev pub storing_outside : Functions ℕ ℕ
storing_outside = always (act [] Go) (inlet ((4, 1) ∷ []) false false) ((4, 1) ∷ [])

-- a tenant with 4 segments and 4 nodes, of which 3 were opened, and one job, after so many steps
abbrev pub tenant_with : ℕ → Tree → Tenant
tenant_with steps frames = one_job (toy_quota 4 4) 3 steps frames

-- a tenant with these frames that has taken none of its 64 steps
abbrev pub fresh_tenant : Tree → Tenant
fresh_tenant frames = tenant_with 0 frames

-- a tenant with these frames that has taken all its 64 steps
abbrev pub tired : Tree → Tenant
tired frames = tenant_with 64 frames

-- a tenant that has opened all its 4 nodes
abbrev pub nodeless : Tree → Tenant
nodeless frames = one_job (toy_quota 4 4) 4 0 frames

-- a tenant that reserved so many segments and 4 nodes, with one job and the frames that are given
abbrev pub wide : ℕ → Tree → Tenant
wide segments frames = one_job (toy_quota segments 4) 3 0 frames

-- a tenant with so many jobs, all cancelled, that has opened so many of 4 nodes
abbrev pub tenant_of_jobs : ℕ → ℕ → Tenant
tenant_of_jobs jobs serials = record { reserve = toy_quota 4 4; serials = serials; steps = 0; jobs = replicate jobs Cancelled; frames = [] }

-- a root of 4 words with serial 1
abbrev pub root_frame : State → Frame (List ℕ)
root_frame state = frame 1 (1 ∷ []) state (0 ∷ 0 ∷ 0 ∷ 0 ∷ [])

-- a child of that root with this serial, of 4 words
abbrev pub child_frame : ℕ → State → Frame (List ℕ)
child_frame serial state = frame serial (1 ∷ serial ∷ []) state (7 ∷ 0 ∷ 0 ∷ 0 ∷ [])

-- why a step of a tenant in this state is refused; none where it is taken
abbrev pub refusal : Functions ℕ ℕ → Tenant → StepOf ℕ → Option Refusal
refusal functions tenant step = lone_refusal functions (Some tenant) step

-- a core of 8 segments and 32 nodes with these tenants, the greatest number so far being 7
abbrev pub core_of : List (ℕ × Tenant) → CoreState
core_of tenants = record { totals = toy_quota 8 32; newest = 7; tenants = tenants }

-- why a step on a core with these tenants is refused; none where it is taken
abbrev pub among : List (ℕ × Tenant) → StepOf ℕ → Option Refusal
among tenants step = shared_refusal idle (core_of tenants) step

-- two tenants, one with these frames, and a second whose root worker 5 runs
abbrev pub beside : Tree → List (ℕ × Tenant)
beside frames = (1, fresh_tenant frames) ∷ (2, fresh_tenant (root_frame (Running 5) ∷ [])) ∷ []

-- a list of so many tenants, all under number 7, each with 1 segment and 1 node
abbrev pub crowd : ℕ → List (ℕ × Tenant)
crowd count = replicate count (7, admitted_with (toy_quota 1 1))

-- a core of 128 segments and 128 nodes with these tenants
abbrev pub roomy : List (ℕ × Tenant) → CoreState
roomy tenants = record { totals = toy_quota 128 128; newest = 7; tenants = tenants }

-- a procedure whose every inlet has these stores and aborts or wakes as said; its frames go on without a store
abbrev pub taking_in : List (ℕ × ℕ) → Bool → Bool → Functions ℕ ℕ
taking_in stores abort wake = always (act [] Go) (inlet stores abort wake) []

-- what a step of a tenant in this state gives: the tenant after it and what it did, or a refusal
abbrev pub outcome : Functions ℕ ℕ → Tenant → StepOf ℕ → Result (Outcome ℕ) Refusal
outcome functions tenant step = lone functions (Some tenant) step

-- a frame without words, of this serial, path and state
abbrev pub bare : ℕ → List ℕ → State → Frame (List ℕ)
bare serial path state = frame serial path state []

-- the frames of two jobs, under roots 1 and 3: four generations below root 1, of which frame 2 is in this state
abbrev pub family : State → Tree
family state =
    bare 1 (1 ∷ []) Waiting
    ∷ bare 2 (1 ∷ 2 ∷ []) state
    ∷ bare 3 (3 ∷ []) Waiting
    ∷ bare 4 (1 ∷ 2 ∷ 4 ∷ []) Returned
    ∷ bare 5 (1 ∷ 2 ∷ 5 ∷ []) (Running 2)
    ∷ bare 6 (1 ∷ 2 ∷ 5 ∷ 6 ∷ []) (Ready 2)
    ∷ bare 7 (1 ∷ 2 ∷ 5 ∷ 6 ∷ 7 ∷ []) Waiting
    ∷ bare 8 (1 ∷ 8 ∷ []) (Ready 0)
    ∷ bare 9 (3 ∷ 9 ∷ []) (Ready 0)
    ∷ []

-- a tenant of 16 segments and 16 nodes that was given 9 serials, after so many steps, with these jobs and frames
abbrev pub housed : ℕ → List Job → Tree → Tenant
housed steps jobs frames = record { reserve = toy_quota 16 16; serials = 9; steps = steps; jobs = jobs; frames = frames }

-- a tenant's two live jobs, under roots 1 and 3
abbrev pub two_jobs : List Job
two_jobs = Live 1 ∷ Live 3 ∷ []

-- a tenant of this reservation that has taken 256 steps, with a job that is spent and one that lives
abbrev pub resting : ℕ → ℕ → Tenant
resting segments nodes =
    record { reserve = toy_quota segments nodes; serials = 9; steps = 256; jobs = Spent ∷ Live 3 ∷ []; frames = frame 3 (3 ∷ []) (Ready 1) (5 ∷ []) ∷ [] }
