-- Meaning: one step of a tenant that has the core to itself: the refusals in their order, and else what the step does.
-- (Cilk 5.4 Reference Manual: spawn, sync, inlet, abort, work stealing.)
use Rattle.std.specs.Prelude.{ℕ, ◌+◌, Bool, true, false, not, ◌||◌, ◌&&◌, ◌==◌, nat_lt, nat_le, List, [], ◌∷◌, ◌++◌, Option, Some, None, Result, Ok, Err, if◌then◌else◌, length, replicate, IsTrue}
use Rattle.tenant_quota.specs.Reserves.{ReserveOf}
use Rattle.cactus_stack.specs.Nodes.{charge, growth_charge, padded}
use Rattle.frame_table.specs.declared.names.State.{State}
use Rattle.frame_table.specs.declared.names.State.TheVariants.{Ready, Running, Computing, Waiting, Returned}
use Rattle.frame_table.specs.declared.names.FrameId.{FrameId}
use Rattle.frame_table.specs.Frames.{Frame, frame_at, root_of, parent_of, aborted, frames_under, frames_without, with_state, is_ready, new_frame}
use Rattle.sched_rules.specs.declared.act.Act.{Act}
use Rattle.sched_rules.specs.declared.act.InletAct.{InletAct}
use Rattle.sched_rules.specs.declared.act.Continuation.{Continuation}
use Rattle.sched_rules.specs.declared.act.Continuation.TheVariants.{Grow, Spawn, Go, Wait, Compute, Return}
use Rattle.sched_rules.specs.declared.job.Job.{Job}
use Rattle.sched_rules.specs.declared.job.Job.TheVariants.{Live, Done, Spent as SpentJob, Cancelled as CancelledJob}
use Rattle.sched_rules.specs.declared.refusal.Refusal.{Refusal}
use Rattle.sched_rules.specs.declared.refusal.Refusal.TheVariants.{NoTenant, NoFrame, NotReady, NotHere, Busy, NotRunning, NotComputing, Mismatch, NotReturned, NoSegments, NoNodes, NoSteps, NoJobsLeft, BadAct, NotSpent, NoJob, OldTenant, Lower}
use Rattle.sched_rules.specs.declared.step.StepOf.{StepOf}
use Rattle.sched_rules.specs.declared.step.StepOf.TheVariants.{Admit, AdmitMore, Submit, Take, Steal, Advance, Answer, Inlet, Finish, Spend, Cancel, Leave}
use Rattle.sched_rules.specs.declared.step.DidOf.{DidOf}
use Rattle.sched_rules.specs.declared.step.DidOf.TheVariants.{Admitted, AdmittedMore, Submitted, Took, Went, Grew, Spawned, Waited, Computing as IsComputing, Returned as HasReturned, Answered, TakenIn, Finished, Spent, Cancelled, Left}
use Rattle.sched_rules.specs.Functions.{Functions}
use Rattle.sched_rules.specs.Trees.{Tree, Tenant, admitted_with, words_in, sight, left, with_frame_words, stored, is_outside, has_child, is_busy_in, is_root, without_job, job_at, job_under, with_ended, kept_words}

-- the refusal of the first test that applies, or else the effect
abbrev pub unless : {X : Type 0} → List (Bool × Refusal) → X → Result X Refusal
unless [] effect = Ok effect
unless (test ∷ tests) effect = if test.0 then Err test.1 else unless tests effect

-- whether one of these tests of a step, each with its refusal, says yes
abbrev pub applies : List (Bool × Refusal) → Bool
applies [] = false
applies (test ∷ tests) = test.0 || applies tests

-- what a taken step gives: the tenant after it (none after a Leave), and what the step did
abbrev pub Outcome : Type 0 → Type 0
Outcome I = Option Tenant × DidOf I

-- a test of a tenant's step, with its refusal: the tenant has no step left (NoSteps)
abbrev pub no_step : Tenant → Bool × Refusal
no_step tenant = ((left tenant).steps == 0, NoSteps)

-- a test of a tenant's step, with its refusal: the worker runs or computes a frame of this tenant (Busy)
abbrev pub not_free : Tenant → ℕ → Bool × Refusal
not_free tenant worker = (is_busy_in worker tenant.frames, Busy)

-- the tenant with one more of its steps counted
abbrev pub counted : Tenant → Tenant
counted tenant = record tenant { steps = tenant.steps + 1 }

-- the tenant, once the frame with this serial is put into this state
abbrev pub in_state : ℕ → State → Tenant → Tenant
in_state serial state tenant = record tenant { frames = with_state serial state tenant.frames }

-- the tenant, once the frame with this serial has these words
abbrev pub holding : ℕ → List ℕ → Tenant → Tenant
holding serial words tenant = record tenant { frames = with_frame_words serial words tenant.frames }

-- the tenant with a new frame under its next serial: Ready at its home, the words given first, then zeros
abbrev pub opened : Option ℕ → List ℕ → ℕ → ℕ → Tenant → Tenant
opened parent words size home tenant =
    record tenant { serials = tenant.serials + 1; frames = tenant.frames ++ new_frame tenant.frames (tenant.serials + 1) parent home (padded words size) ∷ [] }

-- the tenant, the job that lives under this root replaced by job (how it ended), and all its frames removed
abbrev pub ended : ℕ → Job → Tenant → Tenant
ended root job tenant = record tenant { jobs = with_ended root job tenant.jobs; frames = without_job root tenant.frames }

-- whether a frame of this size can be opened with these words: the size is 1 to 128, and no more words than the size
abbrev pub is_frame_size : List ℕ → ℕ → Bool
is_frame_size words size = nat_le 1 size && nat_le size 128 && nat_le (length words) size

-- whether the second reservation is no raise of the first: less in segments or nodes, or the same in both
abbrev pub is_lower : ReserveOf → ReserveOf → Bool
is_lower now quota =
    nat_lt quota.segments now.segments || nat_lt quota.nodes now.nodes || ((quota.segments == now.segments) && (quota.nodes == now.nodes))

-- AdmitMore: the tenant with this reservation in the place of its own
abbrev pub raised : {I : Type 0} → Tenant → ReserveOf → Outcome I
raised tenant quota = (Some (record tenant { reserve = quota }), AdmittedMore)

-- the tests of Submit: the root is no frame, it is the 257th job, no node is left, too few segments are left
abbrev pub submit_tests : Tenant → List ℕ → ℕ → List (Bool × Refusal)
submit_tests tenant words size =
    (not (is_frame_size words size), BadAct)
    ∷ (nat_le 256 (length tenant.jobs), NoJobsLeft)
    ∷ ((left tenant).nodes == 0, NoNodes)
    ∷ (nat_lt (left tenant).segments (charge size), NoSegments)
    ∷ []

-- Submit: the next serial opens a root, Ready in the hall; the next job lives under it
abbrev pub submitted : {I : Type 0} → Tenant → ℕ → List ℕ → ℕ → Outcome I
submitted tenant number words size =
    let root = tenant.serials + 1 in
    let after = opened None words size 0 tenant in
    (Some (record after { jobs = tenant.jobs ++ Live root ∷ [] }), Submitted (length tenant.jobs + 1) (record { tenant = number; serial = root }))

-- whether a frame in this state is ready at this home
abbrev pub is_ready_at : ℕ → State → Bool
is_ready_at home (Ready at) = at == home
is_ready_at home (Running worker) = false
is_ready_at home (Computing worker) = false
is_ready_at home Waiting = false
is_ready_at home Returned = false

-- the tests of Take: the frame isn't ready, its home isn't this worker, no step is left, the worker isn't free
abbrev pub take_tests : Tenant → ℕ → Frame (List ℕ) → List (Bool × Refusal)
take_tests tenant worker frame =
    (not (is_ready frame.state), NotReady)
    ∷ (not (is_ready_at worker frame.state), NotHere)
    ∷ no_step tenant
    ∷ not_free tenant worker
    ∷ []

-- the tests of Steal: the frame isn't ready, its home isn't from or from is the thief, no step, the thief isn't free
abbrev pub steal_tests : Tenant → ℕ → ℕ → Frame (List ℕ) → List (Bool × Refusal)
steal_tests tenant worker from frame =
    (not (is_ready frame.state), NotReady)
    ∷ (not (is_ready_at from frame.state) || (from == worker), NotHere)
    ∷ no_step tenant
    ∷ not_free tenant worker
    ∷ []

-- Take and Steal: the worker runs the frame
abbrev pub taken_by : {I : Type 0} → Tenant → ℕ → Frame (List ℕ) → Outcome I
taken_by tenant worker frame = (Some (counted (in_state frame.serial (Running worker) tenant)), Took)

-- whether this worker runs a frame in this state
abbrev pub is_run_by : ℕ → State → Bool
is_run_by worker (Running holder) = holder == worker
is_run_by worker _ = false

-- whether this worker computes a frame in this state
abbrev pub is_computed_by : ℕ → State → Bool
is_computed_by worker (Computing holder) = holder == worker
is_computed_by worker _ = false

-- whether some worker runs a frame in this state
abbrev pub is_run : State → Bool
is_run (Running holder) = true
is_run _ = false

-- whether a frame in this state has returned
abbrev pub is_returned : State → Bool
is_returned Returned = true
is_returned _ = false

-- the next act of a tenant's frame, by the procedure, from the words that it sees
abbrev pub act_by_sight : {I A : Type 0} → Functions I A → Tenant → Frame (List ℕ) → Act
act_by_sight functions tenant frame = functions.next (sight tenant.frames frame.path)

-- whether what comes after the stores can't be done, where the frame has so many words, and a child or none: a growth of no word
-- or beyond 128, a child that is no frame, a computation with a child
abbrev pub is_bad_then : ℕ → Bool → Continuation → Bool
is_bad_then words has_one (Grow more) = (more == 0) || nat_lt 128 (words + more)
is_bad_then words has_one (Spawn given size) = not (is_frame_size given size)
is_bad_then words has_one Go = false
is_bad_then words has_one Wait = false
is_bad_then words has_one Compute = has_one
is_bad_then words has_one Return = false

-- whether an act can't be done on these words, where the frame has a child or none: a store is outside, or what comes then can't be done
abbrev pub is_bad_act : List ℕ → Bool → Act → Bool
is_bad_act words has_one act = is_outside act.stores words || is_bad_then (length words) has_one act.after

-- whether an act opens a child of the frame
abbrev pub is_spawn : Continuation → Bool
is_spawn (Grow more) = false
is_spawn (Spawn given size) = true
is_spawn Go = false
is_spawn Wait = false
is_spawn Compute = false
is_spawn Return = false

-- how many more segments an act takes: to make the frame longer, or for a new child
abbrev pub segments_for : Frame (List ℕ) → Continuation → ℕ
segments_for frame (Grow more) = growth_charge (length frame.value) more
segments_for frame (Spawn given size) = charge size
segments_for frame Go = 0
segments_for frame Wait = 0
segments_for frame Compute = 0
segments_for frame Return = 0

-- the tests of an act: it can't be done on these words, no node is left for a child, too few segments are left
abbrev pub act_tests : Tenant → Frame (List ℕ) → Act → List (Bool × Refusal)
act_tests tenant frame act =
    (is_bad_act frame.value (has_child tenant.frames frame.serial) act, BadAct)
    ∷ (is_spawn act.after && ((left tenant).nodes == 0), NoNodes)
    ∷ (nat_lt (left tenant).segments (segments_for frame act.after), NoSegments)
    ∷ []

-- the tests of Advance: the worker doesn't run the frame, no step is left, and those of the act
abbrev pub advance_tests : Tenant → ℕ → Frame (List ℕ) → Act → List (Bool × Refusal)
advance_tests tenant worker frame act =
    (not (is_run_by worker frame.state), NotRunning)
    ∷ no_step tenant
    ∷ act_tests tenant frame act

-- the rest of an act after its stores, which left the frame like this
abbrev pub then_done : {I A : Type 0} → Functions I A → Tenant → ℕ → FrameId → Frame (List ℕ) → Continuation → Outcome I
then_done functions tenant worker name frame (Grow more) = (Some (holding name.serial (frame.value ++ replicate more 0) tenant), Grew)
then_done functions tenant worker name frame (Spawn given size) =
    (Some (opened (Some name.serial) given size worker tenant), Spawned (record name { serial = tenant.serials + 1 }))
then_done functions tenant worker name frame Go = (Some tenant, Went)
then_done functions tenant worker name frame Wait =
    if has_child tenant.frames name.serial then (Some (in_state name.serial Waiting tenant), Waited) else (Some tenant, Went)
then_done functions tenant worker name frame Compute = (Some (in_state name.serial (Computing worker) tenant), IsComputing (functions.input frame.value))
then_done functions tenant worker name frame Return =
    if has_child tenant.frames name.serial
    then (Some (in_state name.serial Waiting tenant), Waited)
    else (Some (in_state name.serial Returned tenant), HasReturned (is_root frame.path))

-- what an Advance does: the stores of the frame's act, and then the rest of the act
abbrev pub advanced : {I A : Type 0} → Functions I A → Tenant → ℕ → FrameId → Frame (List ℕ) → Act → Outcome I
advanced functions tenant worker name frame act =
    let words = stored act.stores frame.value in
    then_done functions (counted (holding frame.serial words tenant)) worker name (record frame { value = words }) act.after

-- the tests of Answer: the worker doesn't compute the frame, the answer is to another input, no step, a store outside
abbrev pub answer_tests : {I A : Type 0} → Functions I A → Tenant → ℕ → Frame (List ℕ) → A → List (Bool × Refusal)
answer_tests functions tenant worker frame answer =
    (not (is_computed_by worker frame.state), NotComputing)
    ∷ (not (functions.same (functions.asked answer) (functions.input frame.value)), Mismatch)
    ∷ no_step tenant
    ∷ (is_outside (functions.accept frame.value answer) frame.value, BadAct)
    ∷ []

-- Answer: the frame stores what the procedure makes of the answer, and the worker runs it
abbrev pub answered : {I A : Type 0} → Functions I A → Tenant → ℕ → Frame (List ℕ) → A → Outcome I
answered functions tenant worker frame answer =
    (Some (counted (in_state frame.serial (Running worker) (holding frame.serial (stored (functions.accept frame.value answer) frame.value) tenant))), Answered)

-- the tests of Inlet, of a frame under this parent: it hasn't returned, no step, a store outside, the worker isn't free
abbrev pub inlet_tests : Tenant → ℕ → Frame (List ℕ) → ℕ → InletAct → List (Bool × Refusal)
inlet_tests tenant worker frame parent act =
    (not (is_returned frame.state), NotReturned)
    ∷ no_step tenant
    ∷ (is_outside act.stores (words_in tenant.frames parent), BadAct)
    ∷ not_free tenant worker
    ∷ []

-- whether a frame in this state waits for its children
abbrev pub is_waiting : State → Bool
is_waiting (Ready home) = false
is_waiting (Running holder) = false
is_waiting (Computing holder) = false
is_waiting Waiting = true
is_waiting Returned = false

-- whether there is a frame, and it waits for its children
abbrev pub does_wait : Option (Frame (List ℕ)) → Bool
does_wait None = false
does_wait (Some frame) = is_waiting frame.state

-- the frames that stay after an inlet: all but the one taken in, and at an abort all but those below the parent
abbrev pub staying : Tree → ℕ → ℕ → Bool → Tree
staying frames child parent abort = if abort then aborted parent frames else frames_without child frames

-- how many frames an inlet removes beside the one taken in: where it aborts, all others below the parent, else 0
abbrev pub aborted_beside : Tree → ℕ → ℕ → Bool → ℕ
aborted_beside frames child parent abort = if abort then length (frames_under parent (frames_without child frames)) else 0

-- Inlet: the stores on the parent, the frame removed, at an abort all others below the parent too; then a parent that waits is
-- woken where the inlet says abort or wake or no child is left
abbrev pub taken_in : {I : Type 0} → Tenant → ℕ → FrameId → ℕ → InletAct → Outcome I
taken_in tenant worker name parent act =
    let frames = staying tenant.frames name.serial parent act.abort in
    let is_woken = does_wait (frame_at frames parent) && (act.abort || act.wake || not (has_child frames parent)) in
    let after = counted (holding parent (stored act.stores (words_in frames parent)) (record tenant { frames = frames })) in
    let gone = aborted_beside tenant.frames name.serial parent act.abort in
    if is_woken
    then (Some (in_state parent (Ready worker) after), TakenIn (Some (record name { serial = parent })) gone)
    else (Some after, TakenIn None gone)

-- Inlet of a frame with this parent; a root has none, and is refused by NotReturned
abbrev pub inlet_under : {I A : Type 0} → Functions I A → Tenant → ℕ → FrameId → Frame (List ℕ) → Option ℕ → Result (Outcome I) Refusal
inlet_under functions tenant worker name frame None = Err NotReturned
inlet_under functions tenant worker name frame (Some parent) =
    let act = functions.inlet (words_in tenant.frames parent) frame.value in
    unless (inlet_tests tenant worker frame parent act) (taken_in tenant worker name parent act)

-- the tests of Finish: the frame hasn't returned or is no root, no step is left, the worker isn't free
abbrev pub finish_tests : Tenant → ℕ → Frame (List ℕ) → List (Bool × Refusal)
finish_tests tenant worker frame =
    (not (is_returned frame.state) || not (is_root frame.path), NotReturned)
    ∷ no_step tenant
    ∷ not_free tenant worker
    ∷ []

-- Finish: the job is done and keeps the root's first words, and all its frames are removed
abbrev pub finished : {I : Type 0} → Tenant → Frame (List ℕ) → Outcome I
finished tenant frame =
    (Some (counted (ended frame.serial (Done (kept_words frame.value)) tenant)), Finished (job_under frame.serial tenant.jobs))

-- whether the inlet of a frame under this parent stores beyond the parent's words; false for a root
abbrev pub is_bad_inlet : {I A : Type 0} → Functions I A → Tenant → Frame (List ℕ) → Option ℕ → Bool
is_bad_inlet functions tenant frame None = false
is_bad_inlet functions tenant frame (Some parent) =
    let act = functions.inlet (words_in tenant.frames parent) frame.value in is_outside act.stores (words_in tenant.frames parent)

-- whether a frame's job may be given up: no step is left; or the frame runs and its next act can't be done, or needs a node or
-- segments that aren't left; or it has returned, isn't a root, and its inlet stores outside
abbrev pub is_spendable : {I A : Type 0} → Functions I A → Tenant → Frame (List ℕ) → Bool
is_spendable functions tenant frame =
    ((left tenant).steps == 0)
    || (is_run frame.state && applies (act_tests tenant frame (act_by_sight functions tenant frame)))
    || (is_returned frame.state && is_bad_inlet functions tenant frame (parent_of frame.path))

-- a frame's job may be given up: the test `is_spendable` says yes
abbrev pub IsSpendable : {I A : Type 0} → Functions I A → Tenant → Frame (List ℕ) → Type 0
IsSpendable functions tenant frame = IsTrue (is_spendable functions tenant frame)

-- Spend: the frame's job is given up, and all its frames are removed
abbrev pub spent : {I : Type 0} → Tenant → Frame (List ℕ) → Outcome I
spent tenant frame = let root = root_of frame.path in (Some (ended root SpentJob tenant), Spent (job_under root tenant.jobs))

-- Cancel: a job that lives is cancelled, and all its frames are removed; else NoJob
abbrev pub cancelled : {I : Type 0} → Tenant → Option Job → Result (Outcome I) Refusal
cancelled tenant None = Err NoJob
cancelled tenant (Some (Live root)) = Ok (Some (ended root CancelledJob tenant), Cancelled)
cancelled tenant (Some (Done words)) = Err NoJob
cancelled tenant (Some SpentJob) = Err NoJob
cancelled tenant (Some CancelledJob) = Err NoJob

-- what a step comes to that names a frame of the tenant: NoFrame where the frame isn't there, else what `step` gives
-- for it
abbrev pub at_frame : {X : Type 0} → Option (Frame (List ℕ)) → (Frame (List ℕ) → Result X Refusal) → Result X Refusal
at_frame None step = Err NoFrame
at_frame (Some frame) step = step frame

-- the result of a step of a tenant that is there and has the core to itself
abbrev pub lone_step : {I A : Type 0} → Functions I A → Tenant → StepOf A → Result (Outcome I) Refusal
lone_step functions tenant (Admit number quota) = Err OldTenant
lone_step functions tenant (AdmitMore number quota) = unless ((is_lower tenant.reserve quota, Lower) ∷ []) (raised tenant quota)
lone_step functions tenant (Submit number words size) = unless (submit_tests tenant words size) (submitted tenant number words size)
lone_step functions tenant (Take worker name) =
    at_frame (frame_at tenant.frames name.serial) (λ frame. unless (take_tests tenant worker frame) (taken_by tenant worker frame))
lone_step functions tenant (Steal worker from name) =
    at_frame (frame_at tenant.frames name.serial) (λ frame. unless (steal_tests tenant worker from frame) (taken_by tenant worker frame))
lone_step functions tenant (Advance worker name) =
    at_frame (frame_at tenant.frames name.serial) (λ frame.
    unless (advance_tests tenant worker frame (act_by_sight functions tenant frame)) (advanced functions tenant worker name frame (act_by_sight functions tenant frame)))
lone_step functions tenant (Answer worker name answer) =
    at_frame (frame_at tenant.frames name.serial) (λ frame.
    unless (answer_tests functions tenant worker frame answer) (answered functions tenant worker frame answer))
lone_step functions tenant (Inlet worker name) =
    at_frame (frame_at tenant.frames name.serial) (λ frame. inlet_under functions tenant worker name frame (parent_of frame.path))
lone_step functions tenant (Finish worker name) =
    at_frame (frame_at tenant.frames name.serial) (λ frame. unless (finish_tests tenant worker frame) (finished tenant frame))
lone_step functions tenant (Spend name) =
    at_frame (frame_at tenant.frames name.serial) (λ frame. unless ((not (is_spendable functions tenant frame), NotSpent) ∷ []) (spent tenant frame))
lone_step functions tenant (Cancel number job) = cancelled tenant (job_at tenant.jobs job)
lone_step functions tenant (Leave number) = Ok (None, Left)

-- the result of a step of a tenant that isn't there: Admit is taken, and every other step is refused by NoTenant
abbrev pub first_step : {I A : Type 0} → StepOf A → Result (Outcome I) Refusal
first_step (Admit number quota) = Ok (Some (admitted_with quota), Admitted)
first_step _ = Err NoTenant

-- the result of a step of a tenant that has the core to itself (None: it isn't there): the tenant after the step and
-- what the step did, or a refusal
abbrev pub lone : {I A : Type 0} → Functions I A → Option Tenant → StepOf A → Result (Outcome I) Refusal
lone functions None step = first_step step
lone functions (Some tenant) step = lone_step functions tenant step

-- the refusal in a result; none where it is Ok
abbrev pub refusal_in : {X : Type 0} → Result X Refusal → Option Refusal
refusal_in (Ok value) = None
refusal_in (Err refusal) = Some refusal

-- why a step of a tenant that has the core to itself is refused; none where it is taken
abbrev pub lone_refusal : {I A : Type 0} → Functions I A → Option Tenant → StepOf A → Option Refusal
lone_refusal functions tenant step = refusal_in (lone functions tenant step)
