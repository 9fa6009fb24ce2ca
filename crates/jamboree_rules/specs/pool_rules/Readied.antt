-- Meaning: which frames a worker's step makes ready, and that they are the worker's tasks.
use Rattle.std.specs.Prelude.{◌≡◌, ℕ, [], Option, Some, None, Ok, IfOk, ◌⊎◌}
use Rattle.frame_table.specs.Frames.{frame_at, IsReadyAt}
use Rattle.sched_rules.specs.declared.step.StepOf.{StepOf}
use Rattle.sched_rules.specs.Functions.{Functions}
use Rattle.sched_rules.specs.Trees.{Tree, Tenant}
use Rattle.sched_rules.specs.Lone.{lone}
use Rattle.sched_rules.specs.Runs.{tenant_of}
use Rattle.jamboree_rules.specs.declared.leaf.Leaf.{Leaf}
use Rattle.jamboree_rules.specs.declared.leaf.LeafAnswer.{LeafAnswer}
use Rattle.jamboree_rules.specs.declared.pool_rules.task.Task.{Task}
use Rattle.jamboree_rules.specs.declared.pool_rules.turn.Holding.{Holding}
use Rattle.jamboree_rules.specs.pool_rules.Turns.{turn_after}

-- the frames of a tenant; none where it isn't there
abbrev pub frames_of_tenant : Option Tenant → Tree
frames_of_tenant None = []
frames_of_tenant (Some tenant) = tenant.frames

-- each frame that is ready after a step was ready at the same home before it, or is the frame of this task
abbrev pub IsNoneForgotten : ℕ → Tree → Tree → Option Task → Type 0
IsNoneForgotten tenant before after task =
    (serial home : ℕ) → IsReadyAt (frame_at after serial) home →
    IsReadyAt (frame_at before serial) home ⊎ (task ≡ Some (record { frame = record { tenant = tenant; serial = serial }; home = home }))

-- a worker's step forgets no ready frame, where it is taken on a tenant that has the core to itself: each frame that
-- the step made ready is the task of the worker's turn after it
abbrev pub PushesWhatItReadied : Functions Leaf LeafAnswer → Tenant → ℕ → Holding → StepOf LeafAnswer → Type 0
PushesWhatItReadied functions tenant worker holding step =
    IfOk (lone functions (Some tenant) step) (λ outcome.
    IsNoneForgotten (tenant_of step) tenant.frames (frames_of_tenant outcome.0) (turn_after worker holding (Ok outcome.1)).task)

-- a task, if there is one, is of a frame of this tenant that is ready at the task's home
abbrev pub IsOfAReadyFrame : ℕ → Tree → Option Task → Type 0
IsOfAReadyFrame tenant after None = Unit {0}
IsOfAReadyFrame tenant after (Some task) = (task.frame.tenant ≡ tenant) × IsReadyAt (frame_at after task.frame.serial) task.home

-- where the step that a worker offers is taken, the task of its turn, if there is one, is of a frame that is
-- ready then
abbrev pub PushesWhatIsReady : Functions Leaf LeafAnswer → Tenant → ℕ → Holding → StepOf LeafAnswer → Type 0
PushesWhatIsReady functions tenant worker holding step =
    IfOk (lone functions (Some tenant) step) (λ outcome.
    IsOfAReadyFrame (tenant_of step) (frames_of_tenant outcome.0) (turn_after worker holding (Ok outcome.1)).task)
