-- Meaning: the turn of a pool's worker: the table of what it offers, and of what it holds after each answer. (Cilk 5.4
-- Reference Manual: work stealing, inlets.)
use Rattle.std.specs.Prelude.{ℕ, Bool, true, false, ◌==◌, Option, Some, None, Result, Ok, Err, if◌then◌else◌}
use Rattle.frame_table.specs.declared.names.FrameId.{FrameId}
use Rattle.sched_rules.specs.declared.refusal.Refusal.{Refusal}
use Rattle.sched_rules.specs.declared.refusal.Refusal.TheVariants.{NoSegments, NoNodes, NoSteps, BadAct, NotSpent}
use Rattle.sched_rules.specs.declared.step.StepOf.{StepOf}
use Rattle.sched_rules.specs.declared.step.StepOf.TheVariants.{Take, Steal, Advance, Answer, Inlet, Finish as FinishRoot, Spend}
use Rattle.sched_rules.specs.declared.step.DidOf.{DidOf}
use Rattle.sched_rules.specs.declared.step.DidOf.TheVariants.{Admitted, AdmittedMore, Submitted, Took, Went, Grew, Spawned, Waited, Computing as IsComputing, Returned, Answered, TakenIn, Finished, Spent, Cancelled, Left}
use Rattle.jamboree_rules.specs.declared.leaf.Leaf.{Leaf}
use Rattle.jamboree_rules.specs.declared.leaf.LeafAnswer.{LeafAnswer}
use Rattle.jamboree_rules.specs.declared.pool_rules.task.Task.{Task}
use Rattle.jamboree_rules.specs.declared.pool_rules.turn.Action.{Action}
use Rattle.jamboree_rules.specs.declared.pool_rules.turn.Action.TheVariants.{Get, Run, Bring, TakeIn, Finish}
use Rattle.jamboree_rules.specs.declared.pool_rules.turn.Holding.{Holding}
use Rattle.jamboree_rules.specs.declared.pool_rules.turn.Holding.TheVariants.{Nothing, Next, Computing, GivingUp}
use Rattle.jamboree_rules.specs.declared.pool_rules.turn.Turn.{Turn}

-- the frame that a worker's action is about
abbrev pub frame_of_action : Action → FrameId
frame_of_action (Get task) = task.frame
frame_of_action (Run frame) = frame
frame_of_action (Bring frame answer) = frame
frame_of_action (TakeIn frame) = frame
frame_of_action (Finish frame) = frame

-- the step for an action: a task of the worker's own is taken, another's is stolen from its home; a running frame
-- advances; an answer is brought; a returned frame is taken in by its parent, and a returned root is finished
abbrev pub step_of : ℕ → Action → StepOf LeafAnswer
step_of worker (Get task) = if task.home == worker then Take worker task.frame else Steal worker task.home task.frame
step_of worker (Run frame) = Advance worker frame
step_of worker (Bring frame answer) = Answer worker frame answer
step_of worker (TakeIn frame) = Inlet worker frame
step_of worker (Finish frame) = FinishRoot worker frame

-- the step that a worker offers: none where it holds no frame or computes; the step of its action; or, after a
-- step that was refused as quota ran out or its act can't be done, the offer to spend the frame's job
abbrev pub offered : ℕ → Holding → Option (StepOf LeafAnswer)
offered worker Nothing = None
offered worker (Next action) = Some (step_of worker action)
offered worker (Computing frame leaf) = None
offered worker (GivingUp action) = Some (Spend (frame_of_action action))

-- what a worker holds after what a step on a frame did. A frame that it got, that went on, grew, opened a child
-- or has its answer runs on; one that waits is let go; one that computes is computed; one that has returned is
-- taken in by its parent, or finished where it is a root. Once the frame is taken in, or its job has ended, the
-- worker holds nothing
abbrev pub holding_after : FrameId → DidOf Leaf → Holding
holding_after frame Admitted = Nothing
holding_after frame AdmittedMore = Nothing
holding_after frame (Submitted job root) = Nothing
holding_after frame Took = Next (Run frame)
holding_after frame Went = Next (Run frame)
holding_after frame Grew = Next (Run frame)
holding_after frame (Spawned child) = Next (Run frame)
holding_after frame Waited = Nothing
holding_after frame (IsComputing leaf) = Computing frame leaf
holding_after frame (Returned false) = Next (TakeIn frame)
holding_after frame (Returned true) = Next (Finish frame)
holding_after frame Answered = Next (Run frame)
holding_after frame (TakenIn woken aborted) = Nothing
holding_after frame (Finished job) = Nothing
holding_after frame (Spent job) = Nothing
holding_after frame Cancelled = Nothing
holding_after frame Left = Nothing

-- the frame that became ready by what a step did: a child that was opened, a parent that was woken
abbrev pub readied : DidOf Leaf → Option FrameId
readied Admitted = None
readied AdmittedMore = None
readied (Submitted job root) = None
readied Took = None
readied Went = None
readied Grew = None
readied (Spawned child) = Some child
readied Waited = None
readied (IsComputing leaf) = None
readied (Returned root) = None
readied Answered = None
readied (TakenIn woken aborted) = woken
readied (Finished job) = None
readied (Spent job) = None
readied Cancelled = None
readied Left = None

-- the task of a frame that became ready, if one did: its home is the worker that did the step
abbrev pub task_at : ℕ → Option FrameId → Option Task
task_at worker None = None
task_at worker (Some frame) = Some (record { frame = frame; home = worker })

-- whether a refusal says that segments, nodes or steps ran out, or that the next act can't be done
abbrev pub is_short : Refusal → Bool
is_short NoSegments = true
is_short NoNodes = true
is_short NoSteps = true
is_short BadAct = true
is_short _ = false

-- whether the refusal of a Spend says that the job may go on
abbrev pub may_go_on : Refusal → Bool
may_go_on NotSpent = true
may_go_on _ = false

-- the turn of a pool's worker that then holds this, and pushes no task
abbrev pub turn : Holding → Turn
turn holding = record { holding = holding; task = None }

-- a worker's turn: what it holds after the answer to what it offered, and the task that it pushes. After a
-- refusal for want of quota or for an act that can't be done, it keeps its action while it offers to spend the
-- job. Where that is refused since the job may go on, the action comes again; any other refusal leaves it without
-- a frame
abbrev pub turn_after : ℕ → Holding → Result (DidOf Leaf) Refusal → Turn
turn_after worker Nothing answer = turn Nothing
turn_after worker (Next action) (Ok did) = record { holding = holding_after (frame_of_action action) did; task = task_at worker (readied did) }
turn_after worker (Next action) (Err refusal) = turn (if is_short refusal then GivingUp action else Nothing)
turn_after worker (Computing frame leaf) answer = turn (Computing frame leaf)
turn_after worker (GivingUp action) (Ok did) = turn Nothing
turn_after worker (GivingUp action) (Err refusal) = turn (if may_go_on refusal then Next action else Nothing)
