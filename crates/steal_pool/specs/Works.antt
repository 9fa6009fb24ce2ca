-- Meaning: what one act of a worker comes to: its turn is the table's, its badge counts the steps that were taken, and the turn's task is pushed.
use Rattle.std.specs.Prelude.{◌≡◌, ◌⊎◌, ℕ, true, Option, Some, None, Result}
use Rattle.frame_table.specs.declared.names.FrameId.{FrameId}
use Rattle.sched_rules.specs.declared.refusal.Refusal.{Refusal}
use Rattle.sched_rules.specs.declared.step.DidOf.{DidOf}
use Rattle.jamboree_rules.specs.declared.leaf.Leaf.{Leaf}
use Rattle.jamboree_rules.specs.declared.leaf.LeafAnswer.{LeafAnswer}
use Rattle.jamboree_rules.specs.Leaves.{leaf_of_answer}
use Rattle.steal_pool.specs.task_deques.Seats.{with_pushed, with_taken}
use Rattle.steal_pool.specs.task_deques.Deals.{WorkerSeats}
use Rattle.jamboree_rules.specs.declared.pool_rules.task.Task.{Task}
use Rattle.jamboree_rules.specs.declared.pool_rules.turn.Action.TheVariants.{Bring, Get}
use Rattle.jamboree_rules.specs.declared.pool_rules.turn.Holding.{Holding}
use Rattle.jamboree_rules.specs.declared.pool_rules.turn.Holding.TheVariants.{Nothing, Next}
use Rattle.jamboree_rules.specs.pool_rules.Turns.{turn_after}
use Rattle.desk.specs.Counts.{share_after}
use Rattle.steal_pool.specs.declared.order.Order.{Order}
use Rattle.steal_pool.specs.Orders.{is_due, since_after}

-- what a turn has done to a worker's seats at the deques: the turn's task, if it made one, is the newest of the
-- worker's own deque, or was handed back, as by a full deque; nothing else has changed
abbrev pub IsPushedOf : Option Task → WorkerSeats → WorkerSeats → Type 0
IsPushedOf None before after = after ≡ before
IsPushedOf (Some task) before after = (after ≡ record before { own = with_pushed task before.own }) ⊎ (after ≡ before)

-- what a worker has: what it holds, its badge's share, and its seats at the deques
pub record WorkerHas : Type 0 where
  pub holds : Holding
  pub share : ℕ
  pub seats : WorkerSeats

-- a turn of a worker: by some answer of the hall it holds what the table says next, its badge's share is that after the
-- answer, and just the task that the table says is pushed
pub record IsTurn (worker : ℕ) (before after : WorkerHas) : Type 0 where
  pub answer : Result (DidOf Leaf) Refusal
  pub holds : after.holds ≡ (turn_after worker before.holds answer).holding
  pub share : after.share ≡ share_after before.share answer
  pub task : IsPushedOf (turn_after worker before.holds answer).task before.seats after.seats

-- a worker's seats once its own has taken this task
abbrev pub IsTakenFromOwn : Task → WorkerSeats → WorkerSeats → Type 0
IsTakenFromOwn task before after = after ≡ record before { own = with_taken task before.own }

-- a worker's seats at the deques, and how many tasks it has begun since its last pick
pub record Standing : Type 0 where
  pub seats : WorkerSeats
  pub since : ℕ

-- what a worker without a frame that has the hall locked does next: a fair pick, only where one is due, after which it has begun no other
-- task; or the newest task of its own deque, which is counted; or nothing
abbrev pub BeginsHere : (Task → Type 0) → Order → Option Task → Standing → Standing → Type 0
BeginsHere fair order None before after = after ≡ before
BeginsHere fair order (Some task) before after =
    ((is_due order before.since ≡ true) × fair task × (after ≡ record before { since = 0 }))
    ⊎ (IsTakenFromOwn task before.seats after.seats × (after.since ≡ since_after order before.since))

-- what a worker holds next under the same lock: what it held, and its seats haven't changed; or, where it was without a frame,
-- a task that it begins there
abbrev pub GoesOnHere : (Task → Type 0) → Order → Holding → Holding → Standing → Standing → Type 0
GoesOnHere fair order held next before after =
    ((next ≡ held) × (after ≡ before))
    ⊎ ((task : Task) × (held ≡ Nothing) × (next ≡ Next (Get task)) × BeginsHere fair order (Some task) before after)

-- a worker holds an answer to this frame, which it brings to the hall next, and which was computed from just this leaf
abbrev pub BringsAnswerTo : FrameId → Leaf → Holding → Type 0
BringsAnswerTo frame leaf holds = (answer : LeafAnswer) × (leaf_of_answer answer ≡ leaf) × (holds ≡ Next (Bring frame answer))
