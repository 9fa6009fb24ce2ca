-- Meaning: what contracts see of what lies under a desk's lock, what one call does to the hall there, and what callers
-- wait for.
use Rattle.std.specs.Prelude.{◌≡◌, ℕ, ◌+◌, ◌==◌, Bool, false, not, List, Option, Some, None, Result, Ok, Err}
use Rattle.frame_table.specs.Frames.{IsReadyAt}
use Rattle.jamboree_rules.specs.declared.pool_rules.task.Task.{Task}
use Rattle.sched_rules.specs.declared.refusal.Refusal.{Refusal}
use Rattle.sched_rules.specs.declared.step.StepOf.{StepOf}
use Rattle.sched_rules.specs.declared.step.StepOf.TheVariants.{Leave}
use Rattle.sched_rules.specs.declared.step.DidOf.{DidOf}
use Rattle.sched_rules.specs.declared.step.DidOf.TheVariants.{Left}
use Rattle.sched_rules.specs.Cores.{CoreState}
use Rattle.sched_rules.specs.Views.{job_of, named, ready_count}
use Rattle.hall.specs.jamboree_rules.declared.leaf.Leaf.{Leaf}
use Rattle.hall.specs.jamboree_rules.declared.leaf.LeafAnswer.{LeafAnswer}
use Rattle.hall.specs.Halls.{HallOf, IsDecided}
use Rattle.desk.specs.Seats.{SeatOf}
use Rattle.hall.specs.desk_rules.Changes.{is_some_live}

-- what contracts see of what lies under the lock: the hall, how many badges were given, and the steps taken since the desk was
-- made, each with the number of its maker
pub record LockedHallOf : Type 0 where
  pub hall : HallOf
  pub badges : ℕ
  pub history : List (ℕ × StepOf LeafAnswer)

-- the hall took the Leave of the seat's tenant, and then keeps as many more steps as the seat's share says, and 1 more
-- for the Leave
pub record IsLeft (before : HallOf) (seat : SeatOf) (after : HallOf) : Type 0 where
  pub step : IsDecided before (Leave seat.tenant) (Ok Left) (record after { kept = before.kept })
  pub kept : after.kept ≡ before.kept + seat.share + 1

-- what lies under the lock, where the hall keeps so many more steps
abbrev pub with_kept : ℕ → LockedHallOf → LockedHallOf
with_kept steps kept = record kept { hall = record kept.hall { kept = kept.hall.kept + steps } }

-- a badge's share after an answer: one more where the step was taken
abbrev pub share_after : ℕ → Result (DidOf Leaf) Refusal → ℕ
share_after share (Ok did) = share + 1
share_after share (Err refusal) = share

-- whether there is a job of this tenant that hasn't ended
abbrev pub is_awaited : CoreState → ℕ → ℕ → Bool
is_awaited shared tenant job = is_some_live (job_of shared tenant job)

-- whether some frame of some tenant is ready
abbrev pub has_ready : CoreState → Bool
has_ready shared = not (ready_count shared.tenants == 0)

-- a frame of any tenant that is ready, as a task; None exactly where none is ready
abbrev pub IsNextReady : CoreState → Option Task → Type 0
IsNextReady shared None = has_ready shared ≡ false
IsNextReady shared (Some task) = IsReadyAt (named shared task.frame) task.home
