-- Meaning: how many steps the frames of a search still take: sixteen for each node that was opened suffice, whatever
-- their order.
use Rattle.std.specs.Prelude.{ℕ, ◌+◌, ◌*◌, ◌≤◌, List, sum_by}
use Rattle.frame_table.specs.declared.names.State.{State}
use Rattle.frame_table.specs.declared.names.State.TheVariants.{Ready, Running, Computing, Waiting, Returned}
use Rattle.frame_table.specs.Frames.{Frame}
use Rattle.sched_rules.specs.Trees.{Tenant}

-- the steps that a frame in this state still takes until it is gone, beside those that open frames: a Take, a Wait or Return, an Inlet
-- or Finish, and two of its parent, which is woken by the Inlet: a Take, and a Wait or Return again
abbrev pub turns_in : State → ℕ
turns_in (Ready home) = 6
turns_in (Running worker) = 5
turns_in (Computing worker) = 6
turns_in Waiting = 4
turns_in Returned = 3

-- the steps that a frame still takes until it is gone: those for its state, and those that its words ask for beside
-- (`extra`)
abbrev pub turns_of : (List ℕ → ℕ) → Frame (List ℕ) → ℕ
turns_of extra frame = turns_in frame.state + extra frame.value

-- the steps that a tenant has taken, and those that its frames still take, are within sixteen for each node that it has opened
abbrev pub HasSteps : (List ℕ → ℕ) → Tenant → Type 0
HasSteps extra tenant = tenant.steps + sum_by (turns_of extra) tenant.frames ≤ 16 * tenant.serials
