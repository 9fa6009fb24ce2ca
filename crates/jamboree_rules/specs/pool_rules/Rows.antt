-- Representation: two frames of a search, on which the definitions of a worker's turn are tried.
use Rattle.std.specs.Prelude.{ℕ}
use Rattle.frame_table.specs.declared.names.FrameId.{FrameId}
use Rattle.jamboree_rules.specs.declared.pool_rules.task.Task.{Task}

-- the name of tenant 1's first frame
abbrev pub root : FrameId
root = record { tenant = 1; serial = 1 }

-- the name of tenant 1's second frame
abbrev pub child : FrameId
child = record { tenant = 1; serial = 2 }

-- the task of a frame at a home: a worker, or 0 for the hall
abbrev pub task : FrameId → ℕ → Task
task frame home = record { frame = frame; home = home }
