-- Representation: a tenant's ready frame of the greatest serial.
use Rattle.std.specs.Prelude.{◌≡◌, ℕ, ◌≤◌, true, List, Some}
use Rattle.frame_table.specs.declared.names.FrameId.{FrameId}
use Rattle.frame_table.specs.Frames.{Frame, frame_at, is_ready, IsReadyAt}
use Rattle.sched_rules.specs.Trees.{Tree}

-- the name and the home of a ready frame of this tenant, and no ready frame of it has a greater serial
pub record IsNewestReady (tenant : ℕ) (frames : Tree) (name : FrameId) (home : ℕ) : Type 0 where
  pub own : name.tenant ≡ tenant
  pub ready : IsReadyAt (frame_at frames name.serial) home
  pub greatest : (s : ℕ) (frame : Frame (List ℕ)) → frame_at frames s ≡ Some frame → is_ready frame.state ≡ true → s ≤ name.serial
