-- Representation: what a step of the core reads of the frame that it names.
use Rattle.std.specs.Prelude.{◌≡◌, ℕ, true, false, not, ◌&&◌, ◌==◌, nat_lt, List, [], length, Option, Some, None, is_some, if◌then◌else◌}
use Rattle.frame_table.specs.declared.names.FrameId.{FrameId}
use Rattle.frame_table.specs.Frames.{Frame, frame_at, has_frame, name_of, parent_of, children_of, IsTree}
use Rattle.sched_rules.specs.declared.refusal.Refusal.{Refusal}
use Rattle.sched_rules.specs.declared.refusal.Refusal.TheVariants.{NoTenant, NoFrame}
use Rattle.sched_rules.specs.declared.act.Continuation.{Continuation}
use Rattle.sched_rules.specs.Trees.{Tenant, has_child, is_root, left as left_for}
use Rattle.sched_rules.specs.Lone.{is_run_by, is_returned, is_bad_then, is_spawn, segments_for}
use Rattle.sched_rules.specs.Cores.{CoreState, tenant_in}
use Rattle.sched_core.specs.declared.engine.Seen.{Seen}

-- what a look-up of a frame that is there tells: its parent's name (none exactly for a root), its state, and what its
-- tenant has left; and the tenant's frames are a tree
pub record IsSeen (shared : CoreState) (name : FrameId) (tenant : Tenant) (frame : Frame (List ℕ)) (seen : Seen) : Type 0 where
  pub owner : tenant_in shared.tenants name.tenant ≡ Some tenant
  pub found : frame_at tenant.frames name.serial ≡ Some frame
  pub parent : seen.parent ≡ name_of name.tenant (parent_of frame.path)
  pub state : seen.state ≡ frame.state
  pub left : seen.left ≡ left_for tenant
  pub root : is_some seen.parent ≡ not (is_root frame.path)
  pub tree : IsTree tenant.frames

-- the worker runs the frame that is seen, and its tenant has a step left
pub record IsRunning (shared : CoreState) (name : FrameId) (worker : ℕ) (tenant : Tenant) (frame : Frame (List ℕ)) (seen : Seen) : Type 0 where
  pub seen_so : IsSeen shared name tenant frame seen
  pub runs : is_run_by worker seen.state ≡ true
  pub some : (seen.left.steps == 0) ≡ false

-- the frame that is seen has returned, this is its parent, and its tenant has a step left
pub record IsReturnedUnder (shared : CoreState) (name parent : FrameId) (tenant : Tenant) (frame : Frame (List ℕ)) (seen : Seen) : Type 0 where
  pub seen_so : IsSeen shared name tenant frame seen
  pub above : seen.parent ≡ Some parent
  pub returned : is_returned seen.state ≡ true
  pub some : (seen.left.steps == 0) ≡ false

-- why a tenant has no frame of this serial: NoTenant or NoFrame; none where it has one
abbrev pub missing_in : Option Tenant → ℕ → Option Refusal
missing_in None serial = Some NoTenant
missing_in (Some tenant) serial = if has_frame tenant.frames serial then None else Some NoFrame

-- why there is no frame of this name: NoTenant or NoFrame; none where there is one
abbrev pub missing : CoreState → FrameId → Option Refusal
missing shared name = missing_in (tenant_in shared.tenants name.tenant) name.serial

-- the worker runs the frame, and what comes after the stores of its act can be done with what its tenant has left
pub record GoesOn (shared : CoreState) (name : FrameId) (worker : ℕ) (after : Continuation) (tenant : Tenant) (frame : Frame (List ℕ)) : Type 0 where
  pub owner : tenant_in shared.tenants name.tenant ≡ Some tenant
  pub found : frame_at tenant.frames name.serial ≡ Some frame
  pub runs : is_run_by worker frame.state ≡ true
  pub can : is_bad_then (length frame.value) (has_child tenant.frames name.serial) after ≡ false
  pub node : (is_spawn after && ((left_for tenant).nodes == 0)) ≡ false
  pub segments : nat_lt (left_for tenant).segments (segments_for frame after) ≡ false

-- the frame child is there, directly under parent, and has no child: so it can be removed
pub record MayBeTakenIn (shared : CoreState) (child parent : FrameId) (tenant : Tenant) (frame : Frame (List ℕ)) : Type 0 where
  pub owner : tenant_in shared.tenants child.tenant ≡ Some tenant
  pub found : frame_at tenant.frames child.serial ≡ Some frame
  pub tree : IsTree tenant.frames
  pub under : parent_of frame.path ≡ Some parent.serial
  pub same : parent.tenant ≡ child.tenant
  pub leaf : children_of tenant.frames child.serial ≡ []
