-- Meaning: what the calls that only read a core answer.
use Rattle.std.specs.Prelude.{ℕ, ◌+◌, ◌-◌, List, [], ◌∷◌, Option, option_map, option_and_then, length, sum_by}
use Rattle.tenant_quota.specs.declared.account.Left.{Left}
use Rattle.frame_table.specs.declared.names.State.{State}
use Rattle.frame_table.specs.declared.names.FrameId.{FrameId}
use Rattle.frame_table.specs.Frames.{Frame, frame_at, parent_of, name_of, newest_ready_of, ready_frames}
use Rattle.sched_rules.specs.declared.job.Job.{Job}
use Rattle.sched_rules.specs.Trees.{Tenant, left, job_at}
use Rattle.sched_rules.specs.Cores.{CoreState, tenant_in, charged_in}

-- what a tenant has left; none where it isn't there
abbrev pub left_in_core : CoreState → ℕ → Option Left
left_in_core shared number = option_map left (tenant_in shared.tenants number)

-- a tenant's job by its number, if there is one
abbrev pub job_of : CoreState → ℕ → ℕ → Option Job
job_of shared number job = option_and_then (λ tenant. job_at tenant.jobs job) (tenant_in shared.tenants number)

-- the frame of this name (tenant and serial) in a core, if it is there
abbrev pub named : CoreState → FrameId → Option (Frame (List ℕ))
named shared name = option_and_then (λ tenant. frame_at tenant.frames name.serial) (tenant_in shared.tenants name.tenant)

-- the parent's name, if it has a parent, and the state of the frame of this name, if it is there
abbrev pub frame_in_core : CoreState → FrameId → Option (Option FrameId × State)
frame_in_core shared name = option_map (λ frame. (name_of name.tenant (parent_of frame.path), frame.state)) (named shared name)

-- the words of the frame of this name, if it is there
abbrev pub words_of_frame : CoreState → FrameId → Option (List ℕ)
words_of_frame shared name = option_map (λ frame. frame.value) (named shared name)

-- how many frames a tenant has, and how many words they have; none where it isn't there
abbrev pub live_of : CoreState → ℕ → Option (ℕ × ℕ)
live_of shared number = option_map (λ tenant. (length tenant.frames, sum_by (λ frame. length frame.value) tenant.frames)) (tenant_in shared.tenants number)

-- a tenant's ready frame of the greatest serial, with its home; none where none is ready
abbrev pub newest_ready_in : CoreState → ℕ → Option (FrameId × ℕ)
newest_ready_in shared number = option_and_then (λ tenant. newest_ready_of number tenant.frames) (tenant_in shared.tenants number)

-- how many frames of all tenants are ready
abbrev pub ready_count : List (ℕ × Tenant) → ℕ
ready_count [] = 0
ready_count (entry ∷ entries) = length (ready_frames entry.1.frames) + ready_count entries

-- the segments that are free: the total less the charges of all frames of all tenants
abbrev pub free_in : CoreState → ℕ
free_in shared = shared.totals.segments - charged_in shared.tenants
