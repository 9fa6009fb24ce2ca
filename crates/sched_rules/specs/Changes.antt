-- Representation: one tenant of a core changed, and all others as they were.
use Rattle.std.specs.Prelude.{ℕ, ◌==◌, List, [], ◌∷◌, ◌++◌, if◌then◌else◌}
use Rattle.tenant_quota.specs.Reserves.{ReserveOf}
use Rattle.frame_table.specs.Frames.{aborted, frames_without}
use Rattle.sched_rules.specs.declared.job.Job.{Job}
use Rattle.sched_rules.specs.Trees.{Tenant, with_ended}
use Rattle.sched_rules.specs.Cores.{CoreState}

-- the tenants, the one of this number changed by change
abbrev pub with_change : ℕ → (Tenant → Tenant) → List (ℕ × Tenant) → List (ℕ × Tenant)
with_change number change [] = []
with_change number change (entry ∷ entries) = if entry.0 == number then (entry.0, change entry.1) ∷ entries else entry ∷ with_change number change entries

-- the core, its tenant of this number changed by change
abbrev pub on_tenant : ℕ → (Tenant → Tenant) → CoreState → CoreState
on_tenant number change shared = record shared { tenants = with_change number change shared.tenants }

-- the tenant with this as its reservation
abbrev pub with_reserve : ReserveOf → Tenant → Tenant
with_reserve quota tenant = record tenant { reserve = quota }

-- the tenant without the frame of this serial
abbrev pub without_frame : ℕ → Tenant → Tenant
without_frame serial tenant = record tenant { frames = frames_without serial tenant.frames }

-- the tenant without the frames under the one of this serial, which stays
abbrev pub without_under : ℕ → Tenant → Tenant
without_under serial tenant = record tenant { frames = aborted serial tenant.frames }

-- the tenant with this job added after the others
abbrev pub with_job : Job → Tenant → Tenant
with_job job tenant = record tenant { jobs = tenant.jobs ++ job ∷ [] }

-- the tenant, the job that lives under this root replaced by job, which says how it ended; its frames stay
abbrev pub ending_job : ℕ → Job → Tenant → Tenant
ending_job root job tenant = record tenant { jobs = with_ended root job tenant.jobs }
