-- Representation: what the core's store tells of its core, beside the views of a core.
use Rattle.std.specs.Prelude.{◌≡◌, ℕ, ◌+◌, ◌≤◌, Bool, true, false, not, ◌||◌, List, [], ◌∷◌, Option, Some, None, IsSomeAnd}
use Rattle.tenant_quota.specs.Reserves.{ReserveOf}
use Rattle.frame_table.specs.declared.names.FrameId.{FrameId}
use Rattle.frame_table.specs.declared.names.State.{State}
use Rattle.frame_table.specs.declared.names.State.TheVariants.{Running, Computing}
use Rattle.frame_table.specs.Frames.{Frame, IsReadyAt}
use Rattle.sched_rules.specs.declared.job.Job.{Job}
use Rattle.sched_rules.specs.Trees.{Tree, Tenant, frame_words, sight, is_held_by, is_busy_in}
use Rattle.sched_rules.specs.Lone.{is_lower}
use Rattle.sched_rules.specs.Cores.{CoreState, tenant_in}
use Rattle.sched_rules.specs.Views.{left_in_core, named}

-- the frames of a tenant; none where it isn't there
abbrev pub tree_of : Option Tenant → Tree
tree_of None = []
tree_of (Some tenant) = tenant.frames

-- the jobs of a tenant; none where it isn't there
abbrev pub jobs_kept : Option Tenant → List Job
jobs_kept None = []
jobs_kept (Some tenant) = tenant.jobs

-- how many serials a tenant was given; 0 where it isn't there
abbrev pub serials_given : Option Tenant → ℕ
serials_given None = 0
serials_given (Some tenant) = tenant.serials

-- the frames of the tenant of this number; none where it isn't there
abbrev pub frames_in_core : CoreState → ℕ → Tree
frames_in_core shared number = tree_of (tenant_in shared.tenants number)

-- the jobs of the tenant of this number; none where it isn't there
abbrev pub jobs_in : CoreState → ℕ → List Job
jobs_in shared number = jobs_kept (tenant_in shared.tenants number)

-- how many serials the tenant of this number was given; 0 where it isn't there
abbrev pub serials_in : CoreState → ℕ → ℕ
serials_in shared number = serials_given (tenant_in shared.tenants number)

-- the path of a frame; empty where there is none
abbrev pub path_of : Option (Frame (List ℕ)) → List ℕ
path_of None = []
path_of (Some frame) = frame.path

-- what the frame of this name sees: the words along its path, nearest first
abbrev pub sight_of : CoreState → FrameId → List (List ℕ)
sight_of shared name = sight (frames_in_core shared name.tenant) (path_of (named shared name))

-- the words of the frame of this name; none where it isn't there
abbrev pub words_under : CoreState → FrameId → List ℕ
words_under shared name = frame_words (named shared name)

-- whether the worker runs or computes a frame of some tenant
abbrev pub is_busy_among : ℕ → List (ℕ × Tenant) → Bool
is_busy_among worker [] = false
is_busy_among worker (entry ∷ entries) = is_busy_in worker entry.1.frames || is_busy_among worker entries

-- whether there is a frame, and this worker runs or computes it
abbrev pub holds : ℕ → Option (Frame (List ℕ)) → Bool
holds worker None = false
holds worker (Some frame) = is_held_by worker frame.state

-- whether the worker may run or compute the frame of this name: it holds no frame, or this very one
abbrev pub may_hold : CoreState → ℕ → FrameId → Bool
may_hold shared worker name = not (is_busy_among worker shared.tenants) || holds worker (named shared name)

-- whether a state is Running or Computing, and so names a worker
abbrev pub is_held : State → Bool
is_held (Running worker) = true
is_held (Computing worker) = true
is_held _ = false

-- the tenant is there, and this is a raise of what it reserves: more segments or nodes, and of neither less
abbrev pub IsAboveOwn : Option Tenant → ReserveOf → Type 0
IsAboveOwn None quota = ⊥
IsAboveOwn (Some tenant) quota = is_lower tenant.reserve quota ≡ false

-- the tenant is there, and has so many segments and so many nodes left
abbrev pub TenantHasLeft : CoreState → ℕ → ℕ → ℕ → Type 0
TenantHasLeft shared number segments nodes = IsSomeAnd (left_in_core shared number) (λ left. (segments ≤ left.segments) × (nodes ≤ left.nodes))

-- the tenant is there, and has a step left
abbrev pub TenantHasStepLeft : CoreState → ℕ → Type 0
TenantHasStepLeft shared number = IsSomeAnd (left_in_core shared number) (λ left. 1 ≤ left.steps)

-- each tenant of a list has a number above this one
abbrev pub AreAfter : ℕ → List (ℕ × Tenant) → Type 0
AreAfter number [] = Unit {0}
AreAfter number (entry ∷ entries) = (number + 1 ≤ entry.0) × AreAfter number entries

-- the tenants are in strictly rising order of number
abbrev pub AreTenantsRising : List (ℕ × Tenant) → Type 0
AreTenantsRising [] = Unit {0}
AreTenantsRising (entry ∷ entries) = AreAfter entry.0 entries × AreTenantsRising entries

-- the frame of this name is there, ready at this home
abbrev pub IsReadyIn : CoreState → FrameId → ℕ → Type 0
IsReadyIn shared name home = IsReadyAt (named shared name) home
