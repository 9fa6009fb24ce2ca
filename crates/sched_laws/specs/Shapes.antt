-- Representation: the shape of a tenant of a core, which every step keeps: its tree, its jobs, and what it used of
-- what it reserved.
use Rattle.std.specs.Prelude.{◌≡◌, ℕ, ◌+◌, ◌*◌, ◌≤◌, ◌⊎◌, true, false, List, [], ◌∷◌, length, filter}
use Rattle.frame_table.specs.Frames.{Frame, path_in, AllBelow, IsTree}
use Rattle.tenant_quota.specs.Accounts.{reserved_segments, reserved_nodes}
use Rattle.sched_rules.specs.declared.job.Job.{Job}
use Rattle.sched_rules.specs.declared.job.Job.TheVariants.{Live, Done, Spent, Cancelled}
use Rattle.sched_rules.specs.Trees.{Tree, Tenant, charged_for, has_child, is_root, is_live_at}
use Rattle.sched_rules.specs.Laws.{Neither, mark_of_state}
use Rattle.sched_rules.specs.Cores.{CoreState, accounts_in, charged_in}

-- each of these frames that is computed or has returned has no child in this tree
abbrev pub AreMarkedChildless : Tree → List (Frame (List ℕ)) → Type 0
AreMarkedChildless tree [] = Unit {0}
AreMarkedChildless tree (frame ∷ frames) = ((mark_of_state frame.state ≡ Neither) ⊎ (has_child tree frame.serial ≡ false)) × AreMarkedChildless tree frames

-- how many of a tenant's jobs live under this root
abbrev pub live_count : ℕ → List Job → ℕ
live_count root jobs = length (filter (λ job. is_live_at root job) jobs)

-- each root frame is the root of exactly one live job
abbrev pub AreRootsLive : List Job → Tree → Type 0
AreRootsLive jobs [] = Unit {0}
AreRootsLive jobs (frame ∷ frames) = (is_root frame.path ≡ true → live_count frame.serial jobs ≡ 1) × AreRootsLive jobs frames

-- the root of a job that lives is a root frame of the tree
abbrev pub IsRootThere : Tree → Job → Type 0
IsRootThere frames (Live root) = path_in frames root ≡ root ∷ []
IsRootThere frames (Done words) = Unit {0}
IsRootThere frames Spent = Unit {0}
IsRootThere frames Cancelled = Unit {0}

-- the root of each of these jobs that lives is a root frame of the tree
abbrev pub AreLiveRootsThere : Tree → List Job → Type 0
AreLiveRootsThere frames [] = Unit {0}
AreLiveRootsThere frames (job ∷ jobs) = IsRootThere frames job × AreLiveRootsThere frames jobs

-- each frame of a tree has 1 to 128 words
abbrev pub HaveWords : Tree → Type 0
HaveWords [] = Unit {0}
HaveWords (frame ∷ frames) = ((1 ≤ length frame.value) × (length frame.value ≤ 128)) × HaveWords frames

-- the shape of a tenant: a tree by rising serial, of serials that were given; no child under a frame that computes or has returned;
-- live jobs and root frames one to one; at most 256 jobs; and nothing used beyond what is reserved
pub record IsShaped (tenant : Tenant) : Type 0 where
  pub tree : IsTree tenant.frames
  pub given : AllBelow (tenant.serials + 1) tenant.frames
  pub childless : AreMarkedChildless tenant.frames tenant.frames
  pub roots : AreRootsLive tenant.jobs tenant.frames
  pub live : AreLiveRootsThere tenant.frames tenant.jobs
  pub few_jobs : length tenant.jobs ≤ 256
  pub words : HaveWords tenant.frames
  pub charged : charged_for tenant.frames ≤ tenant.reserve.segments
  pub opened : tenant.serials ≤ tenant.reserve.nodes
  pub ticks : tenant.steps ≤ 16 * tenant.reserve.nodes

-- each tenant of a core has its shape
abbrev pub AreShaped : List (ℕ × Tenant) → Type 0
AreShaped [] = Unit {0}
AreShaped (entry ∷ entries) = IsShaped entry.1 × AreShaped entries

-- what all tenants have reserved is within the totals
pub record IsReservedWithin (shared : CoreState) : Type 0 where
  pub segments : reserved_segments (accounts_in shared.tenants) ≤ shared.totals.segments
  pub nodes : reserved_nodes (accounts_in shared.tenants) ≤ shared.totals.nodes

-- the charges of all frames are within the total of segments
abbrev pub IsCovered : CoreState → Type 0
IsCovered shared = charged_in shared.tenants ≤ shared.totals.segments
