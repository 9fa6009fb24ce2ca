-- Representation: what a core keeps true of its tenants, their frames and their jobs.
use Rattle.std.specs.Prelude.{◌≡◌, ℕ, ◌+◌, ◌*◌, Bool, true, List, Option, Some, None}
use Rattle.tenant_quota.specs.declared.account.Left.{Left}
use Rattle.frame_table.specs.declared.names.FrameId.{FrameId}
use Rattle.sched_rules.specs.Trees.{Tenant, charged_for}
use Rattle.sched_rules.specs.Laws.{Fitting, Rooting}
use Rattle.sched_rules.specs.Cores.{CoreState}
use Rattle.sched_rules.specs.Headline.{AreNumbersGiven}
use Rattle.sched_laws.specs.Fitted.{CoreFits}
use Rattle.sched_laws.specs.Newest.{IsNewestReady}
use Rattle.sched_laws.specs.Shapes.{AreShaped, IsReservedWithin}

-- each tenant has its shape and a number up to the greatest so far; all reservations together are within the totals
pub record IsKeptCore (shared : CoreState) : Type 0 where
  pub shaped : AreShaped shared.tenants
  pub known : AreNumbersGiven shared
  pub within : IsReservedWithin shared

-- there are lists of submitted words for which every frame fits, and each job holds what it was asked
abbrev pub IsFitting : Fitting → Rooting → CoreState → Type 0
IsFitting fits rooted shared = (origins : ℕ → List (List ℕ)) × CoreFits fits rooted origins shared

-- the invariant of a Core (src/scheduler.rt): it is kept as `IsKeptCore` says, and where the core knows all its frames
-- to fit (`fitting`), they do
pub record IsKeptFitting (fits : Fitting) (rooted : Rooting) (fitting : Bool) (shared : CoreState) : Type 0 where
  pub kept : IsKeptCore shared
  pub fit : fitting ≡ true → IsFitting fits rooted shared

-- what a tenant has left and what it used add up to what it reserved, so that nothing was cut off at 0
pub record AddsUpToReserve (tenant : Tenant) (left : Left) : Type 0 where
  pub segments : left.segments + charged_for tenant.frames ≡ tenant.reserve.segments
  pub nodes : left.nodes + tenant.serials ≡ tenant.reserve.nodes
  pub steps : left.steps + tenant.steps ≡ 16 * tenant.reserve.nodes

-- the tenant is there, and what it has left and what it used add up to what it reserved
abbrev pub IsRestOf : Option Tenant → Left → Type 0
IsRestOf None left = ⊥
IsRestOf (Some tenant) left = AddsUpToReserve tenant left

-- this name is that of a ready frame of a tenant that is there, with its home, and no ready frame of it has a greater serial
abbrev pub IsNewestReadyOf : Option Tenant → ℕ → FrameId → ℕ → Type 0
IsNewestReadyOf None number name home = ⊥
IsNewestReadyOf (Some tenant) number name home = IsNewestReady number tenant.frames name home
