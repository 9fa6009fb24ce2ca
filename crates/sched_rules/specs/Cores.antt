-- Meaning: a core of several tenants: an admission among them, a worker that is busy elsewhere, and what each step is answered.
use Rattle.std.specs.Prelude.{ℕ, ◌+◌, ◌^◌, Bool, false, not, ◌||◌, ◌&&◌, ◌==◌, nat_lt, nat_le, List, [], ◌∷◌, Option, Some, None, Result, Ok, Err, if◌then◌else◌, length}
use Rattle.tenant_quota.specs.Reserves.{ReserveOf}
use Rattle.tenant_quota.specs.Accounts.{reserved_segments, reserved_nodes}
use Rattle.tenant_quota.specs.Reservations.{Reservations}
use Rattle.tenant_quota.specs.declared.account.Account.{Account}
use Rattle.sched_rules.specs.declared.refusal.Refusal.{Refusal}
use Rattle.sched_rules.specs.declared.refusal.Refusal.TheVariants.{Busy, Full, OldTenant}
use Rattle.sched_rules.specs.declared.step.StepOf.{StepOf}
use Rattle.sched_rules.specs.declared.step.StepOf.TheVariants.{Admit, AdmitMore, Submit, Take, Steal, Advance, Answer, Inlet, Finish, Spend, Cancel, Leave}
use Rattle.sched_rules.specs.declared.step.DidOf.TheVariants.{Admitted}
use Rattle.sched_rules.specs.Functions.{Functions}
use Rattle.sched_rules.specs.Trees.{Tenant, admitted_with, account_in, charged_for, is_busy_in}
use Rattle.sched_rules.specs.Lone.{Outcome, unless, lone, refusal_in}
use Rattle.sched_rules.specs.Runs.{tenant_of}

-- a core: its totals, the greatest number of a tenant so far, and the tenants that are there, each with its number
pub record CoreState : Type 0 where
  pub totals : ReserveOf
  pub newest : ℕ
  pub tenants : List (ℕ × Tenant)

-- a core as contracts see it: its procedure, and what its tenants share
pub record CoreOf (P : Type 0) : Type 0 where
  pub procedure : P
  pub shared : CoreState

-- a core with these totals of segments and nodes, and no tenant
abbrev pub shared_by_nobody : ReserveOf → CoreState
shared_by_nobody totals = record { totals = totals; newest = 0; tenants = [] }

-- the tenant with this number, if it is there
abbrev pub tenant_in : List (ℕ × Tenant) → ℕ → Option Tenant
tenant_in [] number = None
tenant_in (entry ∷ entries) number = if entry.0 == number then Some entry.1 else tenant_in entries number

-- the tenants of a core with this one under this number: in the place of the one there, else at the end
abbrev pub with_tenant : ℕ → Tenant → List (ℕ × Tenant) → List (ℕ × Tenant)
with_tenant number tenant [] = (number, tenant) ∷ []
with_tenant number tenant (entry ∷ entries) = if entry.0 == number then (number, tenant) ∷ entries else entry ∷ with_tenant number tenant entries

-- the tenants of a core without the one of this number
abbrev pub without_tenant : ℕ → List (ℕ × Tenant) → List (ℕ × Tenant)
without_tenant number [] = []
without_tenant number (entry ∷ entries) = if entry.0 == number then without_tenant number entries else entry ∷ without_tenant number entries

-- the tenants of a core after a step of one of them, which has this state now, or is gone
abbrev pub with_outcome : ℕ → Option Tenant → List (ℕ × Tenant) → List (ℕ × Tenant)
with_outcome number None entries = without_tenant number entries
with_outcome number (Some tenant) entries = with_tenant number tenant entries

-- busy elsewhere: the worker runs or computes a frame of a tenant other than this one
abbrev pub is_busy_elsewhere : ℕ → ℕ → List (ℕ × Tenant) → Bool
is_busy_elsewhere worker number [] = false
is_busy_elsewhere worker number (entry ∷ entries) =
    (not (entry.0 == number) && is_busy_in worker entry.1.frames) || is_busy_elsewhere worker number entries

-- whether a step needs a free worker (Take, Steal, Inlet and Finish do) and its worker is busy elsewhere
abbrev pub meets_busy : {A : Type 0} → StepOf A → List (ℕ × Tenant) → Bool
meets_busy (Take worker name) entries = is_busy_elsewhere worker name.tenant entries
meets_busy (Steal worker from name) entries = is_busy_elsewhere worker name.tenant entries
meets_busy (Inlet worker name) entries = is_busy_elsewhere worker name.tenant entries
meets_busy (Finish worker name) entries = is_busy_elsewhere worker name.tenant entries
meets_busy _ entries = false

-- the accounts (what is reserved and used) of all tenants of a core
abbrev pub accounts_in : List (ℕ × Tenant) → List (ℕ × Account)
accounts_in [] = []
accounts_in (entry ∷ entries) = (entry.0, account_in entry.1) ∷ accounts_in entries

-- the book of reservations: the totals, and the accounts of all tenants
abbrev pub reservations_in : CoreState → Reservations
reservations_in shared = record { segments = shared.totals.segments; nodes = shared.totals.nodes; accounts = accounts_in shared.tenants }

-- whether there is no room for a new tenant's reservation: 64 tenants are there, or a total would be passed
abbrev pub is_full : Reservations → ReserveOf → Bool
is_full book quota =
    nat_le 64 (length book.accounts)
    || nat_lt book.segments (reserved_segments book.accounts + quota.segments)
    || nat_lt book.nodes (reserved_nodes book.accounts + quota.nodes)

-- the tests of Admit: the number is 0, not above every number so far, or over 2^62; no room for the reservation
abbrev pub admit_tests : CoreState → ℕ → ReserveOf → List (Bool × Refusal)
admit_tests shared number quota =
    ((number == 0) || nat_le number shared.newest || nat_lt (2 ^ 62) number, OldTenant)
    ∷ (is_full (reservations_in shared) quota, Full)
    ∷ []

-- what a tenant reserves; nothing where it isn't there
abbrev pub reserved_by : Option Tenant → ReserveOf
reserved_by None = record { segments = 0; nodes = 0 }
reserved_by (Some tenant) = tenant.reserve

-- AdmitMore: whether a total would be passed if this reservation took the place of the tenant's own
abbrev pub is_beyond : Reservations → ReserveOf → ReserveOf → Bool
is_beyond book own quota =
    nat_lt (book.segments + own.segments) (reserved_segments book.accounts + quota.segments)
    || nat_lt (book.nodes + own.nodes) (reserved_nodes book.accounts + quota.nodes)

-- a step's result for its tenant alone, but Full where it would be taken and the totals don't allow it
abbrev pub unless_beyond : {I : Type 0} → Bool → Result (Outcome I) Refusal → Result (Outcome I) Refusal
unless_beyond beyond (Err refusal) = Err refusal
unless_beyond beyond (Ok outcome) = if beyond then Err Full else Ok outcome

-- a step's result for its tenant alone, but Busy where it would be taken and its worker is busy elsewhere
abbrev pub unless_busy : {I : Type 0} → Bool → Result (Outcome I) Refusal → Result (Outcome I) Refusal
unless_busy busy (Err refusal) = Err refusal
unless_busy busy (Ok outcome) = if busy then Err Busy else Ok outcome

-- the result of a step among several tenants that is neither Admit nor AdmitMore: that of its tenant alone, but Busy
-- where it would be taken and the worker that it needs is busy elsewhere
abbrev pub step_among : {I A : Type 0} → Functions I A → CoreState → StepOf A → Result (Outcome I) Refusal
step_among functions shared step =
    unless_busy (meets_busy step shared.tenants) (lone functions (tenant_in shared.tenants (tenant_of step)) step)

-- the result of a step among several tenants, unless memory runs out: its tenant's state and what it did, or a refusal
abbrev pub step_result : {I A : Type 0} → Functions I A → CoreState → StepOf A → Result (Outcome I) Refusal
step_result functions shared (Admit number quota) = unless (admit_tests shared number quota) (Some (admitted_with quota), Admitted)
step_result functions shared (AdmitMore number quota) =
    unless_beyond (is_beyond (reservations_in shared) (reserved_by (tenant_in shared.tenants number)) quota)
    (lone functions (tenant_in shared.tenants number) (AdmitMore number quota))
step_result functions shared step = step_among functions shared step

-- the greatest number of a tenant so far, after a taken step
abbrev pub newest_after : {A : Type 0} → ℕ → StepOf A → ℕ
newest_after newest (Admit number quota) = number
newest_after newest _ = newest

-- the core after a taken step, whose tenant has this state now, or is gone
abbrev pub shared_with : {A : Type 0} → CoreState → StepOf A → Option Tenant → CoreState
shared_with shared step tenant =
    record { totals = shared.totals; newest = newest_after shared.newest step; tenants = with_outcome (tenant_of step) tenant shared.tenants }

-- the core after a step; a refused one changes nothing
abbrev pub shared_after : {I A : Type 0} → CoreState → StepOf A → Result (Outcome I) Refusal → CoreState
shared_after shared step (Ok outcome) = shared_with shared step outcome.0
shared_after shared step (Err refusal) = shared

-- the core after a list of steps, where memory doesn't run out
abbrev pub shared_run : {I A : Type 0} → Functions I A → CoreState → List (StepOf A) → CoreState
shared_run functions shared [] = shared
shared_run functions shared (step ∷ steps) = shared_run functions (shared_after shared step (step_result functions shared step)) steps

-- how many segments all frames of all tenants take
abbrev pub charged_in : List (ℕ × Tenant) → ℕ
charged_in [] = 0
charged_in (entry ∷ entries) = charged_for entry.1.frames + charged_in entries

-- why a step among several tenants is refused, if memory doesn't run out; none where it is taken
abbrev pub shared_refusal : {I A : Type 0} → Functions I A → CoreState → StepOf A → Option Refusal
shared_refusal functions shared step = refusal_in (step_result functions shared step)
