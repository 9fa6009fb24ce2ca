-- What the shape of a tenant (its tree, jobs and reservation, as every step keeps them) gives: a live job's root is
-- there, each frame is under one, nothing is used beyond the reservation; and that jobs which have ended stay so.
use Rattle.sched_laws.proofs.Common.{◌≡◌, ℕ, ◌+◌, ◌-◌, ◌≤◌, true, List, [], ◌∷◌, Some, length, arith, Bool, false, Option, None, Result, Ok, ◌++◌, cases_Bool, IsWithinLimits, ReserveOf, IsWithinReserve, Computing, Returned, frame_at, path_in, root_of, children_of, root-there, Job, Live, Cancelled as CancelledJob, Tree, Tenant, account_in, charged_for, is_root, job_at, is_live_at, number_from, job_under, with_ended, IsShaped, live_count, AreLiveRootsThere, HaveWords, AreShaped, Refusal, DidOf, StepOf, Admit, AdmitMore, admit_tests, admitted_with, refl, Functions, Outcome, lone, lone_step, tenant_of, CoreState, tenant_in, with_tenant, without_tenant, with_outcome, unless_busy, unless_beyond, is_beyond, reservations_in, step_result, shared_after, after_answer, after_answers, HasEnded, KeepsEnded}
use Rattle.sched_laws.proofs.Parts.{shape-at}
use Rattle.sched_laws.proofs.Shaped.{AllPass, returned-childless, LeftShaped, unless-passed, step-shaped, admitted-shaped, came, by-kinds}
use Rattle.sched_laws.proofs.Holds.{F, charged-cons}

-- a frame that has returned or computes has no child
module _ (tenant : Tenant) (s : ℕ) (f : F) (shape : IsShaped tenant) where
  pub returned-leaf : frame_at tenant.frames s ≡ Some f → f.state ≡ Returned → children_of tenant.frames s ≡ []
  returned-leaf at is = returned-childless tenant s f shape at (λ e. grind arith)

  pub computing-leaf : (worker : ℕ) → frame_at tenant.frames s ≡ Some f → f.state ≡ Computing worker → children_of tenant.frames s ≡ []
  computing-leaf worker at is = returned-childless tenant s f shape at (λ e. grind arith)

-- the root of a live job is there
job-there : (tree : Tree) (jobs : List Job) (number root : ℕ) → AreLiveRootsThere tree jobs → job_at jobs number ≡ Some (Live root) →
    path_in tree root ≡ root ∷ []
job-there tree [] number root live is = absurd cc
job-there tree (job ∷ jobs) number root live is = grind (arith, job-there tree jobs (number - 1) root)

pub live-root : (tenant : Tenant) (number root : ℕ) → IsShaped tenant → job_at tenant.jobs number ≡ Some (Live root) → path_in tenant.frames root ≡ root ∷ []
live-root tenant number root shape is = job-there tenant.frames tenant.jobs number root shape.live is

-- the job that lives under a root is found
is-live : (root : ℕ) (job : Job) → is_live_at root job ≡ true → job ≡ Live root
is-live root job h3 = grind arith

job-from : (first root : ℕ) (jobs : List Job) → 1 ≤ live_count root jobs →
    (first ≤ number_from first root jobs) × (job_at jobs (number_from first root jobs + 1 - first) ≡ Some (Live root))
job-from first root [] some = absurd (omega arith)
job-from first root (job ∷ jobs) some = grind (arith, job-from (first + 1) root jobs, is-live)

-- the job of a root frame lives
module _ (tenant : Tenant) (s : ℕ) (f : F) (shape : IsShaped tenant) (at : frame_at tenant.frames s ≡ Some f) where
  pub root-live : is_root f.path ≡ true → job_at tenant.jobs (job_under s tenant.jobs) ≡ Some (Live s)
  root-live root =
      let one = (shape-at shape s f at).root root in
      let same : job_under s tenant.jobs + 1 - 1 ≡ job_under s tenant.jobs = omega arith in
      rw same at (job-from 1 s tenant.jobs (omega arith)).1

  -- the root above any frame
  pub root-above : path_in tenant.frames (root_of f.path) ≡ root_of f.path ∷ []
  root-above = root-there tenant.frames s f shape.tree at

-- nothing is used beyond what is reserved
pub within-reserve : (tenant : Tenant) → IsWithinLimits tenant.reserve → IsShaped tenant → IsWithinReserve (account_in tenant)
within-reserve tenant limits shape = grind arith

-- each frame charges a segment at least
frames-charged : (xs : Tree) → HaveWords xs → length xs ≤ charged_for xs
frames-charged [] words = omega arith
frames-charged (x ∷ xs) words = grind (arith, frames-charged xs, charged-cons)

pub few-frames : (tenant : Tenant) → IsShaped tenant → length tenant.frames ≤ tenant.reserve.segments
few-frames tenant shape = grind (arith, frames-charged)

-- all that the shape gives
pub ruleset given_by_shape = (returned-leaf, computing-leaf, live-root, root-live, root-above, within-reserve, few-frames)

-- Whatever a step is answered, each tenant has its shape after it.

abbrev Entries : Type 0
Entries = List (ℕ × Tenant)

pub shaped-in : (n : ℕ) (es : Entries) (t : Tenant) → AreShaped es → tenant_in es n ≡ Some t → IsShaped t
shaped-in n [] t all is = absurd cc
shaped-in n (e ∷ es) t all is = grind (arith, shaped-in n es t)

with-shaped : (n : ℕ) (t : Tenant) (es : Entries) → IsShaped t → AreShaped es → AreShaped (with_tenant n t es)
with-shaped n t [] s all = (s, tt)
with-shaped n t (e ∷ es) s all = grind (arith, with-shaped n t es s)

without-shaped : (n : ℕ) (es : Entries) → AreShaped es → AreShaped (without_tenant n es)
without-shaped n [] all = tt
without-shaped n (e ∷ es) all = grind (arith, without-shaped n es)

outcome-shaped : (n : ℕ) (t : Option Tenant) (es : Entries) → LeftShaped t → AreShaped es → AreShaped (with_outcome n t es)
outcome-shaped n t es s all = grind (arith, without-shaped, with-shaped)

-- a tenant that has the core to itself
pub lone-shaped : {I A : Type 0} (functions : Functions I A) (own : Option Tenant) (step : StepOf A) (outcome : Outcome I) →
    lone functions own step ≡ Ok outcome → LeftShaped own → LeftShaped outcome.0
lone-shaped functions (Some tenant) step outcome is s = step-shaped functions tenant step outcome is s
lone-shaped {I} functions None (Admit number quota) outcome is s = grind (arith, came, admitted-shaped)
lone-shaped functions None _ outcome is s = grind arith

-- a step among several tenants
module _ {I : Type 0} (alone : Result (Outcome I) Refusal) (outcome : Outcome I) where
  not-busy : (busy : Bool) → unless_busy busy alone ≡ Ok outcome → alone ≡ Ok outcome
  not-busy busy is = grind arith

  -- so is an admission of more, where the totals allow it
  not-beyond : (beyond : Bool) → unless_beyond beyond alone ≡ Ok outcome → (beyond ≡ false) × (alone ≡ Ok outcome)
  not-beyond beyond is = grind arith

-- where an admission of more is taken, the totals allow it
abbrev IsAllowed : {A : Type 0} → CoreState → StepOf A → Tenant → Type 0
IsAllowed before step tenant = (number : ℕ) (quota : ReserveOf) → step ≡ AdmitMore number quota → is_beyond (reservations_in before) tenant.reserve quota ≡ false

-- P holds of what a step among several tenants leaves: of a new tenant, and of what one that is there comes to alone
pub record HoldsOfTaken {I A : Type 0} (functions : Functions I A) (before : CoreState) (step : StepOf A) (P : Option Tenant → Type 0) : Type 0 where
  pub at_admit : (number : ℕ) (quota : ReserveOf) → step ≡ Admit number quota → AllPass (admit_tests before number quota) → P (Some (admitted_with quota))
  pub at_step : (tenant : Tenant) (outcome : Outcome I) → tenant_in before.tenants (tenant_of step) ≡ Some tenant →
      lone_step functions tenant step ≡ Ok outcome → IsAllowed before step tenant → P outcome.0

-- so it holds of what a taken step leaves
module _ {I A : Type 0} (functions : Functions I A) (before : CoreState) where
  pub by-taken : (step : StepOf A) (outcome : Outcome I) (P : Option Tenant → Type 0) → step_result functions before step ≡ Ok outcome →
      HoldsOfTaken functions before step P → P outcome.0
  by-taken (Admit number quota) outcome P is each = grind (arith, unless-passed, came)
  by-taken step outcome P is each = own (tenant_in before.tenants (tenant_of step)) refl
    where
      own : (found : Option Tenant) → tenant_in before.tenants (tenant_of step) ≡ found → P outcome.0
      own None at = absurd (grind (arith, not-busy, not-beyond))
      own (Some tenant) at = each.at_step tenant outcome at (grind (arith, not-busy, not-beyond)) (λ n q same. grind (arith, not-beyond))

  step_result-shaped : (step : StepOf A) (outcome : Outcome I) → AreShaped before.tenants → step_result functions before step ≡ Ok outcome → LeftShaped outcome.0
  step_result-shaped step outcome all is = by-taken step outcome LeftShaped is (record {
    at_admit = λ number quota admits passed. admitted-shaped quota;
    at_step = λ tenant o at taken allowed. step-shaped functions tenant step o taken (shaped-in (tenant_of step) before.tenants tenant all at);
  })

-- all tenants stay shaped, whatever a step is answered, and over a list of answers
module _ {I A : Type 0} (functions : Functions I A) where
  after-shaped : (before : CoreState) (step : StepOf A) (came_to : Result (Outcome I) Refusal) → step_result functions before step ≡ came_to →
      AreShaped before.tenants → AreShaped (shared_after before step came_to).tenants
  after-shaped before step came_to is all = grind (arith, outcome-shaped, step_result-shaped)

  pub shaped_answer : (before : CoreState) (step : StepOf A) (answer : Result (DidOf I) Refusal) → AreShaped before.tenants →
      AreShaped (after_answer functions before step answer).tenants
  shaped_answer before step answer all = grind (arith, after-shaped)

  pub shaped_answers : (before : CoreState) (steps : List (StepOf A)) (answers : List (Result (DidOf I) Refusal)) → AreShaped before.tenants →
      AreShaped (after_answers functions before steps answers).tenants
  shaped_answers before (step ∷ steps) (answer ∷ answers) all =
      shaped_answers (after_answer functions before step answer) steps answers (shaped_answer before step answer all)
  shaped_answers before steps answers all = grind arith

-- A job that has ended stays as it is, whatever its tenant does but leave.

-- one more job changes none
at-append : (jobs : List Job) (more : Job) (number : ℕ) (job : Job) → job_at jobs number ≡ Some job → job_at (jobs ++ more ∷ []) number ≡ Some job
at-append [] more number job at = absurd cc
at-append (x ∷ xs) more number job at = grind (arith, at-append xs more)

-- nor does one that ends
module _ (root : ℕ) (job : Job) (has : HasEnded job) where
  not-live : is_live_at root job ≡ false
  not-live = grind arith

  at-ended : (end : Job) (jobs : List Job) (number : ℕ) → job_at jobs number ≡ Some job → job_at (with_ended root end jobs) number ≡ Some job
  at-ended end [] number at = absurd cc
  at-ended end (x ∷ xs) number at = grind (arith, at-ended end xs, cases_Bool, not-live)

pub step-ended : {I A : Type 0} (functions : Functions I A) (tenant : Tenant) (step : StepOf A) (outcome : Outcome I) →
    lone_step functions tenant step ≡ Ok outcome → KeepsEnded tenant.jobs outcome.0
step-ended functions tenant step outcome is = by-kinds functions tenant step outcome (KeepsEnded tenant.jobs) is (record {
  at_raise = λ number quota raises k job has at. at;
  at_submit = λ serials root frames k job has at. at-append tenant.jobs _ k job at;
  at_work = λ serials frames k job has at. at;
  at_finish = λ root words k job has at. at-ended root job has _ tenant.jobs k at;
  at_spend = λ serial f found k job has at. at-ended (root_of f.path) job has _ tenant.jobs k at;
  at_cancel = λ number root found k job has at. at-ended root job has CancelledJob tenant.jobs k at;
  at_leave = λ number leaves. tt;
})

-- ended jobs stay
pub ruleset ended_stay = (step-ended)
