-- A step that the core takes: what it comes to, and one change of its tenant after another.
use Rattle.sched_core.proofs.Common.{[], ◌≡◌, ℕ, ◌==◌, Bool, false, List, ◌∷◌, Option, Some, None, Result, Ok, Err, refl, arith, MatchResult, OnOk, OnErr, nat_tests, FrameId, State, Running, frame_at, Refusal, OutOfMemory, StepOf, Take, Steal, DidOf, Functions, Tenant, left, Outcome, unless, refusal_in, take_tests, steal_tests, taken_by, in_state, counted, on_tenant, CoreState, tenant_in, with_tenant, unless_busy, step_result, shared_refusal, shared_with, tenant_in-with_tenant, AllPass, TenantHasStepLeft, FollowsResult, IsAdmitted, F, ◌++◌, with_change}
use Rattle.sched_core.proofs.Deciding.{some-is}

abbrev Entries : Type 0
Entries = List (ℕ × Tenant)

-- a tenant that is there, changed
pub with_change-there : (n : ℕ) (f : Tenant → Tenant) (es : Entries) {t : Tenant} → tenant_in es n ≡ Some t → with_change n f es ≡ with_tenant n (f t) es
with_change-there n f [] is = absurd cc
with_change-there n f (e ∷ es) {t} is = grind (arith, with_change-there n f es, nat_tests)

-- a new tenant is the last
pub with_tenant-new : (n : ℕ) (t : Tenant) (es : Entries) → tenant_in es n ≡ None → with_tenant n t es ≡ es ++ (n, t) ∷ []
with_tenant-new n t [] none = refl
with_tenant-new n t (e ∷ es) none = grind (arith, with_tenant-new n t es, nat_tests)

-- a step that is refused, as it is judged
module _ {I A : Type 0} {functions : Functions I A} {before : CoreState} {step : StepOf A} {answer : Result (DidOf I) Refusal} {after : CoreState} where
  pub step_result-refused : {told refusal : Refusal} → answer ≡ Err told → told ≡ refusal → Some refusal ≡ shared_refusal functions before step →
      after ≡ before → FollowsResult functions before step answer after
  step_result-refused {told} {refusal} is same right stays = grind arith

  -- and one that is taken
  pub step_result-taken : {outcome : Outcome I} → step_result functions before step ≡ Ok outcome → answer ≡ Ok outcome.1 →
      after ≡ shared_with before step outcome.0 → FollowsResult functions before step answer after
  step_result-taken at is stays = grind arith

  -- an admission that isn't refused, as its memory was there or not
  pub step_result-admission : {M E Done : Type 0} {did : DidOf I} (taken : Result M E) → None ≡ shared_refusal functions before step →
      MatchResult taken (λ _. answer ≡ Ok did) (λ _. answer ≡ Err OutOfMemory) → OnOk taken Done → OnErr taken (after ≡ before) →
      (Done → FollowsResult functions before step (Ok did) after) → IsAdmitted functions before step answer after
  step_result-admission taken none told done stays step_result = grind arith

-- where it is taken no test of the list applies
pub all-pass : {I : Type 0} (busy : Bool) (tests : List (Bool × Refusal)) (effect : Outcome I) → refusal_in (unless_busy busy (unless tests effect)) ≡ None →
    (unless_busy busy (unless tests effect) ≡ Ok effect) × AllPass tests
all-pass busy [] effect none = grind arith
all-pass busy (test ∷ tests) effect none = grind (arith, all-pass busy tests effect)

-- a step that names a frame and is taken: the frame is there, no test applies, and this comes of it
pub record IsGoing {I A : Type 0} (functions : Functions I A) (shared : CoreState) (step : StepOf A) (name : FrameId)
    (tests : Tenant → F → List (Bool × Refusal)) (effect : Tenant → F → Outcome I) : Type 0 where
  pub tenant : Tenant
  pub frame : F
  pub owner : tenant_in shared.tenants name.tenant ≡ Some tenant
  pub found : frame_at tenant.frames name.serial ≡ Some frame
  pub passes : AllPass (tests tenant frame)
  pub among : step_result functions shared step ≡ Ok (effect tenant frame)

-- a core in which one tenant came to this, and nothing else changed
pub record IsWith (before : CoreState) (number : ℕ) (tenant : Tenant) (now : CoreState) : Type 0 where
  pub is : now ≡ record before { tenants = with_tenant number tenant before.tenants }
  pub there : tenant_in now.tenants number ≡ Some tenant

with_tenant-same : (n : ℕ) (t : Tenant) (es : List (ℕ × Tenant)) → tenant_in es n ≡ Some t → with_tenant n t es ≡ es
with_tenant-same n t [] is = absurd cc
with_tenant-same n t (e ∷ es) is = grind (arith, with_tenant-same n t es, nat_tests, some-is)

pub with_tenant-twice : (n : ℕ) (s t : Tenant) (es : List (ℕ × Tenant)) → with_tenant n t (with_tenant n s es) ≡ with_tenant n t es
with_tenant-twice n s t [] = grind arith
with_tenant-twice n s t (e ∷ es) = grind (arith, with_tenant-twice n s t es, nat_tests)

-- a tenant that is there
module _ (number : ℕ) {tenant : Tenant} where
  pub begins : (shared : CoreState) → tenant_in shared.tenants number ≡ Some tenant → IsWith shared number tenant shared
  begins shared owner = grind (arith, with_tenant-same)

-- and one more change
module _ {number : ℕ} {tenant : Tenant} where
  pub then-changed : {before now next : CoreState} (change : Tenant → Tenant) → IsWith before number tenant now → next ≡ on_tenant number change now →
      IsWith before number (change tenant) next
  then-changed {before} {now} change is at =
      let t = change tenant in
      let there = with_change-there number change now.tenants is.there in
      let tenants : with_tenant number t now.tenants ≡ with_tenant number t before.tenants = grind (arith, with_tenant-twice) in grind (arith, tenant_in-with_tenant)

-- and a worker that runs its frame, which is counted
module _ {before : CoreState} {number : ℕ} {tenant : Tenant} {now : CoreState} (is : IsWith before number tenant now) where
  pub then-run : (serial worker : ℕ) {next : CoreState} → next ≡ on_tenant number counted (on_tenant number (in_state serial (Running worker)) now) →
      IsWith before number (counted (in_state serial (Running worker) tenant)) next
  then-run serial worker ran = then-changed counted (then-changed (in_state serial (Running worker)) is refl) ran

  -- a step is left to it
  pub step-left : ((left tenant).steps == 0) ≡ false → TenantHasStepLeft now number
  step-left some = grind arith

-- and still is where a frame of it has another state
pub left-still : (shared : CoreState) (number serial : ℕ) (state : State) {next : CoreState} → TenantHasStepLeft shared number →
    next ≡ on_tenant number (in_state serial state) shared → TenantHasStepLeft next number
left-still shared number serial state {next} left is = grind (arith, by-owner)
  where
    by-owner : (owner : Option Tenant) → tenant_in shared.tenants number ≡ owner → TenantHasStepLeft next number
    by-owner None lost = absurd (rw lost at left)
    by-owner (Some tenant) owner =
        rw (then-changed (in_state serial state) (begins number shared owner) is).there (rw owner at left)

-- Take and Steal
module _ {I A : Type 0} (functions : Functions I A) (shared : CoreState) (worker : ℕ) (name : FrameId) where
  pub take-going : None ≡ shared_refusal functions shared (Take worker name) →
      IsGoing functions shared (Take worker name) name (λ tenant. take_tests tenant worker) (λ tenant. taken_by tenant worker)
  take-going none = grind arith

  pub steal-going : (from : ℕ) → None ≡ shared_refusal functions shared (Steal worker from name) →
      IsGoing functions shared (Steal worker from name) name (λ tenant. steal_tests tenant worker from) (λ tenant. taken_by tenant worker)
  steal-going from none = grind arith
