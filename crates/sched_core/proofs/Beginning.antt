-- The core does a Submit, an Admit or an AdmitMore: a job of a tenant begins, a tenant comes, or one reserves more.
use Rattle.sched_core.proofs.Common.{[], ◌≡◌, ℕ, ◌+◌, ◌<◌, true, false, List, ◌∷◌, Some, None, Ok, refl, arith, nat_tests, has_frame, below-found, found-there, ReserveOf, Job, Live, Admit, Submit, Admitted, Functions, Tenant, Tree, number_from, job_under, submitted, submit_tests, opened, on_tenant, AreNumbersGiven, CoreState, tenant_in, step_result, shared_refusal, tenant_in-new, above, IsShaped, AreLiveRootsThere, with_admitted, FollowsResult, AllPass, AdmitMore, AdmittedMore, raised, with_reserve, reservations_in, reserved_by, is_beyond, IsAboveOwn}
use Rattle.sched_core.proofs.TakenStep.{step_result-taken, IsWith, begins, then-changed, with_tenant-new}
use Rattle.sched_core.proofs.Deciding.{not-elsewhere}
use Rattle.sched_laws.proofs.FitSteps.{root-found}

-- Submit
pub record IsSubmitting {I A : Type 0} (functions : Functions I A) (shared : CoreState) (number : ℕ) (words : List ℕ) (size : ℕ) : Type 0 where
  pub tenant : Tenant
  pub owner : tenant_in shared.tenants number ≡ Some tenant
  pub passes : AllPass (submit_tests tenant words size)
  pub among : step_result functions shared (Submit number words size) ≡ Ok (submitted tenant number words size)

module _ {I A : Type 0} (functions : Functions I A) (shared : CoreState) (number : ℕ) (words : List ℕ) (size : ℕ)
    (none : None ≡ shared_refusal functions shared (Submit number words size)) where
  pub submit-going : IsSubmitting functions shared number words size
  submit-going = grind arith

  -- with its root open
  pub submit-opens : {after : CoreState} → after ≡ on_tenant number (opened None words size 0) shared →
      (t : IsSubmitting functions shared number words size) × IsWith shared number (opened None words size 0 t.tenant) after
  submit-opens is =
      let t = submit-going in (t, then-changed (opened None words size 0) (begins number shared t.owner) is)

-- under a serial that wasn't given no job lives
module _ (frames : Tree) (root : ℕ) (below : (serial : ℕ) → has_frame frames serial ≡ true → serial < root) where
  not-live : (jobs : List Job) (first : ℕ) → AreLiveRootsThere frames jobs → number_from first root jobs ≡ 0
  not-live [] first live = refl
  not-live (Live serial ∷ jobs) first live = grind (arith, not-live jobs (first + 1) live.1, root-found, found-there, nat_tests)
  not-live (job ∷ jobs) first live = not-live jobs (first + 1) live.1

pub fresh-root : (tenant : Tenant) → IsShaped tenant → job_under (tenant.serials + 1) tenant.jobs ≡ 0
fresh-root tenant shape = grind (arith, not-live, below-found)

-- Admit, taken
pub admit-taken : {I A : Type 0} {functions : Functions I A} {shared after : CoreState} {number : ℕ} {quota : ReserveOf} → AreNumbersGiven shared →
    None ≡ shared_refusal functions shared (Admit number quota) → after ≡ with_admitted number quota shared →
    FollowsResult functions shared (Admit number quota) (Ok Admitted) after
admit-taken {I = I} {shared} {number} {quota} known none is = grind (arith, not-elsewhere, tenant_in-new, above, step_result-taken, with_tenant-new)

-- AdmitMore: what is taken
pub record IsRaising {I A : Type 0} (functions : Functions I A) (shared : CoreState) (number : ℕ) (quota : ReserveOf) : Type 0 where
  pub tenant : Tenant
  pub owner : tenant_in shared.tenants number ≡ Some tenant
  pub above : IsAboveOwn (tenant_in shared.tenants number) quota
  pub room : is_beyond (reservations_in shared) (reserved_by (tenant_in shared.tenants number)) quota ≡ false
  pub among : step_result functions shared (AdmitMore number quota) ≡ Ok (raised tenant quota)

module _ {I A : Type 0} (functions : Functions I A) (shared : CoreState) (number : ℕ) (quota : ReserveOf) where
  pub raise-going : None ≡ shared_refusal functions shared (AdmitMore number quota) → IsRaising functions shared number quota
  raise-going none = grind arith

  pub raise-taken : {after : CoreState} → None ≡ shared_refusal functions shared (AdmitMore number quota) →
      after ≡ on_tenant number (with_reserve quota) shared → FollowsResult functions shared (AdmitMore number quota) (Ok AdmittedMore) after
  raise-taken {after} none is =
      let r = raise-going none in
      let w = then-changed (with_reserve quota) (begins number shared r.owner) is in grind arith
