-- A job of the core ends with all its frames (Finish, Spend, Cancel): its root is there, and the step comes to its
-- result.
use Rattle.sched_core.proofs.Common.{[], ◌≡◌, ℕ, false, ◌∷◌, Some, None, Ok, refl, arith, IsSome, not, FrameId, frame_at, root_of, IsTree, aborted-leaf, Live, Cancelled as CancelledJob, NotSpent, Finish, Spend, Cancel, Functions, Tenant, has_child, job_at, ended, spent, finished, finish_tests, is_spendable, on_tenant, without_under, named, job_of, CoreState, tenant_in, step_result, shared_refusal, AreShaped, shaped-in, live-root, root-above, frames_in_core, words_under, F}
use Rattle.sched_rules.specs.declared.step.DidOf.TheVariants.{Cancelled}
use Rattle.sched_core.proofs.TakenStep.{IsWith, IsGoing, with_change-there}
use Rattle.sched_laws.proofs.FitSteps.{root-found}

-- the tenant and the frame of a name
pub record IsNamed (shared : CoreState) (name : FrameId) : Type 0 where
  pub tenant : Tenant
  pub frame : F
  pub owner : tenant_in shared.tenants name.tenant ≡ Some tenant
  pub found : frame_at tenant.frames name.serial ≡ Some frame

pub named-there : {shared : CoreState} {name : FrameId} → IsSome (named shared name) → IsNamed shared name
named-there {shared} {name} some = grind arith

-- a frame of the tenant as it is now
module _ (name : FrameId) (tenant : Tenant) {frame : F} (found : frame_at tenant.frames name.serial ≡ Some frame) where
  pub with-named : {before now : CoreState} → IsWith before name.tenant tenant now → IsSome (named now name)
  with-named is = grind arith

-- the tenant is there
module _ {before now : CoreState} {number : ℕ} (tenant : Tenant) where
  pub with-there : IsWith before number tenant now → IsSome (tenant_in now.tenants number)
  with-there is = let there = is.there in rw there refl

  -- one change of the tenant
  pub as-change : (change : Tenant → Tenant) → tenant_in before.tenants number ≡ Some tenant → IsWith before number (change tenant) now →
      now ≡ on_tenant number change before
  as-change change owner is = grind (arith, with_change-there)

  -- after an abort a frame has no child
  pub aborted-childless : (serial : ℕ) → IsTree tenant.frames → IsWith before number (without_under serial tenant) now →
      has_child (frames_in_core now number) serial ≡ false
  aborted-childless serial tree is = grind (arith, aborted-leaf)

-- Cancel: the live job
pub record IsLive {I A : Type 0} (functions : Functions I A) (shared : CoreState) (number job root : ℕ) : Type 0 where
  pub tenant : Tenant
  pub owner : tenant_in shared.tenants number ≡ Some tenant
  pub job_is : job_at tenant.jobs job ≡ Some (Live root)
  pub among : step_result functions shared (Cancel number job) ≡ Ok (Some (ended root CancelledJob tenant), Cancelled)

module _ (shared : CoreState) (number job root : ℕ) where
  pub cancel-going : {I A : Type 0} (functions : Functions I A) → job_of shared number job ≡ Some (Live root) → IsLive functions shared number job root
  cancel-going functions is = grind arith

  -- its root is there
  pub cancel-root : (tenant : Tenant) → AreShaped shared.tenants → tenant_in shared.tenants number ≡ Some tenant → job_at tenant.jobs job ≡ Some (Live root) →
      IsSome (named shared (record { tenant = number; serial = root }))
  cancel-root tenant shaped owner is =
      let found = root-found tenant.frames root (live-root tenant job root (shaped-in number shared.tenants tenant shaped owner) is) in grind arith

-- Finish and Spend
module _ {I A : Type 0} (functions : Functions I A) (shared : CoreState) (name : FrameId) where
  pub finish-going : (worker : ℕ) → None ≡ shared_refusal functions shared (Finish worker name) →
      IsGoing functions shared (Finish worker name) name (λ tenant. finish_tests tenant worker) finished
  finish-going worker none = grind arith

  pub spend-going : None ≡ shared_refusal functions shared (Spend name) →
      IsGoing functions shared (Spend name) name (λ tenant frame. (not (is_spendable functions tenant frame), NotSpent) ∷ []) spent
  spend-going none = grind arith

-- the root above a frame is there
module _ (shared : CoreState) (name : FrameId) {tenant : Tenant} {frame : F} (owner : tenant_in shared.tenants name.tenant ≡ Some tenant)
    (found : frame_at tenant.frames name.serial ≡ Some frame) where
  pub spend-root : AreShaped shared.tenants → IsSome (named shared (record { tenant = name.tenant; serial = root_of frame.path }))
  spend-root shaped =
      let shape = shaped-in name.tenant shared.tenants tenant shaped owner in
      let root = root-found tenant.frames (root_of frame.path) (root-above tenant name.serial frame shape found) in grind arith

  -- the words of a frame
  pub named-words : words_under shared name ≡ frame.value
  named-words = grind arith
