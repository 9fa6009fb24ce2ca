-- The core does an inlet: a returned frame is taken in by its parent.
use Rattle.sched_core.proofs.Common.{[], ◌≡◌, if◌then◌else◌, ◌≢◌, ℕ, ◌<◌, ◌==◌, Bool, true, false, List, ◌∷◌, Some, None, Ok, refl, arith, ◌||◌, ◌&&◌, not, IsSome, eq-eqb, FrameId, State, Ready, frame_at, parent_of, goes_under, aborted, frames_without, IsTree, Each, tree-rising, found-each, found-serial, there-found, under-there, under-below, child-under-parent, aborted-itself, frame_at-other-without, BadAct, Busy, InletAct, Inlet, TakenIn, Functions, Tenant, Tree, words_in, is_outside, has_child, stored, unless, inlet_tests, taken_in, staying, aborted_beside, does_wait, is_waiting, holding, counted, in_state, on_tenant, named, CoreState, tenant_in, step_result, AreShaped, shaped-in, returned-leaf, is_busy_among, AreTenantsRising, words_under, frames_in_core, TenantHasStepLeft, Seen, MayBeTakenIn, IsReturnedUnder, FollowsResult, staying_with, AllPass, F}
use Rattle.sched_core.proofs.Parents.{parent-of, inlet-told}
use Rattle.sched_core.proofs.TakenStep.{all-pass, IsWith, begins, then-changed, step-left}
use Rattle.sched_core.proofs.Acting.{held-at}

-- an inlet that may be done: no test applies, and this comes of it
pub record IsTakingIn {I A : Type 0} (functions : Functions I A) (shared : CoreState) (worker : ℕ) (name above : FrameId) (tenant : Tenant)
    (frame : F) (act : InletAct) : Type 0 where
  pub parent : ℕ
  pub is : above ≡ record { tenant = name.tenant; serial = parent }
  pub owner : tenant_in shared.tenants name.tenant ≡ Some tenant
  pub found : frame_at tenant.frames name.serial ≡ Some frame
  pub path : parent_of frame.path ≡ Some parent
  pub passes : AllPass (inlet_tests tenant worker frame parent act)
  pub among : step_result functions shared (Inlet worker name) ≡ Ok (taken_in tenant worker name parent act)

module _ {I A : Type 0} (functions : Functions I A) {shared : CoreState} {worker : ℕ} {name above : FrameId} {tenant : Tenant} {frame : F}
    {act : InletAct} (does : act ≡ functions.inlet (words_under shared above) (words_under shared name)) where
  pub takes-in : {seen : Seen} → IsReturnedUnder shared name above tenant frame seen → AreTenantsRising shared.tenants →
      Ok (tt {0}) ≡ unless ((is_outside act.stores (words_under shared above), BadAct) ∷ (is_busy_among worker shared.tenants, Busy) ∷ []) (tt {0}) →
      IsTakingIn functions shared worker name above tenant frame act
  takes-in {seen} is rising told = let none = inlet-told functions worker rising is does told in
      let p = parent-of is.seen_so is.above in grind (arith, all-pass)

-- it may be taken in
pub may-be-taken-in : {I A : Type 0} {functions : Functions I A} {shared : CoreState} {worker : ℕ} {name above : FrameId} {tenant : Tenant}
    {frame : F} {act : InletAct} → IsTakingIn functions shared worker name above tenant frame act → AreShaped shared.tenants →
    MayBeTakenIn shared name above tenant frame
may-be-taken-in {shared = shared} {name = name} {tenant = tenant} {frame = frame} t shaped = grind (arith, shaped-in, returned-leaf)

-- the parent stays
other : (p c : ℕ) → p < c → c ≢ p
other p c low is = omega (arith, low, is)

module _ (frames : List F) (child parent : ℕ) (frame : F) (tree : IsTree frames) (found : frame_at frames child ≡ Some frame)
    (path : parent_of frame.path ≡ Some parent) where
  pub parent-found : (above : F) × (frame_at frames parent ≡ Some above)
  parent-found = there-found frames parent (under-there frames child parent frame tree found path)

  pub stays-beside : (above : F) → frame_at frames parent ≡ Some above → frame_at (frames_without child frames) parent ≡ Some above
  stays-beside above at = grind (arith, frame_at-other-without, under-below)

  pub parent-stays : (abort : Bool) (above : F) → frame_at frames parent ≡ Some above →
      frame_at (staying frames child parent abort) parent ≡ Some above
  parent-stays abort above at = grind (arith, aborted-itself, stays-beside)

-- the child is taken out, and the parent stays
pub record IsTakenOut {I A : Type 0} (functions : Functions I A) (shared : CoreState) (worker : ℕ) (name above : FrameId) (tenant : Tenant)
    (frame : F) (act : InletAct) (now : CoreState) : Type 0 where
  pub takes : IsTakingIn functions shared worker name above tenant frame act
  pub changed : IsWith shared name.tenant (staying_with name.serial takes.parent act.abort tenant) now
  pub parent : F
  pub found : frame_at tenant.frames takes.parent ≡ Some parent
  pub stays : frame_at (staying tenant.frames name.serial takes.parent act.abort) takes.parent ≡ Some parent

pub takes-out : {I A : Type 0} {functions : Functions I A} {shared : CoreState} {worker : ℕ} {name above : FrameId} {tenant : Tenant} {frame : F}
    {seen : Seen} {act : InletAct} {now : CoreState} → AreShaped shared.tenants → IsReturnedUnder shared name above tenant frame seen →
    AreTenantsRising shared.tenants → act ≡ functions.inlet (words_under shared above) (words_under shared name) →
    Ok (tt {0}) ≡ unless ((is_outside act.stores (words_under shared above), BadAct) ∷ (is_busy_among worker shared.tenants, Busy) ∷ []) (tt {0}) →
    now ≡ on_tenant name.tenant (staying_with name.serial above.serial act.abort) shared → IsTakenOut functions shared worker name above tenant frame act now
takes-out {functions} {shared} {name} {tenant} {frame} {act} {now} shaped is rising same told outs =
    let t = takes-in functions same is rising told in
    let tree = (shaped-in name.tenant shared.tenants tenant shaped t.owner).tree in
    let out : now ≡ on_tenant name.tenant (staying_with name.serial t.parent act.abort) shared = rw t.is at outs in
    let parent = parent-found tenant.frames name.serial t.parent frame tree t.found t.path in
    record {
      takes = t;
      changed = then-changed (staying_with name.serial t.parent act.abort) (begins name.tenant shared t.owner) out;
      parent = parent.0;
      found = parent.1;
      stays = grind (arith, parent-stays);
    }

-- an abort removes the child too
abbrev IsBelow : ℕ → ℕ → F → Type 0
IsBelow parent child frame = (frame.serial == child) ≡ true → goes_under parent frame.path ≡ true

module _ (parent child : ℕ) where
  dropped : (frames : List F) → Each (IsBelow parent child) frames → aborted parent (frames_without child frames) ≡ aborted parent frames
  dropped [] each = refl
  dropped (frame ∷ frames) each = grind (arith, other, dropped frames each.1)

  pub aborts-child : (frames : List F) (frame : F) → IsTree frames → frame_at frames child ≡ Some frame →
      parent_of frame.path ≡ Some parent → aborted parent (frames_without child frames) ≡ aborted parent frames
  aborts-child frames frame tree found path = grind (arith, dropped, found-each, tree-rising, found-serial, eq-eqb, child-under-parent)

-- after that the parent's words are stored, the step is counted, and the parent is woken or not
module _ {I A : Type 0} {functions : Functions I A} {shared : CoreState} {worker : ℕ} {name above : FrameId} {tenant : Tenant} {frame : F}
    {act : InletAct} {out : CoreState} (o : IsTakenOut functions shared worker name above tenant frame act out) where
  -- the frames that stay
  abbrev frames : Tree
  frames = staying tenant.frames name.serial o.takes.parent act.abort

  -- the parent's words with the stores
  abbrev words : List ℕ
  words = stored act.stores (words_in frames o.takes.parent)

  -- the parent is still there
  pub still-there : IsSome (named out above)
  still-there = grind arith

  -- and no store is outside it
  pub still-inside : is_outside act.stores (words_under out above) ≡ false
  still-inside = grind arith

  module _ {next : CoreState} (stores : next ≡ on_tenant above.tenant (holding above.serial (stored act.stores (words_under out above))) out) where
    -- the tenant with the stores
    stored-is : IsWith shared name.tenant (holding o.takes.parent words (record tenant { frames = frames })) next
    stored-is = then-changed (holding o.takes.parent words) o.changed (rw (o.takes.is, o.changed.there) at stores)

    -- a step is left to it
    pub stored-left : TenantHasStepLeft next name.tenant
    stored-left = step-left stored-is o.takes.passes.1.0

    module _ {now : CoreState} (counts : now ≡ on_tenant name.tenant counted next) where
      -- and with the step counted
      counted-is : IsWith shared name.tenant (counted (holding o.takes.parent words (record tenant { frames = frames }))) now
      counted-is = then-changed counted stored-is counts

      -- the parent is still there
      pub counted-there : IsSome (named now above)
      counted-there = rw (o.takes.is, counted-is.there, held-at o.takes.parent words (record tenant { frames = frames }) o.stays) refl

      -- what is answered and left, by whether the parent is woken
      by-waking : (woken : Bool) {gone : ℕ} {after : CoreState} →
          (does_wait (frame_at frames o.takes.parent) && (act.abort || act.wake || not (has_child frames o.takes.parent))) ≡ woken →
          gone ≡ aborted_beside tenant.frames name.serial o.takes.parent act.abort →
          after ≡ (if woken then on_tenant above.tenant (in_state above.serial (Ready worker)) now else now) →
          FollowsResult functions shared (Inlet worker name) (Ok (TakenIn (if woken then Some above else None) gone)) after
      by-waking false wakes gone stays = grind (arith, counted-is)
      by-waking true wakes gone stays =
          let ready = then-changed (in_state o.takes.parent (Ready worker)) counted-is (rw o.takes.is at stays) in grind arith

      -- a parent that waited is woken where the inlet says it, or no child is left
      pub step_result-inlet : (woken : Bool) {state : State} {waits : Bool} {gone : ℕ} {after : CoreState} →
          ((parent : F) → named shared above ≡ Some parent → state ≡ parent.state) → waits ≡ is_waiting state →
          ((before : Tenant) → tenant_in shared.tenants name.tenant ≡ Some before → gone ≡ aborted_beside before.frames name.serial above.serial act.abort) →
          (waits && (act.abort || act.wake || not (has_child (frames_in_core out above.tenant) above.serial))) ≡ woken →
          after ≡ (if woken then on_tenant above.tenant (in_state above.serial (Ready worker)) now else now) →
          FollowsResult functions shared (Inlet worker name) (Ok (TakenIn (if woken then Some above else None) gone)) after
      step_result-inlet woken {waits = waits} seen waiting aborts wakes = grind (arith, by-waking)
