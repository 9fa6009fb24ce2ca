-- The core does an act of a running frame: its stores, and then what comes after them.
use Rattle.sched_core.proofs.Common.{[], ◌≡◌, ℕ, Bool, false, List, ◌∷◌, Option, Some, Ok, arith, IsSome, nat_tests, FrameId, frame_at, tree-rising, found-serial, Act, Continuation, Advance, DidOf, Functions, Tenant, stored, with_frame_words, charged_for, is_outside, is_root, holding, counted, segments_for, then_done, on_tenant, named, CoreState, with_tenant, without_tenant, with_outcome, IsShaped, AreShaped, shaped-in, length-stored, children_of-with_frame_words, length-with_frame_words, charged-with_frame_words, TenantHasStepLeft, words_under, GoesOn, FollowsResult, IsCome, F}
use Rattle.std.specs.Prelude.{length}
use Rattle.sched_core.proofs.TakenStep.{IsWith, with_tenant-twice, begins, then-changed}
use Rattle.sched_core.proofs.Acting.{IsSetOut, held-at}

module _ (n : ℕ) (t : Tenant) where
  without-with : (es : List (ℕ × Tenant)) → without_tenant n (with_tenant n t es) ≡ without_tenant n es
  without-with [] = grind arith
  without-with (e ∷ es) = grind (arith, without-with es, nat_tests)

  outcome-with : (outcome : Option Tenant) (es : List (ℕ × Tenant)) → with_outcome n outcome (with_tenant n t es) ≡ with_outcome n outcome es
  outcome-with outcome es = grind (arith, without-with, with_tenant-twice)

segments-as : (frame : F) (words : List ℕ) (after : Continuation) → length words ≡ length frame.value →
    segments_for (record frame { value = words }) after ≡ segments_for frame after
segments-as frame words after same = grind arith

module _ (serial : ℕ) (words : List ℕ) {tenant : Tenant} (shape : IsShaped tenant) where
  charged-as : (frame : F) → frame_at tenant.frames serial ≡ Some frame → length words ≡ length frame.value →
      charged_for (with_frame_words serial words tenant.frames) ≡ charged_for tenant.frames
  charged-as frame found same =
      let sum = charged-with_frame_words serial words tenant.frames frame (tree-rising tenant.frames shape.tree) found in omega arith

-- an act that may be done: the step is counted, and then the stores are done
module _ {I A : Type 0} {functions : Functions I A} {shared : CoreState} {worker : ℕ} {name : FrameId} {tenant : Tenant} {frame : F} {act : Act}
    (t : IsSetOut functions shared worker name tenant frame act) where
  -- a step is left to it
  pub has-step-left : TenantHasStepLeft shared name.tenant
  has-step-left = grind (arith, begins)

  module _ {now : CoreState} (is : now ≡ on_tenant name.tenant counted shared) where
    -- the tenant with the step counted
    counted-is : IsWith shared name.tenant (counted tenant) now
    counted-is = then-changed counted (begins name.tenant shared t.owner) is

    -- its frame has the same words after the count
    own-words : words_under now name ≡ frame.value
    own-words = grind (arith, counted-is)

    -- and is still there
    pub counted-there : IsSome (named now name)
    counted-there = grind (arith, counted-is)

    -- no store is outside it
    pub counted-inside : is_outside act.stores (words_under now name) ≡ false
    counted-inside = grind (arith, own-words)

    module _ {next : CoreState} (stores : next ≡ on_tenant name.tenant (holding name.serial (stored act.stores (words_under now name))) now)
        (shaped : AreShaped shared.tenants) where
      -- and with the stores
      stored-is : IsWith shared name.tenant (counted (holding name.serial (stored act.stores frame.value) tenant)) next
      stored-is = then-changed (holding name.serial (stored act.stores frame.value)) counted-is (rw own-words at stores)

      -- after the stores the frame goes on
      pub goes-on : GoesOn next name worker act.after (counted (holding name.serial (stored act.stores frame.value) tenant))
          (record frame { value = stored act.stores frame.value })
      goes-on = grind (arith, shaped-in, length-stored, stored-is, held-at, found-serial, segments-as, charged-as, children_of-with_frame_words, length-with_frame_words)

      -- where what comes after the stores had its outcome (IsCome), the Advance is answered as step_result says
      pub step_result-advance : {root : Bool} {did : DidOf I} {after : CoreState} → root ≡ is_root frame.path →
          ((before : Tenant) (going : F) → GoesOn next name worker act.after before going → root ≡ is_root going.path →
          IsCome name.tenant (then_done functions before worker name going act.after) next did after) →
          FollowsResult functions shared (Advance worker name) (Ok did) after
      step_result-advance root came =
          let come = came _ _ goes-on root in
          let among = rw (found-serial tenant.frames name.serial frame t.found) at t.among in grind (arith, stored-is, outcome-with)
