-- The parent of a frame that the core has looked up.
use Rattle.sched_core.proofs.Common.{[], ◌≡◌, ℕ, ◌∷◌, Option, Some, None, Result, refl, sym, ◌∙◌, arith, IsSome, not, FrameId, frame_at, name_of, parent_of, there-found, under-there, Refusal, NotReturned, NoSteps, BadAct, Busy, InletAct, Inlet, Functions, Tenant, words_in, is_outside, left, unless, refusal_in, is_returned, named, CoreState, shared_refusal, Seen, is_busy_among, AreTenantsRising, words_under, IsSeen, IsReturnedUnder, F}
use Rattle.std.specs.Prelude.{◌==◌}
use Rattle.sched_core.proofs.Deciding.{busy-among}

-- the parent that is named
pub record IsParent (shared : CoreState) (name : FrameId) (tenant : Tenant) (frame : F) (above : FrameId) : Type 0 where
  pub serial : ℕ
  pub path : parent_of frame.path ≡ Some serial
  pub is : above ≡ record { tenant = name.tenant; serial = serial }
  pub parent : F
  pub found : frame_at tenant.frames serial ≡ Some parent

parent-named : (number : ℕ) (parent : Option ℕ) (above : FrameId) → name_of number parent ≡ Some above →
    (serial : ℕ) × (parent ≡ Some serial) × (above ≡ record { tenant = number; serial = serial })
parent-named number None above is = absurd cc
parent-named number (Some serial) above is = (serial, refl, cc)

module _ {shared : CoreState} {name : FrameId} {tenant : Tenant} {frame : F} {seen : Seen} {above : FrameId} where
  pub parent-of : IsSeen shared name tenant frame seen → seen.parent ≡ Some above → IsParent shared name tenant frame above
  parent-of is at =
      let p = parent-named name.tenant (parent_of frame.path) above (sym is.parent ∙ at) in
      let there = there-found tenant.frames p.0 (under-there tenant.frames name.serial p.0 frame is.tree is.found p.1) in grind arith

  -- it is there
  pub parent-there : IsSeen shared name tenant frame seen → seen.parent ≡ Some above → IsSome (named shared above)
  parent-there is at = grind (arith, parent-of)

  -- with these words
  pub parent-words : (is : IsSeen shared name tenant frame seen) (p : IsParent shared name tenant frame above) →
      words_under shared above ≡ words_in tenant.frames p.serial
  parent-words is p = rw (p.is, is.owner) refl

-- Inlet of a frame under this parent, by its tests
module _ {I A : Type 0} (functions : Functions I A) {shared : CoreState} (worker : ℕ) {name : FrameId} {tenant : Tenant} {frame : F} {seen : Seen}
    (above : FrameId) (act : InletAct) (is : IsSeen shared name tenant frame seen) (rising : AreTenantsRising shared.tenants) where
  inlet-under : (parent : ℕ) → parent_of frame.path ≡ Some parent → words_under shared above ≡ words_in tenant.frames parent →
      act ≡ functions.inlet (words_under shared above) (words_under shared name) →
      refusal_in (unless ((not (is_returned seen.state), NotReturned) ∷ (seen.left.steps == 0, NoSteps)
      ∷ (is_outside act.stores (words_under shared above), BadAct) ∷ (is_busy_among worker shared.tenants, Busy) ∷ []) (tt {0}))
      ≡ shared_refusal functions shared (Inlet worker name)
  inlet-under parent path words same = grind (arith, busy-among worker name.tenant shared.tenants tenant rising is.owner)

-- Inlet, where the frame has returned and a step is left, by the tests of the inlet
module _ {I A : Type 0} (functions : Functions I A) {shared : CoreState} (worker : ℕ) {name : FrameId} {tenant : Tenant} {frame : F} {seen : Seen}
    {above : FrameId} {act : InletAct} {answer : Result (Unit {0}) Refusal} (rising : AreTenantsRising shared.tenants) where
  pub inlet-told : IsReturnedUnder shared name above tenant frame seen → act ≡ functions.inlet (words_under shared above) (words_under shared name) →
      answer ≡ unless ((is_outside act.stores (words_under shared above), BadAct) ∷ (is_busy_among worker shared.tenants, Busy) ∷ []) (tt {0}) →
      refusal_in answer ≡ shared_refusal functions shared (Inlet worker name)
  inlet-told is same told = grind (arith, parent-of, inlet-under, parent-words)

-- the parent of a frame is there
pub ruleset parent_there = (parent-there)
