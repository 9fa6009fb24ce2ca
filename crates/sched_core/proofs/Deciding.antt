-- The core judges a step: the tests of each kind, read off the step's definition.
use Rattle.sched_core.proofs.Common.{[], ◌≡◌, ◌≢◌, ℕ, ◌==◌, Bool, false, List, ◌∷◌, Some, Result, Ok, Err, refl, arith, ◌||◌, not, is_err, is_some, nat_tests, or-false, FrameId, Running, is_ready, found-serial, Refusal, NotReady, NotHere, NotRunning, NotComputing, NotReturned, Mismatch, NoSteps, BadAct, Busy, Act, Take, Steal, Advance, Answer, Finish, Functions, Tenant, left, is_busy_in, is_outside, is_root, has_child, Outcome, unless, refusal_in, is_ready_at, is_run_by, is_computed_by, is_returned, act_tests, is_spendable, CoreState, tenant_in, is_busy_elsewhere, unless_busy, shared_refusal, Seen, is_busy_among, AreAfter, AreTenantsRising, frames_in_core, sight_of, words_under, IsSeen, IsRunning, F}

-- a worker that is busy with some tenant's frame is busy with this one's or elsewhere
busy-later : (worker number : ℕ) (entries : List (ℕ × Tenant)) → AreAfter number entries →
    is_busy_elsewhere worker number entries ≡ is_busy_among worker entries
busy-later worker number [] after = refl
busy-later worker number (entry ∷ entries) after = grind (arith, busy-later worker number entries after.1, nat_tests)

pub some-is : {X : Type 0} (x y : X) → Some x ≡ Some y → x ≡ y
some-is x y e = cc

pub busy-among : (worker number : ℕ) (entries : List (ℕ × Tenant)) (tenant : Tenant) → AreTenantsRising entries → tenant_in entries number ≡ Some tenant →
    (is_busy_in worker tenant.frames || is_busy_elsewhere worker number entries) ≡ is_busy_among worker entries
busy-among worker number [] tenant rising is = absurd cc
busy-among worker number (entry ∷ entries) tenant rising is = grind (arith, some-is, busy-later, busy-among worker number entries tenant rising.1)

-- and where no other tenant matters
pub not-elsewhere : {I : Type 0} (answer : Result (Outcome I) Refusal) → refusal_in (unless_busy false answer) ≡ refusal_in answer
not-elsewhere (Ok outcome) = refl
not-elsewhere (Err refusal) = refl

-- Take, where the tenant and the frame are there
module _ {I A : Type 0} (functions : Functions I A) {shared : CoreState} (worker : ℕ) {name : FrameId} {tenant : Tenant} {frame : F} {seen : Seen}
    (is : IsSeen shared name tenant frame seen) (rising : AreTenantsRising shared.tenants) where
  pub take-decided : refusal_in (unless ((not (is_ready seen.state), NotReady) ∷ (not (is_ready_at worker seen.state), NotHere)
      ∷ (seen.left.steps == 0, NoSteps) ∷ (is_busy_among worker shared.tenants, Busy) ∷ []) (tt {0})) ≡ shared_refusal functions shared (Take worker name)
  take-decided = grind (arith, busy-among worker name.tenant shared.tenants tenant rising is.owner)

  -- Steal
  pub steal-decided : (from : ℕ) → refusal_in (unless ((not (is_ready seen.state), NotReady) ∷ (not (is_ready_at from seen.state) || (from == worker), NotHere)
      ∷ (seen.left.steps == 0, NoSteps) ∷ (is_busy_among worker shared.tenants, Busy) ∷ []) (tt {0})) ≡ shared_refusal functions shared (Steal worker from name)
  steal-decided from = grind (arith, busy-among worker name.tenant shared.tenants tenant rising is.owner)

  -- Finish
  pub finish-decided : refusal_in (unless ((not (is_returned seen.state) || not (is_root frame.path), NotReturned) ∷ (seen.left.steps == 0, NoSteps)
      ∷ (is_busy_among worker shared.tenants, Busy) ∷ []) (tt {0})) ≡ shared_refusal functions shared (Finish worker name)
  finish-decided = grind (arith, busy-among worker name.tenant shared.tenants tenant rising is.owner)

-- Advance
module _ {I A : Type 0} (functions : Functions I A) {shared : CoreState} (worker : ℕ) {name : FrameId} {tenant : Tenant} {frame : F} {seen : Seen}
    (is : IsSeen shared name tenant frame seen) where
  pub advance-decided : (act : Act) → act ≡ functions.next (sight_of shared name) →
      refusal_in (unless ((not (is_run_by worker seen.state), NotRunning) ∷ (seen.left.steps == 0, NoSteps) ∷ act_tests tenant frame act) (tt {0}))
      ≡ shared_refusal functions shared (Advance worker name)
  advance-decided act same = grind (arith, not-elsewhere)

-- what is seen of a frame
module _ {shared : CoreState} {name : FrameId} {tenant : Tenant} {frame : F} {seen : Seen} (is : IsSeen shared name tenant frame seen) where
  pub seen-words : frame.value ≡ words_under shared name
  seen-words = rw (is.owner, is.found) refl

  pub seen-child : has_child tenant.frames frame.serial ≡ has_child (frames_in_core shared name.tenant) name.serial
  seen-child = grind (arith, found-serial)

-- Advance, where the worker runs the frame and a step is left, by the tests of the act
module _ {I A : Type 0} (functions : Functions I A) {shared : CoreState} (worker : ℕ) {name : FrameId} {tenant : Tenant} {frame : F} {seen : Seen}
    {act : Act} {answer : Result (Unit {0}) Refusal} (same : act ≡ functions.next (sight_of shared name))
    (told : answer ≡ unless (act_tests tenant frame act) (tt {0})) where
  pub advance-goes : (runs : Bool) → IsSeen shared name tenant frame seen → runs ≡ is_run_by worker seen.state →
      Ok (tt {0}) ≡ unless ((not runs, NotRunning) ∷ (seen.left.steps == 0, NoSteps) ∷ []) (tt {0}) →
      refusal_in answer ≡ shared_refusal functions shared (Advance worker name)
  advance-goes runs is run passes = grind (arith, advance-decided functions worker is act same)

  pub advance-told : IsRunning shared name worker tenant frame seen → refusal_in answer ≡ shared_refusal functions shared (Advance worker name)
  advance-told is = grind (arith, nat_tests, advance-goes)

-- a frame with no parent is a root
pub root-is : (top : Bool) (seen : Seen) (path : List ℕ) → is_some seen.parent ≡ not top → is_some seen.parent ≡ not (is_root path) → top ≡ is_root path
root-is top seen path is root = grind arith

-- Answer, by its tests
pub answer-told : {I A : Type 0} (functions : Functions I A) {shared : CoreState} (worker : ℕ) {name : FrameId} (answer : A) {tenant : Tenant}
    {frame : F} {seen : Seen} {computes other outside : Bool} {told : Result (Unit {0}) Refusal} →
    IsSeen shared name tenant frame seen → computes ≡ is_computed_by worker seen.state →
    other ≡ not (functions.same (functions.asked answer) (functions.input (words_under shared name))) →
    outside ≡ is_outside (functions.accept (words_under shared name) answer) (words_under shared name) →
    told ≡ unless ((not computes, NotComputing) ∷ (other, Mismatch) ∷ (seen.left.steps == 0, NoSteps) ∷ (outside, BadAct) ∷ []) (tt {0}) →
    refusal_in told ≡ shared_refusal functions shared (Answer worker name answer)
answer-told functions worker answer is c o u same = grind (arith, not-elsewhere)

-- the job of a frame that runs may be given up where its next act can't be done
pub spend-running : {I A : Type 0} (functions : Functions I A) {shared : CoreState} {name : FrameId} {tenant : Tenant} {frame : F} {seen : Seen}
    (act : Act) {holder : ℕ} {answer : Result (Unit {0}) Refusal} → IsSeen shared name tenant frame seen → seen.state ≡ Running holder →
    seen.left.steps ≢ 0 → act ≡ functions.next (sight_of shared name) →
    answer ≡ unless (act_tests tenant frame act) (tt {0}) → is_err answer ≡ is_spendable functions tenant frame
spend-running functions {tenant} {frame} {seen} act is runs some same told = grind (arith, or-false)

-- what is seen of a frame
pub ruleset seen_so = (seen-words, seen-child)
