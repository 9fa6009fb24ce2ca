-- The core does an act: what a procedure makes of a running frame (going on, growing, spawning, computing, waiting,
-- returning), and of an answer to one that computes.
use Rattle.sched_core.proofs.Common.{◌≡◌, ℕ, ◌+◌, ◌⊎◌, Bool, true, false, List, ◌++◌, Some, None, Ok, arith, replicate, FrameId, State, Computing, Waiting, Returned, frame_at, Act, Continuation, Grow, Spawn, Go, Wait, Compute, Return, Advance, Answer, Went, Grew, Spawned, Waited, Functions, Tenant, stored, has_child, is_held_by, is_root, unless, act_tests, is_computed_by, holding, opened, in_state, answer_tests, answered, advance_tests, advanced, then_done, on_tenant, named, CoreState, tenant_in, step_result, shared_refusal, frame_at-with_frame_words, frames_in_core, serials_in, words_under, sight_of, may_hold, IsCome, Seen, IsRunning, AllPass, F}
use Rattle.sched_rules.specs.declared.step.DidOf.TheVariants.{Computing as IsComputing, Returned as HasReturned}
use Rattle.sched_core.proofs.Deciding.{advance-told}
use Rattle.sched_core.proofs.TakenStep.{IsWith, IsGoing, begins, then-changed}
use Rattle.sched_core.proofs.Ending.{named-words}

-- Answer and Advance
module _ {I A : Type 0} {functions : Functions I A} {shared : CoreState} {worker : ℕ} {name : FrameId} where
  pub answer-going : {answer : A} → None ≡ shared_refusal functions shared (Answer worker name answer) →
      IsGoing functions shared (Answer worker name answer) name (λ tenant frame. answer_tests functions tenant worker frame answer)
      (λ tenant frame. answered functions tenant worker frame answer)
  answer-going none = grind arith

-- an act that may be done: no test applies, and this comes of it
pub record IsSetOut {I A : Type 0} (functions : Functions I A) (shared : CoreState) (worker : ℕ) (name : FrameId) (tenant : Tenant) (frame : F)
    (act : Act) : Type 0 where
  pub owner : tenant_in shared.tenants name.tenant ≡ Some tenant
  pub found : frame_at tenant.frames name.serial ≡ Some frame
  pub passes : AllPass (advance_tests tenant worker frame act)
  pub among : step_result functions shared (Advance worker name) ≡ Ok (advanced functions tenant worker name frame act)

module _ {I A : Type 0} {functions : Functions I A} {shared : CoreState} {worker : ℕ} {name : FrameId} {tenant : Tenant} {frame : F} where
  pub sets-out : {seen : Seen} {act : Act} → IsRunning shared name worker tenant frame seen → act ≡ functions.next (sight_of shared name) →
      Ok (tt {0}) ≡ unless (act_tests tenant frame act) (tt {0}) → IsSetOut functions shared worker name tenant frame act
  sets-out is same told =
      let none = advance-told functions worker same told is in grind arith

-- a worker that computes or runs a frame holds it
pub computes-holds : (worker : ℕ) (state : State) → is_computed_by worker state ≡ true → is_held_by worker state ≡ true
computes-holds worker state is = grind arith

-- and may go on holding it
module _ (name : FrameId) (tenant : Tenant) {frame : F} (found : frame_at tenant.frames name.serial ≡ Some frame) where
  pub may-hold : (shared : CoreState) (worker : ℕ) → tenant_in shared.tenants name.tenant ≡ Some tenant → is_held_by worker frame.state ≡ true →
      may_hold shared worker name ≡ true
  may-hold shared worker owner held = grind arith

-- a frame with other words is still there
pub held-at : (serial : ℕ) (words : List ℕ) (tenant : Tenant) {frame : F} → frame_at tenant.frames serial ≡ Some frame →
    frame_at (holding serial words tenant).frames serial ≡ Some (record frame { value = words })
held-at serial words tenant {frame} found = grind (arith, frame_at-with_frame_words)

-- what comes after the stores of an act, case by case
module _ {I A : Type 0} (functions : Functions I A) (shared : CoreState) (worker : ℕ) (name : FrameId) {tenant : Tenant} (frame : F)
    {act : Continuation} (owner : tenant_in shared.tenants name.tenant ≡ Some tenant) where
  pub go-came : act ≡ Go → IsCome name.tenant (then_done functions tenant worker name frame act) shared Went shared
  go-came is = grind (arith, begins)

  pub grow-came : {now : CoreState} {more : ℕ} → act ≡ Grow more → frame_at tenant.frames name.serial ≡ Some frame →
      now ≡ on_tenant name.tenant (holding name.serial (words_under shared name ++ replicate more 0)) shared →
      IsCome name.tenant (then_done functions tenant worker name frame act) shared Grew now
  grow-came {now} {more} is found grows = let w = then-changed (holding name.serial (frame.value ++ replicate more 0)) (begins name.tenant shared owner) (rw (named-words shared name owner found) at grows) in grind arith

  pub spawn-came : {now : CoreState} {child : FrameId} {given : List ℕ} {size : ℕ} → act ≡ Spawn given size →
      now ≡ on_tenant name.tenant (opened (Some name.serial) given size worker) shared →
      child ≡ record { tenant = name.tenant; serial = serials_in shared name.tenant + 1 } →
      IsCome name.tenant (then_done functions tenant worker name frame act) shared (Spawned child) now
  spawn-came {child} {given} {size} is opens named = let w = then-changed (opened (Some name.serial) given size worker) (begins name.tenant shared owner) opens in grind arith

  pub compute-came : {now : CoreState} {input : I} → act ≡ Compute → frame_at tenant.frames name.serial ≡ Some frame →
      now ≡ on_tenant name.tenant (in_state name.serial (Computing worker)) shared → input ≡ functions.input (words_under shared name) →
      IsCome name.tenant (then_done functions tenant worker name frame act) shared (IsComputing input) now
  compute-came {input} is found changes same = let w = then-changed (in_state name.serial (Computing worker)) (begins name.tenant shared owner) changes in grind (arith, named-words)

  -- Wait and Return, of a frame with a child
  pub waits-came : {now : CoreState} → (act ≡ Wait) ⊎ (act ≡ Return) → has_child (frames_in_core shared name.tenant) name.serial ≡ true →
      now ≡ on_tenant name.tenant (in_state name.serial Waiting) shared →
      IsCome name.tenant (then_done functions tenant worker name frame act) shared Waited now
  waits-came which child changes = let w = then-changed (in_state name.serial Waiting) (begins name.tenant shared owner) changes in grind arith

  -- and of one without
  pub wait-came : act ≡ Wait → has_child (frames_in_core shared name.tenant) name.serial ≡ false →
      IsCome name.tenant (then_done functions tenant worker name frame act) shared Went shared
  wait-came is leaf = grind (arith, begins)

  pub return-came : {now : CoreState} {top : Bool} → act ≡ Return → frame_at tenant.frames name.serial ≡ Some frame →
      has_child (frames_in_core shared name.tenant) name.serial ≡ false → now ≡ on_tenant name.tenant (in_state name.serial Returned) shared →
      top ≡ is_root frame.path → IsCome name.tenant (then_done functions tenant worker name frame act) shared (HasReturned top) now
  return-came {top} is found leaf changes same = let w = then-changed (in_state name.serial Returned) (begins name.tenant shared owner) changes in grind arith

-- an answer that the frame's tenant allows, once the procedure's stores of it are made
pub record IsAnswered {I A : Type 0} (functions : Functions I A) (shared : CoreState) (worker : ℕ) (name : FrameId) (answer : A)
    (now : CoreState) : Type 0 where
  pub going : IsGoing functions shared (Answer worker name answer) name (λ tenant frame. answer_tests functions tenant worker frame answer)
      (λ tenant frame. answered functions tenant worker frame answer)
  pub has_words : IsWith shared name.tenant (holding name.serial (stored (functions.accept going.frame.value answer) going.frame.value) going.tenant) now
  pub has_frame : frame_at (holding name.serial (stored (functions.accept going.frame.value answer) going.frame.value) going.tenant).frames name.serial
      ≡ Some (record going.frame { value = stored (functions.accept going.frame.value answer) going.frame.value })

pub is-answered : {I A : Type 0} {functions : Functions I A} {shared : CoreState} {worker : ℕ} {name : FrameId} {answer : A} {now : CoreState} →
    None ≡ shared_refusal functions shared (Answer worker name answer) →
    now ≡ on_tenant name.tenant (holding name.serial (stored (functions.accept (words_under shared name) answer) (words_under shared name))) shared →
    IsAnswered functions shared worker name answer now
is-answered {functions} {shared} {name} {answer} none is =
    let t = answer-going none in
    let own = named-words shared name t.owner t.found in
    let words = stored (functions.accept t.frame.value answer) t.frame.value in
    record {
      going = t;
      has_words = then-changed (holding name.serial words) (begins name.tenant shared t.owner) (rw own at is);
      has_frame = held-at name.serial words t.tenant t.found;
    }
