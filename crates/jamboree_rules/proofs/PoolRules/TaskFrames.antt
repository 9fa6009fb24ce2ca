-- The task of a worker's turn in a pool is of a frame that is ready.
use Rattle.jamboree_rules.proofs.PoolRules.Common.{◌≡◌, ℕ, ◌+◌, ◌==◌, ◌&&◌, not, Bool, true, false, List, [], ◌∷◌, Option, Some, None, IfOk, if◌then◌else◌, refl, sym, subst, arith, FrameId, Ready, frame_at, AllBelow, Act, InletAct, Continuation, Grow, Spawn, Go, Wait, Compute, Return, NotSpent, StepOf, Take, Steal, Spend, TakenIn, Functions, Tenant, words_in, stored, tenant_of, Outcome, lone_step, take_tests, steal_tests, taken_by, act_by_sight, advance_tests, advanced, then_done, holding, in_state, counted, does_wait, answer_tests, answered, inlet_tests, inlet_under, taken_in, staying, finish_tests, finished, spent, is_spendable, Leaf, LeafAnswer, Action, Get, Run, Bring, TakeIn, Finish, Holding, Nothing, Next, Computing as IsComputed, GivingUp, readied, task_at, frame_of_action, step_of, offered, frames_of_tenant, IsOfAReadyFrame, PushesWhatIsReady}
use Rattle.jamboree_rules.proofs.PoolRules.ReadyFrames.{TreeFrame, below-with_frame_words, ready-woken, ready-pushed}
use Rattle.jamboree_rules.proofs.PoolRules.ReadiedLemmas.{unless-taken, frame-taken, taken-at, tenant_of-step_of}

-- the task of what a worker's step did is of a ready frame
abbrev IsTasked : ℕ → ℕ → Outcome Leaf → Type 0
IsTasked tenant worker outcome = IsOfAReadyFrame tenant (frames_of_tenant outcome.0) (task_at worker (readied outcome.1))

module _ (functions : Functions Leaf LeafAnswer) (before : Tenant) (worker : ℕ) (name : FrameId) where
  -- what comes after the stores
  then-ready : (frame : TreeFrame) (after : Continuation) → AllBelow (before.serials + 1) before.frames → IsTasked name.tenant worker (then_done functions before worker name frame after)
  then-ready frame (Grow more) below = tt
  then-ready frame (Spawn given size) below = (refl, ready-pushed before.frames (before.serials + 1) (Some name.serial) worker _ below)
  then-ready frame Go below = tt
  then-ready frame Wait below = grind arith
  then-ready frame Compute below = tt
  then-ready frame Return below = grind arith

-- a parent that is woken waited
module _ (before : Tenant) (worker : ℕ) (name : FrameId) (parent gone : ℕ) (act : InletAct) where
  woken-ready : (waits others : Bool) → does_wait (frame_at (staying before.frames name.serial parent act.abort) parent) ≡ waits →
      (let frames = staying before.frames name.serial parent act.abort in
      let after : Tenant = counted (holding parent (stored act.stores (words_in frames parent)) (record before { frames = frames })) in
      IsTasked name.tenant worker (if waits && others then (Some (in_state parent (Ready worker) after), TakenIn (Some (record name { serial = parent })) gone) else (Some after, TakenIn None gone)))
  woken-ready true true is = (refl, ready-woken parent worker _ _ is)
  woken-ready true false is = tt
  woken-ready false others is = tt

-- Inlet
inlet-ready : (before : Tenant) (worker : ℕ) (name : FrameId) (parent : ℕ) (act : InletAct) → IsTasked name.tenant worker (taken_in before worker name parent act)
inlet-ready before worker name parent act = grind (arith, woken-ready)

module _ (functions : Functions Leaf LeafAnswer) (before : Tenant) (worker : ℕ) where
  -- Inlet, by the frame's parent
  under-ready : (name : FrameId) (frame : TreeFrame) (parent : Option ℕ) → IfOk (inlet_under functions before worker name frame parent) (IsTasked name.tenant worker)
  under-ready name frame None = tt
  under-ready name frame (Some parent) =
      let act = functions.inlet (words_in before.frames parent) frame.value in
      unless-taken (IsTasked name.tenant worker) (inlet_tests before worker frame parent act) (taken_in before worker name parent act) (inlet-ready before worker name parent act)

  -- each step of a worker
  action-ready : (action : Action) → AllBelow (before.serials + 1) before.frames → IfOk (lone_step functions before (step_of worker action)) (IsTasked (frame_of_action action).tenant worker)
  action-ready (Get task) below =
      let R = IsTasked task.frame.tenant worker in
      let found = frame_at before.frames task.frame.serial in
      let S : Bool → Type 0 = λ own. IfOk (lone_step functions before (if own then Take worker task.frame else Steal worker task.home task.frame)) R in
      elim (task.home == worker) as S [
        | true ↦ taken-at R found (take_tests before worker) (taken_by before worker) (λ frame. tt)
        | false ↦ taken-at R found (steal_tests before worker task.home) (taken_by before worker) (λ frame. tt)
      ]
  action-ready (Run name) below =
      let act : TreeFrame → Act = λ frame. act_by_sight functions before frame in
      taken-at (IsTasked name.tenant worker) (frame_at before.frames name.serial) (λ frame. advance_tests before worker frame (act frame))
      (λ frame. advanced functions before worker name frame (act frame))
      (λ frame. let words = stored (act frame).stores frame.value in
      let fewer = below-with_frame_words (before.serials + 1) frame.serial words before.frames below in
      then-ready functions (counted (holding frame.serial words before)) worker name (record frame { value = words }) (act frame).after fewer)
  action-ready (Bring name answer) below =
      taken-at (IsTasked name.tenant worker) (frame_at before.frames name.serial) (λ frame. answer_tests functions before worker frame answer)
      (λ frame. answered functions before worker frame answer) (λ frame. tt)
  action-ready (TakeIn name) below = grind (arith, frame-taken, under-ready)
  action-ready (Finish name) below =
      taken-at (IsTasked name.tenant worker) (frame_at before.frames name.serial) (finish_tests before worker) (finished before) (λ frame. tt)

  -- a job that is spent
  spend-ready : (name : FrameId) → IfOk (lone_step functions before (Spend name)) (λ outcome. IsOfAReadyFrame name.tenant (frames_of_tenant outcome.0) None)
  spend-ready name =
      let R : Outcome Leaf → Type 0 = λ outcome. IsOfAReadyFrame name.tenant (frames_of_tenant outcome.0) None in
      taken-at R (frame_at before.frames name.serial) (λ frame. (not (is_spendable functions before frame), NotSpent) ∷ []) (spent before) (λ frame. tt)

-- a worker pushes frames that are ready, and no others
module _ (functions : Functions Leaf LeafAnswer) (tenant : Tenant) (worker : ℕ) where
  pub pushes_ready : (held : Holding) (step : StepOf LeafAnswer) → AllBelow (tenant.serials + 1) tenant.frames → offered worker held ≡ Some step →
      PushesWhatIsReady functions tenant worker held step
  pushes_ready Nothing step below same = absurd cc
  pushes_ready (Next action) step below same =
      let its : step_of worker action ≡ step = cc in
      let F : ℕ → Type 0 = λ number. IfOk (lone_step functions tenant (step_of worker action)) (λ outcome.
      IsOfAReadyFrame number (frames_of_tenant outcome.0) (task_at worker (readied outcome.1))) in
      let ready : F (tenant_of (step_of worker action)) = subst F (sym (tenant_of-step_of worker action)) (action-ready functions tenant worker action below) in
      subst (λ (s : StepOf LeafAnswer). PushesWhatIsReady functions tenant worker (Next action) s) its ready
  pushes_ready (IsComputed frame leaf) step below same = absurd cc
  pushes_ready (GivingUp action) step below same =
      let its : Spend (frame_of_action action) ≡ step = cc in
      subst (λ (s : StepOf LeafAnswer). PushesWhatIsReady functions tenant worker (GivingUp action) s) its (spend-ready functions tenant worker (frame_of_action action))
