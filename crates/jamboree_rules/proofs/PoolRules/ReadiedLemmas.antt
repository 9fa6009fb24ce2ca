-- Each frame that a pool's worker makes ready by a step is named by what the step did.
use Rattle.jamboree_rules.proofs.PoolRules.Common.{◌≡◌, ℕ, ◌==◌, Bool, true, false, List, [], ◌∷◌, ◌++◌, not, Option, Some, None, Result, Err, IfOk, inl, inr, if◌then◌else◌, refl, sym, subst, replicate, arith, FrameId, Running, frame_at, root_of, IsTree, Act, InletAct, Continuation, Grow, Spawn, Go, Wait, Compute, Return, Refusal, NotSpent, StepOf, Take, Steal, Spend, Functions, Tree, Tenant, words_in, tenant_of, Outcome, unless, at_frame, lone_step, take_tests, steal_tests, taken_by, act_by_sight, advance_tests, advanced, then_done, answer_tests, answered, inlet_tests, inlet_under, taken_in, staying, finish_tests, finished, spent, is_spendable, Leaf, LeafAnswer, Action, Get, Run, Bring, TakeIn, Finish, Holding, Nothing, Next, Computing as IsComputed, GivingUp, readied, task_at, frame_of_action, step_of, offered, frames_of_tenant, IsNoneForgotten, PushesWhatItReadied}
use Rattle.frame_table.specs.declared.names.State.TheVariants.{Computing}
use Rattle.jamboree_rules.proofs.PoolRules.ReadyFrames.{TreeFrame, IsReadyIn, ready-with_state, ready-with-other, ready-with_frame_words, ready-without, ready-aborted, ready-without_job, ready-push}

-- no ready frame is forgotten by what a worker's step did
abbrev Names : Tree → ℕ → ℕ → Outcome Leaf → Type 0
Names before tenant worker outcome = IsNoneForgotten tenant before (frames_of_tenant outcome.0) (task_at worker (readied outcome.1))

-- frames of which each that is ready was ready before
abbrev NoneMore : Tree → Tree → Type 0
NoneMore before after = (serial home : ℕ) → IsReadyIn after serial home → IsReadyIn before serial home

-- a step that is taken did what it does
pub unless-taken : {X : Type 0} (P : X → Type 0) (tests : List (Bool × Refusal)) (effect : X) → P effect → IfOk (unless tests effect) P
unless-taken P [] effect holds = holds
unless-taken P (test ∷ tests) effect holds =
    elim test.0 as (λ b. IfOk (if b then Err test.1 else unless tests effect) P) [ true ↦ tt | false ↦ unless-taken P tests effect holds ]

-- a step at a frame that is there
module _ {X : Type 0} (P : X → Type 0) where
  pub frame-taken : (found : Option TreeFrame) (step : TreeFrame → Result X Refusal) → ((frame : TreeFrame) → IfOk (step frame) P) → IfOk (at_frame found step) P
  frame-taken None step holds = tt
  frame-taken (Some frame) step holds = holds frame

  pub taken-at : (found : Option TreeFrame) (tests : TreeFrame → List (Bool × Refusal)) (effect : TreeFrame → X) → ((frame : TreeFrame) → P (effect frame)) →
      IfOk (at_frame found (λ frame. unless (tests frame) (effect frame))) P
  taken-at found tests effect holds = frame-taken found _ (λ frame. unless-taken P (tests frame) (effect frame) (holds frame))

-- Take and Steal
taken-names : (before : Tenant) (tenant worker : ℕ) (frame : TreeFrame) → Names before.frames tenant worker (taken_by before worker frame)
taken-names before tenant worker frame serial home ready = inl (ready-with-other frame.serial (Running worker) before.frames serial home refl ready)

module _ (functions : Functions Leaf LeafAnswer) where
  -- what comes after the stores
  then-names : (first : Tree) (before : Tenant) (worker : ℕ) (name : FrameId) (frame : TreeFrame) (after : Continuation) → NoneMore first before.frames →
      Names first name.tenant worker (then_done functions before worker name frame after)
  then-names first before worker name frame (Grow more) none serial home ready =
      inl (none serial home (ready-with_frame_words name.serial (frame.value ++ replicate more 0) before.frames serial home ready))
  then-names first before worker name frame (Spawn given size) none serial home ready =
      elim (ready-push before.frames _ serial home ready) [ inl was ↦ inl (none serial home was) | inr now ↦ inr (let own = now.0 in let here = now.1 in cc) ]
  then-names first before worker name frame Go none serial home ready = inl (none serial home ready)
  then-names first before worker name frame Wait none serial home ready = grind (arith, ready-with-other)
  then-names first before worker name frame Compute none serial home ready =
      inl (none serial home (ready-with-other name.serial (Computing worker) before.frames serial home refl ready))
  then-names first before worker name frame Return none serial home ready = grind (arith, ready-with-other)

  -- Advance
  advanced-names : (before : Tenant) (worker : ℕ) (name : FrameId) (frame : TreeFrame) (act : Act) → Names before.frames name.tenant worker (advanced functions before worker name frame act)
  advanced-names before worker name frame act = grind (arith, then-names, ready-with_frame_words)

  -- Answer
  answered-names : (before : Tenant) (tenant worker : ℕ) (frame : TreeFrame) (answer : LeafAnswer) → Names before.frames tenant worker (answered functions before worker frame answer)
  answered-names before tenant worker frame answer serial home ready = grind (arith, ready-with_frame_words, ready-with-other)

-- the frames that stay at an inlet
staying-names : (before : Tree) (child parent : ℕ) (abort : Bool) → IsTree before → NoneMore before (staying before child parent abort)
staying-names before child parent true tree serial home ready = ready-aborted parent before serial home tree ready
staying-names before child parent false tree serial home ready = ready-without child before serial home ready

-- the steps of a tenant whose frames are a tree
module _ (before : Tenant) (tree : IsTree before.frames) where
  -- Inlet
  inlet-names : (worker : ℕ) (name : FrameId) (parent : ℕ) (act : InletAct) → Names before.frames name.tenant worker (taken_in before worker name parent act)
  inlet-names worker name parent act = grind (arith, staying-names, ready-with_frame_words, ready-with_state)

  -- Inlet, by the frame's parent
  under-names : (functions : Functions Leaf LeafAnswer) (worker : ℕ) (name : FrameId) (frame : TreeFrame) (parent : Option ℕ) →
      IfOk (inlet_under functions before worker name frame parent) (Names before.frames name.tenant worker)
  under-names functions worker name frame None = tt
  under-names functions worker name frame (Some parent) =
      let act = functions.inlet (words_in before.frames parent) frame.value in
      unless-taken (Names before.frames name.tenant worker) (inlet_tests before worker frame parent act) (taken_in before worker name parent act) (inlet-names worker name parent act)

  -- Finish
  finished-names : (tenant worker : ℕ) (frame : TreeFrame) → Names before.frames tenant worker (finished before frame)
  finished-names tenant worker frame serial home ready = inl (ready-without_job frame.serial before.frames serial home tree ready)

  -- Spend
  spent-names : (tenant : ℕ) (frame : TreeFrame) → IsNoneForgotten tenant before.frames (frames_of_tenant (spent {I = Leaf} before frame).0) None
  spent-names tenant frame serial home ready = inl (ready-without_job (root_of frame.path) before.frames serial home tree ready)

  module _ (functions : Functions Leaf LeafAnswer) (worker : ℕ) where
    -- each step of a worker
    action-names : (action : Action) → IfOk (lone_step functions before (step_of worker action)) (Names before.frames (frame_of_action action).tenant worker)
    action-names (Get task) =
        let N = Names before.frames task.frame.tenant worker in
        let found = frame_at before.frames task.frame.serial in
        let S : Bool → Type 0 = λ own. IfOk (lone_step functions before (if own then Take worker task.frame else Steal worker task.home task.frame)) N in
        elim (task.home == worker) as S [
          | true ↦ taken-at N found (take_tests before worker) (taken_by before worker) (taken-names before task.frame.tenant worker)
          | false ↦ taken-at N found (steal_tests before worker task.home) (taken_by before worker) (taken-names before task.frame.tenant worker)
        ]
    action-names (Run name) =
        let act : TreeFrame → Act = λ frame. act_by_sight functions before frame in
        taken-at (Names before.frames name.tenant worker) (frame_at before.frames name.serial) (λ frame. advance_tests before worker frame (act frame))
        (λ frame. advanced functions before worker name frame (act frame)) (λ frame. advanced-names functions before worker name frame (act frame))
    action-names (Bring name answer) =
        taken-at (Names before.frames name.tenant worker) (frame_at before.frames name.serial) (λ frame. answer_tests functions before worker frame answer)
        (λ frame. answered functions before worker frame answer) (λ frame. answered-names functions before name.tenant worker frame answer)
    action-names (TakeIn name) = grind (arith, frame-taken, under-names)
    action-names (Finish name) =
        taken-at (Names before.frames name.tenant worker) (frame_at before.frames name.serial) (finish_tests before worker) (finished before) (finished-names name.tenant worker)

    -- a job that is spent
    spend-names : (name : FrameId) → IfOk (lone_step functions before (Spend name)) (λ outcome. IsNoneForgotten name.tenant before.frames (frames_of_tenant outcome.0) None)
    spend-names name =
        let N : Outcome Leaf → Type 0 = λ outcome. IsNoneForgotten name.tenant before.frames (frames_of_tenant outcome.0) None in
        taken-at N (frame_at before.frames name.serial) (λ frame. (not (is_spendable functions before frame), NotSpent) ∷ []) (spent before) (spent-names name.tenant)

-- whose step it is
pub tenant_of-step_of : (worker : ℕ) (action : Action) → tenant_of (step_of worker action) ≡ (frame_of_action action).tenant
tenant_of-step_of worker (Get task) = grind arith
tenant_of-step_of worker (Run name) = refl
tenant_of-step_of worker (Bring name answer) = refl
tenant_of-step_of worker (TakeIn name) = refl
tenant_of-step_of worker (Finish name) = refl

-- a worker pushes what its step readied
module _ (functions : Functions Leaf LeafAnswer) (tenant : Tenant) (worker : ℕ) where
  pub pushes_readied : (held : Holding) (step : StepOf LeafAnswer) → IsTree tenant.frames → offered worker held ≡ Some step → PushesWhatItReadied functions tenant worker held step
  pushes_readied Nothing step tree same = absurd cc
  pushes_readied (Next action) step tree same =
      let its : step_of worker action ≡ step = cc in
      let F : ℕ → Type 0 = λ number. IfOk (lone_step functions tenant (step_of worker action)) (λ outcome.
      IsNoneForgotten number tenant.frames (frames_of_tenant outcome.0) (task_at worker (readied outcome.1))) in
      let names : F (tenant_of (step_of worker action)) = subst F (sym (tenant_of-step_of worker action)) (action-names tenant tree functions worker action) in
      subst (λ (s : StepOf LeafAnswer). PushesWhatItReadied functions tenant worker (Next action) s) its names
  pushes_readied (IsComputed frame leaf) step tree same = absurd cc
  pushes_readied (GivingUp action) step tree same =
      let its : Spend (frame_of_action action) ≡ step = cc in
      let names = spend-names tenant tree functions worker (frame_of_action action) in
      subst (λ (s : StepOf LeafAnswer). PushesWhatItReadied functions tenant worker (GivingUp action) s) its names
