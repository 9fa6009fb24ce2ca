-- Every step of the core keeps the shape of its tenant, and so every right answer that of all tenants.
use Rattle.sched_laws.proofs.Common.{◌≡◌, ◌≢◌, if◌then◌else◌, ℕ, ◌+◌, ◌-◌, ◌*◌, ◌<◌, ◌≤◌, inl, Bool, true, false, not, ◌||◌, ◌&&◌, eqb, ltb, List, [], ◌∷◌, ◌++◌, Option, Some, None, Result, Ok, length, replicate, refl, ap, ◌∙◌, subst, arith, length-append, length-replicate, false≢true, eqb-false, ltb-false, leb-true, leb-false, not-false, or_parts, and_parts, ReserveOf, State, Ready, Running, FrameId, frame_at, parent_of, root_of, children_of, is_ready, there-found, found-serial, tree-rising, under-there, under-below, aborted-itself, frame_at-other-without, Act, InletAct, Continuation, StepOf, Grow, Wait, Return, Live, Done, Spent as SpentJob, Cancelled as CancelledJob, Refusal, AdmitMore, Submit, Inlet, Leave, Functions, Tree, Tenant, admitted_with, frame_words, words_in, charged_for, left, stored, is_outside, has_child, job_at, kept_words, Neither, mark_of_state, Outcome, unless, lone_step, is_lower, raised, counted, holding, ended, is_frame_size, submit_tests, submitted, taken_by, is_run_by, is_returned, act_by_sight, is_bad_then, is_spawn, segments_for, advance_tests, then_done, advanced, answer_tests, answered, inlet_tests, does_wait, staying, taken_in, finish_tests, finished, spent, at_frame, IsShaped, sym, charge, growth_charge, Spawn, NotSpent, Lower, Take, Steal, Finish, Spend, take_tests, steal_tests, is_spendable, inr, Computing, Go, Compute}
use Rattle.sched_laws.proofs.Holds.{frame_at-with_frame_words, charged-with_frame_words, F, found-own}
use Rattle.sched_laws.proofs.Parts.{shape-at, no-child, has_child-with_frame_words, shaped-counted, shaped-in_state, shaped-holding, shaped-aborted, shaped-without, shaped-ended, shaped-child, shaped-root}
use Rattle.sched_rules.proofs.StoreLemmas.{length-stored}

-- what a step leaves, if it leaves a tenant, has its shape
abbrev pub LeftShaped : Option Tenant → Type 0
LeftShaped None = Unit {0}
LeftShaped (Some tenant) = IsShaped tenant

-- no test of a list applies
abbrev pub AllPass : List (Bool × Refusal) → Type 0
AllPass [] = Unit {0}
AllPass (test ∷ tests) = (test.0 ≡ false) × AllPass tests

-- a taken step passed its tests
pub unless-passed : {X : Type 0} (tests : List (Bool × Refusal)) (effect outcome : X) → unless tests effect ≡ Ok outcome → AllPass tests × (effect ≡ outcome)
unless-passed {X} [] effect outcome is = (tt, (let e : ◌≡◌ {A = Result X Refusal} (Ok effect) (Ok outcome) = is in cc))
unless-passed {X} (test ∷ tests) effect outcome is = grind (arith, unless-passed tests effect outcome)

-- what a step at a frame found
pub frame-found : {X : Type 0} (frames : Tree) (s : ℕ) (step : F → Result X Refusal) (outcome : X) → at_frame (frame_at frames s) step ≡ Ok outcome →
    (f : F) × (frame_at frames s ≡ Some f) × (step f ≡ Ok outcome)
frame-found frames s step outcome is = grind arith

-- an effect that came out
pub came : {I : Type 0} (P : Option Tenant → Type 0) (effect outcome : Outcome I) → effect ≡ outcome → P effect.0 → P outcome.0
came {I} P effect outcome is holds = let Q : Outcome I → Type 0 = λ o. P o.0 in subst Q is holds

module _ {I : Type 0} (P : Option Tenant → Type 0) where
  -- what a taken step left, where it holds of what its effect leaves
  passed : (tests : List (Bool × Refusal)) (effect outcome : Outcome I) → unless tests effect ≡ Ok outcome → (AllPass tests → P effect.0) → P outcome.0
  passed tests effect outcome is holds = let p = unless-passed tests effect outcome is in came P effect outcome p.1 (holds p.0)

  -- the same of a step at a frame
  passed-at : (frames : Tree) (s : ℕ) (tests : F → List (Bool × Refusal)) (effect : F → Outcome I) (outcome : Outcome I) →
      at_frame (frame_at frames s) (λ f. unless (tests f) (effect f)) ≡ Ok outcome →
      ((f : F) → frame_at frames s ≡ Some f → AllPass (tests f) → P (effect f).0) → P outcome.0
  passed-at frames s tests effect outcome is holds =
      let f = frame-found frames s (λ frame. unless (tests frame) (effect frame)) outcome is in passed (tests f.0) (effect f.0) outcome f.2 (holds f.0 f.1)

-- P holds of what each effect of a step leaves, where its tests passed
pub record HoldsOfEach {I A : Type 0} (functions : Functions I A) (tenant : Tenant) (step : StepOf A) (P : Option Tenant → Type 0) : Type 0 where
  pub at_raise : (number : ℕ) (quota : ReserveOf) → step ≡ AdmitMore number quota → is_lower tenant.reserve quota ≡ false → P (raised {I = I} tenant quota).0
  pub at_submit : (number : ℕ) (words : List ℕ) (size : ℕ) → step ≡ Submit number words size → AllPass (submit_tests tenant words size) →
      P (submitted {I = I} tenant number words size).0
  pub at_take : (worker s : ℕ) (f : F) → frame_at tenant.frames s ≡ Some f → not (is_ready f.state) ≡ false → eqb (left tenant).steps 0 ≡ false →
      P (taken_by {I = I} tenant worker f).0
  pub at_advance : (worker : ℕ) (name : FrameId) (f : F) → frame_at tenant.frames name.serial ≡ Some f →
      AllPass (advance_tests tenant worker f (act_by_sight functions tenant f)) →
      P (advanced functions tenant worker name f (act_by_sight functions tenant f)).0
  pub at_answer : (worker s : ℕ) (f : F) (answer : A) → frame_at tenant.frames s ≡ Some f → AllPass (answer_tests functions tenant worker f answer) →
      P (answered functions tenant worker f answer).0
  pub at_inlet : (worker : ℕ) (name : FrameId) (f : F) (parent : ℕ) → frame_at tenant.frames name.serial ≡ Some f → parent_of f.path ≡ Some parent →
      AllPass (inlet_tests tenant worker f parent (functions.inlet (words_in tenant.frames parent) f.value)) →
      P (taken_in {I = I} tenant worker name parent (functions.inlet (words_in tenant.frames parent) f.value)).0
  pub at_finish : (worker s : ℕ) (f : F) → frame_at tenant.frames s ≡ Some f → AllPass (finish_tests tenant worker f) → P (finished {I = I} tenant f).0
  pub at_spend : (s : ℕ) (f : F) → frame_at tenant.frames s ≡ Some f → P (spent {I = I} tenant f).0
  pub at_cancel : (number root : ℕ) → job_at tenant.jobs number ≡ Some (Live root) → P (Some (ended root CancelledJob tenant))
  pub at_leave : (number : ℕ) → step ≡ Leave number → P None

-- so it holds of what a step of a tenant that has the core to itself leaves
module _ {I A : Type 0} (functions : Functions I A) (tenant : Tenant) where
  pub by-effects : (step : StepOf A) (outcome : Outcome I) (P : Option Tenant → Type 0) → lone_step functions tenant step ≡ Ok outcome →
      HoldsOfEach functions tenant step P → P outcome.0
  by-effects (AdmitMore number quota) outcome P is each =
      passed P ((is_lower tenant.reserve quota, Lower) ∷ []) (raised tenant quota) outcome is (λ p. each.at_raise number quota refl p.0)
  by-effects (Submit number words size) outcome P is each =
      passed P (submit_tests tenant words size) (submitted tenant number words size) outcome is (each.at_submit number words size refl)
  by-effects (Take worker name) outcome P is each = passed-at P tenant.frames name.serial (take_tests tenant worker) (taken_by tenant worker) outcome is
      (λ f at p. each.at_take worker name.serial f at p.0 p.1.1.0)
  by-effects (Steal worker from name) outcome P is each =
      passed-at P tenant.frames name.serial (steal_tests tenant worker from) (taken_by tenant worker) outcome is
      (λ f at p. each.at_take worker name.serial f at p.0 p.1.1.0)
  by-effects (Inlet worker name) outcome P is each = grind (arith, frame-found, passed)
  by-effects (Finish worker name) outcome P is each =
      passed-at P tenant.frames name.serial (finish_tests tenant worker) (finished tenant) outcome is (each.at_finish worker name.serial)
  by-effects (Spend name) outcome P is each =
      passed-at P tenant.frames name.serial (λ f. (not (is_spendable functions tenant f), NotSpent) ∷ []) (spent tenant) outcome is
      (λ f at p. each.at_spend name.serial f at)
  by-effects step outcome P is each = grind (arith, passed-at, came, answered)

-- P holds of what each kind of step leaves. Those of workers but Finish count one more step, and change only frames and serials
pub record HoldsOfKinds {A : Type 0} (tenant : Tenant) (step : StepOf A) (P : Option Tenant → Type 0) : Type 0 where
  pub at_raise : (number : ℕ) (quota : ReserveOf) → step ≡ AdmitMore number quota → P (Some (record tenant { reserve = quota }))
  pub at_submit : (serials root : ℕ) (frames : Tree) → P (Some (record tenant { serials = serials; jobs = tenant.jobs ++ Live root ∷ []; frames = frames }))
  pub at_work : (serials : ℕ) (frames : Tree) → P (Some (record (counted tenant) { serials = serials; frames = frames }))
  pub at_finish : (root : ℕ) (words : List ℕ) → P (Some (counted (ended root (Done words) tenant)))
  pub at_spend : (s : ℕ) (f : F) → frame_at tenant.frames s ≡ Some f → P (Some (ended (root_of f.path) SpentJob tenant))
  pub at_cancel : (number root : ℕ) → job_at tenant.jobs number ≡ Some (Live root) → P (Some (ended root CancelledJob tenant))
  pub at_leave : (number : ℕ) → step ≡ Leave number → P None

-- either branch of a test
pub either : {I : Type 0} (P : Option Tenant → Type 0) (test : Bool) (x y : Outcome I) → P x.0 → P y.0 → P (if test then x else y).0
either P true x y p q = p
either P false x y p q = q

-- what an act leaves
module _ {I A : Type 0} (functions : Functions I A) where
  then-works : (t : Tenant) (worker : ℕ) (name : FrameId) (g : F) (after : Continuation) (P : Option Tenant → Type 0) →
      ((serials : ℕ) (frames : Tree) → P (Some (record t { serials = serials; frames = frames }))) → P (then_done functions t worker name g after).0
  then-works t worker name g Wait P each = either P (has_child t.frames name.serial) _ _ (each _ _) (each _ _)
  then-works t worker name g Return P each = either P (has_child t.frames name.serial) _ _ (each _ _) (each _ _)
  then-works t worker name g _ P each = each _ _

  -- so it holds of what a step leaves
  pub by-kinds : (tenant : Tenant) (step : StepOf A) (outcome : Outcome I) (P : Option Tenant → Type 0) → lone_step functions tenant step ≡ Ok outcome →
      HoldsOfKinds tenant step P → P outcome.0
  by-kinds tenant step outcome P is each = by-effects functions tenant step outcome P is (record {
    at_raise = λ number quota raises enough. each.at_raise number quota raises;
    at_submit = λ number words size submits passed. each.at_submit _ _ _;
    at_take = λ worker s f at ready some. each.at_work _ _;
    at_advance = λ worker name f at passed.
        then-works (counted (holding f.serial _ tenant)) worker name (record f { value = _ }) (act_by_sight functions tenant f).after P each.at_work;
    at_answer = λ worker s f answer at passed. each.at_work _ _;
    at_inlet = λ worker name f parent at named passed.
        let act = functions.inlet (words_in tenant.frames parent) f.value in
        let frames = staying tenant.frames name.serial parent act.abort in
        either P (does_wait (frame_at frames parent) && (act.abort || act.wake || not (has_child frames parent))) _ _ (each.at_work _ _) (each.at_work _ _);
    at_finish = λ worker s f at passed. each.at_finish f.serial _;
    at_spend = each.at_spend;
    at_cancel = each.at_cancel;
    at_leave = each.at_leave;
  })

-- a step that is left, a node, and segments
module _ (tenant : Tenant) where
  step-left : (eqb (left tenant).steps 0) ≡ false → tenant.steps < 16 * tenant.reserve.nodes
  step-left is = let some = eqb-false (left tenant).steps 0 is in omega arith

  node-left : (eqb (left tenant).nodes 0) ≡ false → tenant.serials < tenant.reserve.nodes
  node-left is = let some = eqb-false (left tenant).nodes 0 is in omega arith

  segments-left : (n : ℕ) → charged_for tenant.frames ≤ tenant.reserve.segments → ltb (left tenant).segments n ≡ false →
      charged_for tenant.frames + n ≤ tenant.reserve.segments
  segments-left n within is = let enough = ltb-false (left tenant).segments n is in omega arith

-- a frame of a size that can be opened
size-parts : (words : List ℕ) (size : ℕ) → not (is_frame_size words size) ≡ false → (1 ≤ size) × (size ≤ 128) × (length words ≤ size)
size-parts words size is = grind (arith, and_parts, not-false, leb-true)

-- a frame that a worker runs or computes, and one that has returned
pub run-free : (worker : ℕ) (state : State) → is_run_by worker state ≡ true → mark_of_state state ≡ Neither
run-free worker state is = grind (arith, false≢true)

pub returned-marked : (state : State) → is_returned state ≡ true → mark_of_state state ≢ Neither
returned-marked state is = grind (arith, false≢true)

pub returned-childless : (tenant : Tenant) (s : ℕ) (f : F) → IsShaped tenant → frame_at tenant.frames s ≡ Some f → mark_of_state f.state ≢ Neither →
    children_of tenant.frames s ≡ []
returned-childless tenant s f shape at marked = grind (arith, shape-at, no-child)

-- stores in a frame
shaped-stored : (n : ℕ) (words : List ℕ) (tenant : Tenant) (f : F) → frame_at tenant.frames n ≡ Some f → length words ≡ length f.value →
    IsShaped tenant → IsShaped (holding n words tenant)
shaped-stored n words tenant f at long s =
    let fits = (shape-at s n f at).words in shaped-holding s n words f at (omega arith, omega arith) (rw long (omega arith))

-- what comes after the stores of an act
grow-room : (c a b r : ℕ) → c + (a - b) ≤ r → c + a ≤ r + b
grow-room c a b r le = omega arith

grow-fits : (words more : ℕ) → ((eqb more 0) || ltb 128 (words + more)) ≡ false → words + more ≤ 128
grow-fits words more is = ltb-false 128 (words + more) (or_parts (eqb more 0) (ltb 128 (words + more)) is).1

-- what comes after the stores leaves a tenant shaped, and so do Advance and Answer
module _ {I A : Type 0} (functions : Functions I A) where
  then-shaped : (t : Tenant) (worker : ℕ) (name : FrameId) (words : List ℕ) (after : Continuation) (g : F) →
      frame_at t.frames name.serial ≡ Some g → g.value ≡ words → mark_of_state g.state ≡ Neither →
      is_bad_then (length words) (has_child t.frames name.serial) after ≡ false → (is_spawn after ≡ true → t.serials < t.reserve.nodes) →
      charged_for t.frames + segments_for g after ≤ t.reserve.segments → IsShaped t → LeftShaped (then_done functions t worker name (record g { value = words }) after).0
  then-shaped t worker name words (Grow more) g at is free good node room s =
      let whole = length-append words (replicate more 0) in let zeros = length-replicate {A = ℕ} more 0 in
      let fits = (shape-at s name.serial g at).words in
      let long : length (words ++ replicate more 0) ≡ length words + more = omega arith in
      let own : length g.value ≡ length words = ap length is in
      let few = grow-fits (length words) more good in
      shaped-holding s name.serial (words ++ replicate more 0) g at (omega arith, omega arith)
      (grown (charged_for t.frames) (length (words ++ replicate more 0)) (length g.value) t.reserve.segments (length words) more long own room)
    where
      grown : (c n o r w m : ℕ) → n ≡ w + m → o ≡ w → c + growth_charge o m ≤ r → c + charge n ≤ r + charge o
      grown c n o r w m long own le = grow-room c (charge n) (charge o) r (rw (long, ← own) le)
  then-shaped t worker name words (Spawn given size) g at is free good node room s =
      shaped-child worker given size t name.serial g at free (record { fits = size-parts given size good; node = node refl; segments = room }) s
  then-shaped t worker name words Go g at is free good node room s = s
  then-shaped t worker name words Compute g at is free good node room s = shaped-in_state s name.serial (Computing worker) (inr good)
  then-shaped t worker name words after g at is free good node room s = grind (arith, shaped-in_state)

  -- Advance
  advance-shaped : (tenant : Tenant) (worker : ℕ) (name : FrameId) (f : F) (act : Act) → frame_at tenant.frames name.serial ≡ Some f →
      AllPass (advance_tests tenant worker f act) → IsShaped tenant → LeftShaped (advanced functions tenant worker name f act).0
  advance-shaped tenant worker name f act at passed s =
      let n = f.serial in
      let good = (or_parts (is_outside act.stores f.value) (is_bad_then (length f.value) (has_child tenant.frames n) act.after) passed.1.1.0).1 in
      let own = found-serial tenant.frames name.serial f at in
      let words = stored act.stores f.value in
      let long : length words ≡ length f.value = length-stored act.stores f.value in
      let t = holding n words tenant in
      let at_own = found-own tenant.frames name.serial f at in
      let g : F = record f { value = words } in
      let at_g : frame_at t.frames name.serial ≡ Some g = ap (frame_at t.frames) (sym own) ∙ frame_at-with_frame_words n words tenant.frames f at_own in
      let child = ap (has_child t.frames) (sym own) ∙ has_child-with_frame_words n words tenant.frames n s.tree in
      let charges = charged-with_frame_words n words tenant.frames f (tree-rising tenant.frames s.tree) at_own in
      let e = ap charge long in
      let charged : charged_for t.frames ≡ charged_for tenant.frames = omega arith in
      let segments = segments-left tenant (segments_for f act.after) s.charged passed.1.1.1.1.0 in
      then-shaped (counted t) worker name words act.after g at_g refl (run-free worker f.state (not-false (is_run_by worker f.state) passed.0))
      (rw (long, child) good) (λ spawn. node-left tenant (rw spawn at passed.1.1.1.0)) (room act.after g _ (rw (← charged) at segments) long)
      (shaped-counted (shaped-stored n words tenant f at_own long s) (step-left tenant passed.1.0))
    where
      room : (after : Continuation) (g : F) (c : ℕ) → c + segments_for f after ≤ tenant.reserve.segments → length g.value ≡ length f.value →
          c + segments_for g after ≤ tenant.reserve.segments
      room (Grow more) g c le long = rw long le
      room _ g c le long = le

-- Inlet: the frames that stay, with the parent among them
module _ (tenant : Tenant) where
  staying-shaped : (n parent : ℕ) (f : F) (abort : Bool) → frame_at tenant.frames n ≡ Some f → parent_of f.path ≡ Some parent →
      children_of tenant.frames n ≡ [] → IsShaped tenant → IsShaped (record tenant { frames = staying tenant.frames n parent abort })
  staying-shaped n parent f true at named leaf s = shaped-aborted s parent
  staying-shaped n parent f false at named leaf s = shaped-without n tenant f parent at named leaf s

  pub staying-parent : (n parent : ℕ) (f g : F) (abort : Bool) → frame_at tenant.frames n ≡ Some f → parent_of f.path ≡ Some parent →
      frame_at tenant.frames parent ≡ Some g → IsShaped tenant → frame_at (staying tenant.frames n parent abort) parent ≡ Some g
  staying-parent n parent f g abort at named at_g s = grind (arith, aborted-itself, under-below, frame_at-other-without)

  pub inlet-stored-shaped : (worker n : ℕ) (f : F) (parent : ℕ) (act : InletAct) → frame_at tenant.frames n ≡ Some f →
      parent_of f.path ≡ Some parent → AllPass (inlet_tests tenant worker f parent act) → IsShaped tenant →
      IsShaped (counted (holding parent (stored act.stores (words_in (staying tenant.frames n parent act.abort) parent))
      (record tenant { frames = staying tenant.frames n parent act.abort })))
  inlet-stored-shaped worker n f parent act at named passed s =
      let leaf = returned-childless tenant n f s at (returned-marked f.state (not-false (is_returned f.state) passed.0)) in
      let g = there-found tenant.frames parent (under-there tenant.frames n parent f s.tree at named) in
      let frames = staying tenant.frames n parent act.abort in
      let at_g : frame_at frames parent ≡ Some g.0 = staying-parent n parent f g.0 act.abort at named g.1 s in
      let words = stored act.stores (words_in frames parent) in
      let long : length words ≡ length g.0.value = length-stored act.stores (words_in frames parent) ∙ ap (λ o. length (frame_words o)) at_g in
      shaped-counted (shaped-stored parent words _ g.0 at_g long (staying-shaped n parent f act.abort at named leaf s)) (step-left tenant passed.1.0)

-- every step of a tenant that has the core to itself
module _ {I A : Type 0} (functions : Functions I A) (tenant : Tenant) where
  pub step-shaped : (step : StepOf A) (outcome : Outcome I) → lone_step functions tenant step ≡ Ok outcome → IsShaped tenant → LeftShaped outcome.0
  step-shaped step outcome is s = by-effects functions tenant step outcome LeftShaped is (record {
    at_raise = λ number quota _ enough. grind (arith, or_parts, ltb-false);
    at_submit = λ number words size _ passed.
        shaped-root 0 words size tenant (leb-false 256 (length tenant.jobs) passed.1.0) (record {
          fits = size-parts words size passed.0;
          node = node-left tenant passed.1.1.0;
          segments = segments-left tenant (charge size) s.charged passed.1.1.1.0;
        }) s;
    at_take = λ worker serial f at ready some. shaped-counted (shaped-in_state s f.serial (Running worker) (inl refl)) (step-left tenant some);
    at_advance = λ worker name f at passed. advance-shaped functions tenant worker name f (act_by_sight functions tenant f) at passed s;
    at_answer = λ worker serial f answer at passed.
        let stores = functions.accept f.value answer in
        let held = shaped-stored f.serial (stored stores f.value) tenant f (found-own tenant.frames serial f at) (length-stored stores f.value) s in
        shaped-counted (shaped-in_state held f.serial (Running worker) (inl refl)) (step-left tenant passed.1.1.0);
    at_inlet = λ worker name f parent at named passed.
        let act = functions.inlet (words_in tenant.frames parent) f.value in
        let frames = staying tenant.frames name.serial parent act.abort in
        let sa = inlet-stored-shaped tenant worker name.serial f parent act at named passed s in
        either LeftShaped (does_wait (frame_at frames parent) && (act.abort || act.wake || not (has_child frames parent))) _ _
        (shaped-in_state sa parent (Ready worker) (inl refl)) sa;
    at_finish = λ worker serial f at passed.
        shaped-counted (shaped-ended f.serial (Done (kept_words f.value)) tenant (λ r. refl) s) (step-left tenant passed.1.0);
    at_spend = λ serial f at. shaped-ended (root_of f.path) SpentJob tenant (λ r. refl) s;
    at_cancel = λ number root at. shaped-ended root CancelledJob tenant (λ r. refl) s;
    at_leave = λ number leaves. tt;
  })

-- from nothing: an admission
pub admitted-shaped : (quota : ReserveOf) → IsShaped (admitted_with quota)
admitted-shaped quota = grind arith
