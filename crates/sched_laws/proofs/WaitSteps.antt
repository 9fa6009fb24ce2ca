-- After every step each frame that waits has a child: of one tenant, and so of all tenants of a core.
use Rattle.sched_laws.proofs.Common.{◌≡◌, ◌≢◌, if◌then◌else◌, ℕ, ◌+◌, inl, inr, Bool, true, false, not, ◌||◌, ◌&&◌, eqb, List, [], ◌∷◌, ◌++◌, Option, Some, None, Result, Ok, Err, refl, ap, ◌∙◌, sym, arith, cases_Bool, cases_eq, State, Ready, Running, Computing, Returned, FrameId, frame_at, has_frame, AllBelow, path_in, parent_of, root_of, children_of, IsTree, with_state, found-serial, found-there, tree-aborted, tree-without, new-frame-next, AllBelow-alike, Act, InletAct, Continuation, Grow, Spawn, Go, Wait, Compute, Return, StepOf, Functions, Tree, Tenant, words_in, stored, has_child, is_root, is_returned, job_under, Outcome, lone_step, counted, holding, act_by_sight, advance_tests, then_done, inlet_tests, taken_in, does_wait, staying, with_frame_words, ReserveOf, IsShaped, AreShaped, Refusal, DidOf, CoreState, tenant_in, tenant_of, with_outcome, tenant_in-with_outcome, tenant_in-other-with_outcome, step_result, shared_after, after_answer, after_answers, not-false, or_parts, padded}
use Rattle.sched_laws.proofs.Holds.{F, tree-with_frame_words, with_frame_words-alike, frame_at-with_frame_words, found-own}
use Rattle.sched_laws.proofs.Shaped.{AllPass, by-effects, returned-childless, returned-marked}
use Rattle.sched_laws.proofs.Consequences.{live-root, root-live, root-above, shaped-in, by-taken, shaped_answer}
use Rattle.sched_laws.proofs.Waits.{WaitsAt, waits-with_state, waits-with_frame_words, waits-push, waits-aborted, waits-without, waits-without_job}
use Rattle.frame_table.specs.declared.names.State.TheVariants.{Waiting}
use Rattle.sched_laws.specs.Onward.{EachWaitsForChildren}

-- in these frames each that waits has a child
abbrev pub WaitsAll : Tree → Type 0
WaitsAll tree = (s : ℕ) → WaitsAt tree s

-- what a step leaves waits only for children
abbrev pub LeftWaiting : Option Tenant → Type 0
LeftWaiting None = Unit {0}
LeftWaiting (Some tenant) = WaitsAll tenant.frames

-- either branch of a test, where it is taken
branch : {I : Type 0} (P : Option Tenant → Type 0) (test : Bool) (x y : Outcome I) → (test ≡ true → P x.0) → (test ≡ false → P y.0) → P (if test then x else y).0
branch P true x y p q = p refl
branch P false x y p q = q refl

-- a state that doesn't wait
module _ (n : ℕ) (state : State) (t : Tenant) (tree : IsTree t.frames) (all : WaitsAll t.frames) where
  waits-state : state ≢ Waiting → WaitsAll (with_state n state t.frames)
  waits-state goes s = waits-with_state n state t.frames s tree (λ other. all s) (λ same is. absurd (goes is))

-- what comes after the stores of an act
module _ {I A : Type 0} (functions : Functions I A) (t : Tenant) (worker : ℕ) (name : FrameId) (frame : F) (tree : IsTree t.frames) (all : WaitsAll t.frames) where
  waiting : has_child t.frames name.serial ≡ true → WaitsAll (with_state name.serial Waiting t.frames)
  waiting has s = waits-with_state name.serial Waiting t.frames s tree (λ other. all s) (λ same is. rw same has)

  then-waits : (after : Continuation) → AllBelow (t.serials + 1) t.frames → has_frame t.frames name.serial ≡ true → LeftWaiting (then_done functions t worker name frame after).0
  then-waits (Grow more) below there = λ s. waits-with_frame_words name.serial _ t.frames s tree (all s)
  then-waits (Spawn given size) below there = λ s.
      waits-push t.frames _ s tree (new-frame-next t.frames (t.serials + 1) (Some name.serial) worker (padded given size) tree below there) (λ e. cc) (all s)
  then-waits Go below there = all
  then-waits Wait below there = branch LeftWaiting (has_child t.frames name.serial) _ _ waiting (λ none. all)
  then-waits Compute below there = waits-state name.serial (Computing worker) t tree all (λ e. cc)
  then-waits Return below there =
      branch LeftWaiting (has_child t.frames name.serial) _ _ waiting (λ none. waits-state name.serial Returned t tree all (λ e. cc))

-- the frames that stay at an inlet
module _ (tenant : Tenant) (shape : IsShaped tenant) (n parent : ℕ) (f : F) (at : frame_at tenant.frames n ≡ Some f) (named : parent_of f.path ≡ Some parent)
    (leaf : children_of tenant.frames n ≡ []) where
  pub staying-tree : (abort : Bool) → IsTree (staying tenant.frames n parent abort)
  staying-tree true = tree-aborted parent tenant.frames shape.tree
  staying-tree false = tree-without n tenant.frames shape.tree leaf

  staying-waits : (abort : Bool) → WaitsAll tenant.frames → (s : ℕ) → s ≢ parent → WaitsAt (staying tenant.frames n parent abort) s
  staying-waits true all = waits-aborted tenant.frames parent shape.tree (λ s other. all s)
  staying-waits false all = waits-without tenant.frames parent shape.tree (λ s other. all s) n f at named leaf

  -- Inlet: a parent that isn't woken has a child where it waits
  inlet-waits : (I : Type 0) (worker : ℕ) (name : FrameId) (act : InletAct) → name.serial ≡ n → WaitsAll tenant.frames → LeftWaiting (taken_in {I = I} tenant worker name parent act).0
  inlet-waits I worker name act own all =
      let frames = staying tenant.frames n parent act.abort in
      let words = stored act.stores (words_in frames parent) in
      let stay = λ (s : ℕ) (other : s ≢ parent). waits-with_frame_words parent words frames s (staying-tree act.abort) (staying-waits act.abort all s other) in
      rw own (branch LeftWaiting (does_wait (frame_at frames parent) && (act.abort || act.wake || not (has_child frames parent))) _ _
      (λ woken s. waits-with_state parent (Ready worker) (with_frame_words parent words frames) s (tree-with_frame_words parent words frames (staying-tree act.abort))
      (stay s) (λ same is. absurd cc))
      (λ asleep s. waits-with_frame_words parent words frames s (staying-tree act.abort) (elim (cases_eq s parent) [
        | inl same ↦ rw same (λ g at_g waits. grind arith)
        | inr other ↦ staying-waits act.abort all s other
      ])))

-- every step of a tenant that has the core to itself
module _ {I A : Type 0} (functions : Functions I A) (tenant : Tenant) (shape : IsShaped tenant) (all : WaitsAll tenant.frames) where
  pub step-waits : (step : StepOf A) (outcome : Outcome I) → lone_step functions tenant step ≡ Ok outcome → LeftWaiting outcome.0
  step-waits step outcome is = by-effects functions tenant step outcome LeftWaiting is (record {
    at_raise = λ number quota raises enough. all;
    at_submit = λ number words size submits passed s.
        waits-push tenant.frames _ s shape.tree (new-frame-next tenant.frames (tenant.serials + 1) None 0 (padded words size) shape.tree shape.given refl) (λ e. cc) (all s);
    at_take = λ worker serial f at ready some. waits-state f.serial (Running worker) tenant shape.tree all (λ e. cc);
    at_advance = λ worker name f at passed.
        let act = act_by_sight functions tenant f in
        let words = stored act.stores f.value in
        let frames = with_frame_words f.serial words tenant.frames in
        let here = frame_at-with_frame_words f.serial words tenant.frames f (found-own tenant.frames name.serial f at) in
        then-waits functions (counted (holding f.serial words tenant)) worker name (record f { value = words }) (tree-with_frame_words f.serial words tenant.frames shape.tree)
        (λ s. waits-with_frame_words f.serial words tenant.frames s shape.tree (all s)) act.after
        (AllBelow-alike tenant.frames frames (tenant.serials + 1) (with_frame_words-alike f.serial words tenant.frames) shape.given)
        (ap (has_frame frames) (sym (found-serial tenant.frames name.serial f at)) ∙ found-there frames f.serial _ here);
    at_answer = λ worker serial f answer at passed.
        let words = stored (functions.accept f.value answer) f.value in
        waits-state f.serial (Running worker) (holding f.serial words tenant) (tree-with_frame_words f.serial words tenant.frames shape.tree)
        (λ s. waits-with_frame_words f.serial words tenant.frames s shape.tree (all s)) (λ e. cc);
    at_inlet = λ worker name f parent at named passed.
        let leaf = returned-childless tenant name.serial f shape at (returned-marked f.state (not-false (is_returned f.state) passed.0)) in
        inlet-waits tenant shape name.serial parent f at named leaf I worker name (functions.inlet (words_in tenant.frames parent) f.value) refl all;
    at_finish = λ worker serial f at passed s.
        let root = not-false (is_root f.path) (or_parts (not (is_returned f.state)) (not (is_root f.path)) passed.0).1 in
        let own = found-own tenant.frames serial f at in
        waits-without_job tenant.frames f.serial shape.tree (λ q other. all q)
        (live-root tenant (job_under f.serial tenant.jobs) f.serial shape (root-live tenant f.serial f shape own root)) s;
    at_spend = λ serial f at s. waits-without_job tenant.frames (root_of f.path) shape.tree (λ q other. all q) (root-above tenant serial f shape at) s;
    at_cancel = λ number root at s. waits-without_job tenant.frames root shape.tree (λ q other. all q) (live-root tenant number root shape at) s;
    at_leave = λ number leaves. tt;
  })

-- every step of a core
module _ {I A : Type 0} (functions : Functions I A) where
  outcome-waits : (before : CoreState) (step : StepOf A) (outcome : Outcome I) → AreShaped before.tenants → EachWaitsForChildren before →
      step_result functions before step ≡ Ok outcome → LeftWaiting outcome.0
  outcome-waits before step outcome shaped all is = by-taken functions before step outcome LeftWaiting is (record {
    at_admit = λ number quota admits passed s f at waits. absurd cc;
    at_step = λ tenant o at taken allowed.
        step-waits functions tenant (shaped-in (tenant_of step) before.tenants tenant shaped at) (all (tenant_of step) tenant at) step o taken;
  })

  after-waits : (before : CoreState) (step : StepOf A) (came_to : Result (Outcome I) Refusal) → step_result functions before step ≡ came_to →
      AreShaped before.tenants → EachWaitsForChildren before → EachWaitsForChildren (shared_after before step came_to)
  after-waits before step (Err refusal) is shaped all = all
  after-waits before step (Ok outcome) is shaped all = λ number tenant at. elim (cases_eq (tenant_of step) number) [
    | inl same ↦ left tenant outcome.0
        (sym (tenant_in-with_outcome (tenant_of step) outcome.0 before.tenants) ∙ ap (tenant_in (with_outcome (tenant_of step) outcome.0 before.tenants)) same ∙ at) (outcome-waits before step outcome shaped all is)
    | inr other ↦ all number tenant (sym (tenant_in-other-with_outcome number (tenant_of step) outcome.0 before.tenants other) ∙ at)
  ]
    where
      left : (tenant : Tenant) (o : Option Tenant) → o ≡ Some tenant → LeftWaiting o → WaitsAll tenant.frames
      left tenant None e waits = absurd cc
      left tenant (Some t) e waits = (let same : t ≡ tenant = cc in rw (← same) waits)

  pub waits-answer : (before : CoreState) (step : StepOf A) (answer : Result (DidOf I) Refusal) → AreShaped before.tenants → EachWaitsForChildren before →
      EachWaitsForChildren (after_answer functions before step answer)
  waits-answer before step (Ok did) shaped all = after-waits before step (step_result functions before step) refl shaped all
  waits-answer before step (Err refusal) shaped all = all

  pub waits-answers : (before : CoreState) (steps : List (StepOf A)) (answers : List (Result (DidOf I) Refusal)) → AreShaped before.tenants → EachWaitsForChildren before →
      EachWaitsForChildren (after_answers functions before steps answers)
  waits-answers before [] answers shaped all = all
  waits-answers before (step ∷ steps) [] shaped all = all
  waits-answers before (step ∷ steps) (answer ∷ answers) shaped all =
      waits-answers (after_answer functions before step answer) steps answers (shaped_answer functions before step answer shaped) (waits-answer before step answer shaped all)
