-- A worker can go on with each frame that doesn't wait, and the newest frame of a job doesn't.
use Rattle.sched_laws.proofs.Common.{◌≡◌, ◌≢◌, if◌then◌else◌, ℕ, ◌+◌, ◌<◌, ◌≤◌, ◌⊎◌, inl, inr, Bool, true, false, not, ◌||◌, ◌&&◌, eqb, ltb, List, [], ◌∷◌, ◌++◌, Option, Some, None, Result, Ok, Err, refl, ap, ◌∙◌, sym, subst, arith, cases_Bool, cases_eq, eq-eqb, eqb-true, false≢true, or_parts, filter, length, State, Ready, Running, Computing, Returned, FrameId, frame_at, path_in, parent_of, root_of, children_of, IsTree, is_ready, there-found, found-serial, found-there, found-path, tree-rising, above-missing, found-each, children-by-paths, under-below, top-path, is_child_of, is_that, Each, AreSerialsRising, StepOf, Take, Steal, Advance, Answer, Inlet, Finish, Spend, Functions, Tree, Tenant, words_in, is_outside, has_child, is_busy_in, is_root, job_at, left, Live, Refusal, Outcome, lone_refusal, unless, applies, refusal_in, act_by_sight, act_tests, advance_tests, advanced, answer_tests, answered, inlet_tests, take_tests, steal_tests, taken_by, taken_in, finish_tests, finished, is_spendable, is_bad_inlet, is_returned, is_run, IsShaped, CoreState, tenant_in, tenant_of, meets_busy}
use Rattle.sched_laws.proofs.Holds.{F, found-own}
use Rattle.sched_laws.proofs.Parts.{path-there}
use Rattle.sched_laws.proofs.Consequences.{live-root}
use Rattle.sched_rules.proofs.Isolation.{spendable-where}
use Rattle.sched_rules.specs.Cores.{is_busy_elsewhere}
use Rattle.frame_table.specs.declared.names.State.TheVariants.{Waiting}
use Rattle.frame_table.proofs.TreeLaws.{filter-none, found-ends, under-path}
use Rattle.frame_table.proofs.Forest.{root_of-append}
use Rattle.sched_laws.specs.Onward.{WaitsForChildren, IsNewestOfJob, GoesOnWith, HasAnswer, SomebodyCan, CanGoOnAlone}

-- a step that is taken, by which a worker goes on with a frame; where it needs to be free, it is enough that it isn't busy elsewhere
abbrev pub Goes : {I A : Type 0} → Functions I A → Tenant → FrameId → Bool → ℕ → Type 0
Goes {A = A} functions tenant name needs worker =
    (step : StepOf A) × GoesOnWith worker name step × (lone_refusal functions (Some tenant) step ≡ None)
    × ((entries : List (ℕ × Tenant)) → (needs ≡ true → is_busy_elsewhere worker name.tenant entries ≡ false) → meets_busy step entries ≡ false)

-- where no test of a step applies, it isn't refused
passes : {X : Type 0} (tests : List (Bool × Refusal)) (effect : X) → applies tests ≡ false → refusal_in (unless tests effect) ≡ None
passes [] effect none = refl
passes (test ∷ tests) effect none = grind (arith, passes tests effect, cases_Bool)

module _ {I A : Type 0} (functions : Functions I A) (tenant : Tenant) (name : FrameId) (frame : F) (at : frame_at tenant.frames name.serial ≡ Some frame) where
  -- a frame that may be spent
  goes-spent : (needs : Bool) (worker : ℕ) → is_spendable functions tenant frame ≡ true → Goes functions tenant name needs worker
  goes-spent needs worker may = (Spend name, refl, (spendable-where functions tenant name frame at).1 may, λ entries free. refl)

  -- where no step is left, each frame may be
  goes-if : (needs : Bool) (worker : ℕ) → (eqb (left tenant).steps 0 ≡ false → Goes functions tenant name needs worker) → Goes functions tenant name needs worker
  goes-if needs worker go = elim (cases_Bool (eqb (left tenant).steps 0)) [
    | inl none ↦ goes-spent needs worker (grind arith)
    | inr some ↦ go some
  ]

  -- a frame that is ready
  pub goes-ready : (home worker : ℕ) → frame.state ≡ Ready home → is_busy_in worker tenant.frames ≡ false → Goes functions tenant name true worker
  goes-ready home worker is free = goes-if true worker (λ some. elim (cases_Bool (eqb home worker)) [
    | inl own ↦ (Take worker name, (refl, refl), rw at (passes (take_tests tenant worker frame) (taken_by tenant worker frame) (grind arith)), λ entries else_free. else_free refl)
    | inr other ↦ (Steal worker home name, (refl, refl), rw at (passes (steal_tests tenant worker home frame) (taken_by tenant worker frame) (grind (arith, eq-eqb))), λ entries else_free. else_free refl)
  ])

  -- a frame that runs
  pub goes-running : (worker : ℕ) → frame.state ≡ Running worker → Goes functions tenant name false worker
  goes-running worker is = goes-if false worker (λ some. elim (cases_Bool (applies (act_tests tenant frame (act_by_sight functions tenant frame)))) [
    | inl bad ↦ goes-spent false worker (grind arith)
    | inr good ↦ (
      Advance worker name,
      (refl, refl),
      rw at (passes (advance_tests tenant worker frame (act_by_sight functions tenant frame)) (advanced functions tenant worker name frame (act_by_sight functions tenant frame)) (grind (arith, eq-eqb))),
      λ entries else_free. refl,
    )
  ])

  -- a frame that is computed
  pub goes-computing : (worker : ℕ) → frame.state ≡ Computing worker → HasAnswer functions frame.value → Goes functions tenant name false worker
  goes-computing worker is has = goes-if false worker (λ some. (
    Answer worker name has.0,
    (refl, refl),
    rw at (passes (answer_tests functions tenant worker frame has.0) (answered functions tenant worker frame has.0) (grind (arith, eq-eqb))),
    λ entries else_free. refl,
  ))

  -- a frame that has returned
  pub goes-returned : (worker : ℕ) → IsTree tenant.frames → frame.state ≡ Returned → is_busy_in worker tenant.frames ≡ false → Goes functions tenant name true worker
  goes-returned worker tree is free = goes-if true worker (λ some. by (parent_of frame.path) refl some)
    where
      by : (parent : Option ℕ) → parent_of frame.path ≡ parent → eqb (left tenant).steps 0 ≡ false → Goes functions tenant name true worker
      by None top some = (let path = top-path tenant.frames name.serial frame tree at top in (
        Finish worker name,
        (refl, refl),
        rw at (passes (finish_tests tenant worker frame) (finished tenant frame) (grind arith)),
        λ entries else_free. else_free refl,
      ))
      by (Some parent) under some =
          let act = functions.inlet (words_in tenant.frames parent) frame.value in
          elim (cases_Bool (is_outside act.stores (words_in tenant.frames parent))) [
            | inl bad ↦ goes-spent true worker (grind arith)
            | inr good ↦ (
              Inlet worker name,
              (refl, refl),
              rw (at, under) (passes (inlet_tests tenant worker frame parent act) (taken_in tenant worker name parent act) (grind arith)),
              λ entries else_free. else_free refl,
            )
          ]

-- so somebody can go on with each frame that does not wait, where its tenant has the core to itself
pub alone : {I A : Type 0} (functions : Functions I A) (tenant : Tenant) (name : FrameId) (frame : F) → IsShaped tenant → frame_at tenant.frames name.serial ≡ Some frame →
    SomebodyCan functions frame.value (λ worker. is_busy_in worker tenant.frames) (λ worker. CanGoOnAlone functions tenant worker name) frame.state
alone functions tenant name frame shape at = by frame.state refl
  where
    by : (state : State) → frame.state ≡ state → SomebodyCan functions frame.value (λ worker. is_busy_in worker tenant.frames) (λ worker. CanGoOnAlone functions tenant worker name) state
    by (Ready home) is = λ worker free. (let g = goes-ready functions tenant name frame at home worker is free in (g.0, g.1, g.2))
    by (Running worker) is = (let g = goes-running functions tenant name frame at worker is in (g.0, g.1, g.2))
    by (Computing worker) is = λ has. (let g = goes-computing functions tenant name frame at worker is has in (g.0, g.1, g.2))
    by Waiting is = tt
    by Returned is = λ worker free. (let g = goes-returned functions tenant name frame at worker shape.tree is free in (g.0, g.1, g.2))
