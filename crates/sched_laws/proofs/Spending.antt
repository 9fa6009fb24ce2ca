-- When a tenant's job may be given up: exactly where no step is left, its frame's Advance would be refused by what the
-- act can't do, or its Inlet by a bad store.
use Rattle.sched_laws.proofs.Common.{◌≡◌, ◌↔◌, ℕ, inl, inr, Bool, true, false, eqb, List, [], ◌∷◌, Some, refl, sym, ◌∙◌, arith, cases_Bool, false≢true, eq-eqb, eqb-true, or_cases, and_parts, State, Running, FrameId, frame_at, parent_of, Refusal, Advance, Inlet, Functions, Tenant, left, unless, applies, refusal_in, lone_refusal, is_run, is_run_by, is_returned, act_by_sight, act_tests, advance_tests, advanced, inlet_under, is_bad_inlet, IsSpendable, IsActRefusal, IsStuck, IsBadInlet, MayBeSpent}
use Rattle.sched_laws.proofs.Holds.{F}
use Rattle.std.specs.Prelude.{◌↔◌}

-- tests whose refusals are those of an act
abbrev AreOfAct : List (Bool × Refusal) → Type 0
AreOfAct [] = Unit {0}
AreOfAct (test ∷ tests) = IsActRefusal test.1 × AreOfAct tests

-- where one of them applies, it is a refusal of an act
stuck : {X : Type 0} (tests : List (Bool × Refusal)) (effect : X) → AreOfAct tests → applies tests ≡ true →
    (refusal : Refusal) × IsActRefusal refusal × (refusal_in (unless tests effect) ≡ Some refusal)
stuck [] effect acts is = absurd (false≢true is)
stuck (test ∷ tests) effect acts is = elim (cases_Bool test.0) [
  | inl first ↦ (test.1, acts.0, rw first)
  | inr other ↦ rw other (stuck tests effect acts.1 (rw other at is))
]

-- who runs a frame
runner : (state : State) → is_run state ≡ true → (worker : ℕ) × (is_run_by worker state ≡ true)
runner (Running holder) is = (holder, eq-eqb holder holder refl)
runner _ is = absurd (false≢true is)

run-by : (worker : ℕ) (state : State) → is_run_by worker state ≡ true → is_run state ≡ true
run-by worker state h3 = grind arith

-- what an Advance of a frame that is there would be refused by, and an Inlet
module _ {I A : Type 0} (functions : Functions I A) (tenant : Tenant) (worker : ℕ) (name : FrameId) (frame : F)
    (at : frame_at tenant.frames name.serial ≡ Some frame) where
  advance-refusal : lone_refusal {A = A} functions (Some tenant) (Advance worker name)
      ≡ refusal_in (unless (advance_tests tenant worker frame (act_by_sight functions tenant frame)) (advanced functions tenant worker name frame (act_by_sight functions tenant frame)))
  advance-refusal = grind arith

  inlet-refusal : lone_refusal {A = A} functions (Some tenant) (Inlet worker name) ≡ refusal_in (inlet_under functions tenant worker name frame (parent_of frame.path))
  inlet-refusal = grind arith

-- the test whether a frame may be spent says what MayBeSpent says
module _ {I A : Type 0} (functions : Functions I A) (tenant : Tenant) (name : FrameId) (frame : F) (at : frame_at tenant.frames name.serial ≡ Some frame) where
  -- an act that can't be done is refused to the worker that runs the frame
  stuck-forth : eqb (left tenant).steps 0 ≡ false → is_run frame.state ≡ true → applies (act_tests tenant frame (act_by_sight functions tenant frame)) ≡ true →
      IsStuck functions tenant name
  stuck-forth some run acts =
      let w = runner frame.state run in
      let act = act_by_sight functions tenant frame in
      let effect = advanced functions tenant w.0 name frame act in
      let s = stuck (act_tests tenant frame act) effect (grind arith) acts in
      (w.0, s.0, s.1, advance-refusal functions tenant w.0 name frame at ∙ (rw (w.1, some) s.2))

  stuck-back : IsStuck functions tenant name → IsSpendable functions tenant frame
  stuck-back s =
      let refused = sym (advance-refusal functions tenant s.0 name frame at) ∙ s.3 in grind (arith, run-by)

  bad-forth : eqb (left tenant).steps 0 ≡ false → is_returned frame.state ≡ true → is_bad_inlet functions tenant frame (parent_of frame.path) ≡ true →
      IsBadInlet functions tenant name
  bad-forth some returned bad worker = grind (arith, inlet-refusal)

  bad-back : IsBadInlet functions tenant name → IsSpendable functions tenant frame
  bad-back b = let is = b 1 in grind (arith, inlet-refusal)

  may-forth : IsSpendable functions tenant frame → MayBeSpent functions tenant name
  may-forth is = grind (arith, eqb-true, cases_Bool, or_cases, and_parts, stuck-forth, bad-forth)

  pub may-be-spent : IsSpendable functions tenant frame ↔ MayBeSpent functions tenant name
  may-be-spent = (
    may-forth,
    (λ may. grind (arith, eq-eqb, stuck-back, bad-back)),
  )
