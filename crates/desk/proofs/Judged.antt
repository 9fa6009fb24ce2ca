-- Lists of steps that a core takes, for any procedure: each tenant is what its own steps make of it.
use Rattle.desk.proofs.Common.{◌≡◌, ℕ, List, [], ◌∷◌, ◌++◌, false, refl, sym, ap, ◌∙◌, arith, None, Result, Ok, Err, Refusal, StepOf, DidOf, Functions, Outcome, lone, refusal_in, only, answer_of, alone_from, CoreState, tenant_in, step_result, shared_refusal, shared_after, shared_run, newest_after, IsAnswerTo, IsHeadline, AreAnswersTo, AreNumbersGiven, after_answers, taken_steps, is_admit, AreTaken}

-- a step that is no Admit leaves the greatest number as it was
pub newest-stays : {A : Type 0} (newest : ℕ) (step : StepOf A) → is_admit step ≡ false → newest_after newest step ≡ newest
newest-stays newest step other = grind arith

-- Steps of cores whose frames run this procedure.
module _ {I A : Type 0} (functions : Functions I A) where
  -- and it isn't taken of a tenant that isn't there
  pub no-first : (step : StepOf A) (outcome : Outcome I) → is_admit step ≡ false → lone functions None step ≡ Ok outcome → ⊥
  no-first step outcome other taken = grind arith

  -- the core after a step
  abbrev pub next : CoreState → StepOf A → CoreState
  next shared step = shared_after shared step (step_result functions shared step)

  abbrev run : CoreState → List (StepOf A) → CoreState
  run shared steps = shared_run functions shared steps

  -- one step more
  pub run-more : (shared : CoreState) (steps : List (StepOf A)) (step : StepOf A) → run shared (steps ++ step ∷ []) ≡ next (run shared steps) step
  run-more shared [] step = refl
  run-more shared (s ∷ steps) step = run-more (next shared s) steps step

  pub taken-more : (shared : CoreState) (steps : List (StepOf A)) (step : StepOf A) → AreTaken functions shared steps →
      shared_refusal functions (run shared steps) step ≡ None → AreTaken functions shared (steps ++ step ∷ [])
  taken-more shared [] step h none = (none, tt)
  taken-more shared (s ∷ steps) step h none = (h.0, taken-more (next shared s) steps step h.1 none)

  abbrev Answers : Type 0
  Answers = List (Result (DidOf I) Refusal)

  -- the answers to steps that are all taken
  abbrev answers_to : CoreState → List (StepOf A) → Answers
  answers_to shared [] = []
  answers_to shared (step ∷ steps) = answer_of (step_result functions shared step) ∷ answers_to (next shared step) steps

  abbrev pub Rights : Type 0
  Rights = (before : CoreState) (step : StepOf A) → IsAnswerTo functions before step (answer_of (step_result functions before step))

  abbrev after : CoreState → List (StepOf A) → Answers → CoreState
  after before steps answers = after_answers functions before steps answers

  abbrev pub Headlines : Type 0
  Headlines = (before : CoreState) (steps : List (StepOf A)) (answers : Answers) → AreNumbersGiven before → AreAnswersTo functions before steps answers →
      IsHeadline functions before steps answers (after before steps answers)

  abbrev AreRight : CoreState → List (StepOf A) → Answers → Type 0
  AreRight shared steps answers = AreAnswersTo functions shared steps answers × (taken_steps steps answers ≡ steps) × (after shared steps answers ≡ run shared steps)

  one-right : (shared : CoreState) (step : StepOf A) (steps : List (StepOf A)) (later : Answers) (r : Result (Outcome I) Refusal) → IsAnswerTo functions shared step (answer_of r) → step_result functions shared step ≡ r →
      refusal_in r ≡ None → AreRight (next shared step) steps later → AreRight shared (step ∷ steps) (answer_of r ∷ later)
  one-right shared step steps later (Err refusal) right is none rest = absurd (cc none)
  one-right shared step steps later (Ok outcome) right is none rest = ((right, rest.0), ap (λ l. step ∷ l) rest.1, rest.2)

  right-answers : (shared : CoreState) (steps : List (StepOf A)) → Rights → AreTaken functions shared steps → AreRight shared steps (answers_to shared steps)
  right-answers shared [] right h = (tt, refl, refl)
  right-answers shared (step ∷ steps) right h =
      one-right shared step steps (answers_to (next shared step) steps) (step_result functions shared step) (right shared step) refl h.0 (right-answers (next shared step) steps right h.1)

  -- each tenant is what its own steps make of it
  pub isolated : (shared : CoreState) (steps : List (StepOf A)) (t : ℕ) → Rights → Headlines → AreNumbersGiven shared → AreTaken functions shared steps →
      tenant_in (run shared steps).tenants t ≡ alone_from functions (tenant_in shared.tenants t) (only t steps)
  isolated shared steps t right headline given h =
      let r = right-answers shared steps right h in
      let state = ((headline shared steps (answers_to shared steps) given r.0).undisturbed t).state in
      ap (λ (c : CoreState). tenant_in c.tenants t) (sym r.2) ∙ state ∙ ap (λ l. alone_from functions (tenant_in shared.tenants t) (only t l)) r.1
