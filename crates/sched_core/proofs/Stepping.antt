-- What one step of the core does, from how it is judged; and what a list of steps does.
use Rattle.sched_core.proofs.Common.{[], ◌≡◌, ℕ, inl, inr, true, List, ◌∷◌, ◌++◌, Result, Ok, Err, refl, append_assoc, arith, Refusal, StepOf, DidOf, Functions, CoreState, is_admission, IsAnswerTo, IsOneStep, after_answer, after_answers, AreAnswersTo, IsHeadline, AreNumbersGiven, right-answer, step-taken, shared-after-taken, headline, Fitting, Rooting, only, taken_steps, OnErr, is_ok, CoreFits, RootFits, RootsFit, origins_of, origins_after, IsLawful, answer-keeps, run-fits, shaped_answer, reserved-answer, IsKeptCore, FollowsResult, IsAdmitted}

-- the core after a step that was judged
module _ {I A : Type 0} (functions : Functions I A) (before : CoreState) (step : StepOf A) (answer : Result (DidOf I) Refusal) where
  pub one-step : {after : CoreState} → FollowsResult functions before step answer after → IsOneStep functions before step answer after
  one-step is =
      record {
        answered = rw is.told (right-answer functions before step);
        left = grind arith;
      }

-- an admission for which memory is wanting
module _ {I A : Type 0} (functions : Functions I A) (before : CoreState) (step : StepOf A) where
  pub one-admission : {answer : Result (DidOf I) Refusal} {after : CoreState} → is_admission step ≡ true → IsAdmitted functions before step answer after →
      IsOneStep functions before step answer after
  one-admission {answer} admits (inl is) = one-step functions before step answer is
  one-admission admits (inr is) = grind arith

-- what follows from one step
module _ {I A : Type 0} {functions : Functions I A} {before : CoreState} {step : StepOf A} {after : CoreState} where
  pub stays-on-err : (answer : Result (DidOf I) Refusal) → IsOneStep functions before step answer after → OnErr answer (after ≡ before)
  stays-on-err answer is = grind arith

  -- no tenant is there under a number that wasn't taken
  pub known-still : (answer : Result (DidOf I) Refusal) → AreNumbersGiven before → IsOneStep functions before step answer after → AreNumbersGiven after
  known-still (Ok did) known is =
      let t = step-taken functions before step did known is.answered in grind (arith, shared-after-taken)
  known-still (Err refusal) known is = grind arith

  -- a core keeps what it keeps
  pub kept-still : (answer : Result (DidOf I) Refusal) → IsKeptCore before → IsOneStep functions before step answer after → IsKeptCore after
  kept-still answer kept is =
      record {
        shaped = grind (arith, shaped_answer);
        known = known-still answer kept.known is;
        within = rw is.left (reserved-answer functions before step answer kept.within);
      }

-- a list of steps, of which some were answered
pub record IsRunning {I A : Type 0} (functions : Functions I A) (before : CoreState) (steps : List (StepOf A))
    (earlier items : List (Result (DidOf I) Refusal)) (now : CoreState) : Type 0 where
  pub answered : List (Result (DidOf I) Refusal)
  pub appended : items ≡ earlier ++ answered
  pub right : AreAnswersTo functions before steps answered
  pub left : now ≡ after_answers functions before steps answered

-- one more answered step at the end
module _ {I A : Type 0} (functions : Functions I A) (step : StepOf A) (answer : Result (DidOf I) Refusal) where
  answers-snoc : (before : CoreState) (steps : List (StepOf A)) (answers : List (Result (DidOf I) Refusal)) → AreAnswersTo functions before steps answers →
      IsAnswerTo functions (after_answers functions before steps answers) step answer →
      AreAnswersTo functions before (steps ++ step ∷ []) (answers ++ answer ∷ [])
  answers-snoc before [] [] right is = (is, tt)
  answers-snoc before (first ∷ steps) (other ∷ answers) right is = (right.0, answers-snoc (after_answer functions before first other) steps answers right.1 is)
  answers-snoc before steps answers right is = grind arith

  after-snoc : (before : CoreState) (steps : List (StepOf A)) (answers : List (Result (DidOf I) Refusal)) → AreAnswersTo functions before steps answers →
      after_answers functions before (steps ++ step ∷ []) (answers ++ answer ∷ [])
      ≡ after_answer functions (after_answers functions before steps answers) step answer
  after-snoc before [] [] right = refl
  after-snoc before (first ∷ steps) (other ∷ answers) right = after-snoc (after_answer functions before first other) steps answers right.1
  after-snoc before steps answers right = grind arith

module _ {I A : Type 0} {functions : Functions I A} {before : CoreState} {steps : List (StepOf A)} {earlier items : List (Result (DidOf I) Refusal)}
    {now : CoreState} where
  pub runs-on : {step : StepOf A} {answer : Result (DidOf I) Refusal} {after : CoreState} → IsRunning functions before steps earlier items now →
      IsOneStep functions now step answer after → IsRunning functions before (steps ++ step ∷ []) earlier (items ++ answer ∷ []) after
  runs-on {step} {answer} runs is =
      record {
        answered = runs.answered ++ answer ∷ [];
        appended = grind (arith, append_assoc);
        right = grind (arith, answers-snoc);
        left = grind (arith, after-snoc);
      }

  -- at its end the headline holds
  pub runs-out : AreNumbersGiven before → IsRunning functions before steps earlier items now →
      (answered : List (Result (DidOf I) Refusal)) × (items ≡ earlier ++ answered) × IsHeadline functions before steps answered now
  runs-out known runs = grind (arith, headline)

-- a lawful procedure's frames go on fitting
module _ {I A : Type 0} {functions : Functions I A} {fits : Fitting} {rooted : Rooting} {before : CoreState} (lawful : IsLawful functions fits rooted) where
  pub fits-still : {step : StepOf A} {answer : Result (DidOf I) Refusal} {after : CoreState} → IsKeptCore before →
      IsOneStep functions before step answer after → (origins : ℕ → List (List ℕ)) → CoreFits fits rooted origins before →
      (is_ok answer ≡ true → RootFits fits rooted step) → CoreFits fits rooted (origins_after origins step answer) after
  fits-still {step} {answer} kept is origins core root =
      rw is.left (answer-keeps functions fits rooted origins before step answer lawful kept.known kept.shaped core root is.answered).1

  -- so over a list of steps
  pub fits-on : {steps : List (StepOf A)} {earlier items : List (Result (DidOf I) Refusal)} {now : CoreState} → IsKeptCore before →
      IsRunning functions before steps earlier items now → (answered : List (Result (DidOf I) Refusal)) → items ≡ earlier ++ answered →
      (origins : ℕ → List (List ℕ)) → CoreFits fits rooted origins before → RootsFit fits rooted (taken_steps steps answered) →
      CoreFits fits rooted (λ number. origins number ++ origins_of (only number (taken_steps steps answered))) now
  fits-on {steps} {earlier} kept runs answered appended origins core roots = grind (arith, append-left, run-fits)
    where
      append-left : {X : Type 0} (xs ys zs : List X) → xs ++ ys ≡ xs ++ zs → ys ≡ zs
      append-left [] ys zs e = e
      append-left (x ∷ xs) ys zs e = append-left xs ys zs (cc)

-- one step, admissions among them
pub ruleset one_step = (one-step, one-admission)
