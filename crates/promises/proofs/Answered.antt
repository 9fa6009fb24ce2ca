-- For the promises: there is one answer for each step; and what holds of a value that there is.
use Rattle.promises.proofs.Common.{◌≡◌, List, [], ◌∷◌, length, Result, Ok, Err, refl, arith, IfOk, Functions, Refusal, StepOf, DidOf, CoreState, AreAnswersTo, after_answer}

-- what a step is answered
abbrev pub Answer : Type 0 → Type 0
Answer I = Result (DidOf I) Refusal

pub as-many : {I A : Type 0} (functions : Functions I A) (before : CoreState) (steps : List (StepOf A)) (answers : List (Answer I)) →
    AreAnswersTo functions before steps answers → length answers ≡ length steps
as-many functions before [] [] right = refl
as-many functions before (step ∷ steps) (answer ∷ answers) right =
    omega (arith, as-many functions (after_answer functions before step answer) steps answers right.1)
as-many functions before steps answers right = absurd right

pub if-ok : {T E : Type 0} {P Q : T → Type 0} (r : Result T E) → ((value : T) → P value → Q value) → IfOk r P → IfOk r Q
if-ok (Ok value) make p = make value p
if-ok (Err error) make p = tt
