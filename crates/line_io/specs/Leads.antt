-- Meaning: chains of states of an input, an output or an answerer: each state leads to the next by one read, write or
-- answer.
use Rattle.std.specs.Prelude.{◌≡◌, ℕ, List, [], ◌∷◌, ◌++◌}
use Rattle.line_io.specs.Lines.{LineText}

-- a source's reads, a sink's writes or an office's calls between two of its states: what one step is, and both states
pub record Passage (S E : Type 0) : Type 1 where
  pub step : S → E → S → Type 0
  pub from : S
  pub to : S

-- what passes by these steps from the first state to the last
abbrev pub between : {S E : Type 0} → (S → E → S → Type 0) → S → S → Passage S E
between step from to = record { step = step; from = from; to = to }

-- an answerer's answers between two of its states: what one answer to a line is, and both states
pub record AnswerPassage (A : Type 0) : Type 1 where
  pub step : A → LineText → List ℕ → A → Type 0
  pub from : A
  pub to : A

-- what is answered by these steps from the first state to the last
abbrev pub answering : {A : Type 0} → (A → LineText → List ℕ → A → Type 0) → A → A → AnswerPassage A
answering step from to = record { step = step; from = from; to = to }

-- these events, in order, lead from the first state to the last: each is one step of the relation
abbrev pub Leads : {S E : Type 0} → (S → E → S → Type 0) → S → List E → S → Type 0
Leads steps from [] to = from ≡ to
Leads steps from (e ∷ es) to = (next : _) × steps from e next × Leads steps next es to

-- these lines, in order, are answered by these texts, one for each, and lead the answerer from the first state to the last
abbrev pub Answers : {A : Type 0} → (A → LineText → List ℕ → A → Type 0) → A → List LineText → List (List ℕ) → A → Type 0
Answers answers from [] [] to = from ≡ to
Answers answers from [] (t ∷ ts) to = ⊥
Answers answers from (l ∷ ls) [] to = ⊥
Answers answers from (l ∷ ls) (t ∷ ts) to = (next : _) × answers from l t next × Answers answers next ls ts to

-- the first list is a beginning of the second
abbrev pub IsPrefixOf : {X : Type 0} → List X → List X → Type 0
IsPrefixOf xs ys = (rest : _) × (xs ++ rest ≡ ys)
