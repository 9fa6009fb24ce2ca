-- Lines in, answers out: chains of states, from read to read and write to write, and the relations that make them.
use Rattle.line_io.proofs.Common.{◌≡◌, ℕ, List, [], ◌∷◌, ◌++◌, refl, sym, ap, ◌∙◌, subst, append-nil, concat-append, concat, LineText, Leads, Answers, ReadAnswer, WriteAnswer}

-- what reads do to a source, writes to a sink, and answers to lines to an answerer
abbrev pub Reading : Type 0 → Type 1
Reading S = S → ReadAnswer → S → Type 0

abbrev pub Writing : Type 0 → Type 1
Writing K = K → WriteAnswer → K → Type 0

abbrev pub Answering : Type 0 → Type 1
Answering A = A → LineText → List ℕ → A → Type 0

module _ {S E : Type 0} (steps : S → E → S → Type 0) where
  -- two chains, one after the other
  pub Leads-append : (a : S) (xs : List E) (b : S) (ys : List E) (c : S) → Leads steps a xs b → Leads steps b ys c → Leads steps a (xs ++ ys) c
  Leads-append a [] b ys c p q = subst (λ s. Leads steps s ys c) (sym p) q
  Leads-append a (x ∷ xs) b ys c p q = (p.0, p.1, Leads-append p.0 xs b ys c p.2 q)

  -- one step more
  pub Leads-more : (a : S) (xs : List E) (b : S) (y : E) (c : S) → Leads steps a xs b → steps b y c → Leads steps a (xs ++ y ∷ []) c
  Leads-more a xs b y c p q = Leads-append a xs b (y ∷ []) c p (c, q, refl)

-- two chains of answers, one after the other
module _ {A : Type 0} (answers : Answering A) where
  pub Answers-append : (a : A) (ls : List LineText) (ts : List (List ℕ)) (b : A) (ms : List LineText) (us : List (List ℕ)) (c : A) →
      Answers answers a ls ts b → Answers answers b ms us c → Answers answers a (ls ++ ms) (ts ++ us) c
  Answers-append a [] [] b ms us c p q = subst (λ s. Answers answers s ms us c) (sym p) q
  Answers-append a (l ∷ ls) (t ∷ ts) b ms us c p q = (p.0, p.1, Answers-append p.0 ls ts b ms us c p.2 q)
  Answers-append a ls ts b ms us c p q = absurd p

-- one piece more
pub concat-more : (xss : List (List ℕ)) (xs : List ℕ) → concat (xss ++ xs ∷ []) ≡ concat xss ++ xs
concat-more xss xs = concat-append xss (xs ∷ []) ∙ ap (λ z. concat xss ++ z) (append-nil xs)
