-- Meaning: what a procedure is to the core: five functions, of the words shown and of the values passed, that say what
-- a frame does. (Cilk 5.4 Reference Manual: procedures, inlets.)
use Rattle.std.specs.Prelude.{ℕ, Bool, List}
use Rattle.sched_rules.specs.declared.act.Act.{Act}
use Rattle.sched_rules.specs.declared.act.InletAct.{InletAct}

-- the five functions of a procedure whose inputs are of type I and whose answers are of type A, and when two inputs are the same:
-- the next act of a frame, from the lists of words that it sees, its own first; what a parent does about a returned child, from
-- the words of both; what a frame is computed from, from its words; what an answer was computed from; and what a frame stores
-- of an answer, from its words and the answer
pub record Functions (I A : Type 0) : Type 0 where
  pub next : List (List ℕ) → Act
  pub inlet : List ℕ → List ℕ → InletAct
  pub input : List ℕ → I
  pub asked : A → I
  pub accept : List ℕ → A → List (ℕ × ℕ)
  pub same : I → I → Bool
