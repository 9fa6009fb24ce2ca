-- Representation: a procedure for played texts of steps, whose frames do what their words say.
use Rattle.std.specs.Prelude.{ℕ, ◌/◌, ◌%◌, ◌==◌, List, [], ◌∷◌, if◌then◌else◌}
use Rattle.sched_rules.specs.declared.act.Act.{Act}
use Rattle.sched_rules.specs.declared.act.InletAct.{InletAct}
use Rattle.sched_rules.specs.declared.act.Continuation.{Continuation}
use Rattle.sched_rules.specs.declared.act.Continuation.TheVariants.{Grow, Spawn, Go, Wait, Compute, Return}
use Rattle.transcripts.specs.declared.reader.ReaderAnswer.{ReaderAnswer}
use Rattle.toys.specs.Toys.{word_at}

-- the act of a frame that makes these stores, and after them goes on so
abbrev pub act_with_stores : List (ℕ × ℕ) → Continuation → Act
act_with_stores stores after = record { stores = stores; after = after }

-- the store that takes the lowest digit off the octal number in word 0, a frame's acts
abbrev pub acts_left : ℕ → List (ℕ × ℕ)
acts_left acts = (0, acts / 8) ∷ []

-- the act that an octal digit stands for, of a frame with these acts, whose children get those below: 0 returns,
-- 1 goes on, 2 grows by 16 words, 3 opens a child, 4 waits, 5 computes, 6 stores at place 128, which no frame
-- has, and 7 goes on for ever
abbrev pub act_of_digit : ℕ → ℕ → ℕ → Act
act_of_digit digit acts below =
    if digit == 0 then act_with_stores [] Return
    else if digit == 1 then act_with_stores (acts_left acts) Go
    else if digit == 2 then act_with_stores (acts_left acts) (Grow 16)
    else if digit == 3 then act_with_stores (acts_left acts) (Spawn (below ∷ 0 ∷ []) 4)
    else if digit == 4 then act_with_stores (acts_left acts) Wait
    else if digit == 5 then act_with_stores (acts_left acts) Compute
    else if digit == 6 then act_with_stores ((128, acts) ∷ []) Go
    else act_with_stores [] Go

-- the act that the lowest octal digit of a frame's acts stands for
abbrev pub reader_act : ℕ → ℕ → Act
reader_act acts below = act_of_digit (acts % 8) acts below

-- what a parent does about a returned child. It stores the child's word 2 in its own, or, where its word 3 is 3,
-- at place 128, which no frame has. Where word 3 is 1 it aborts, and where it is 2 it is woken
abbrev pub reader_inlet : List ℕ → List ℕ → InletAct
reader_inlet own child =
    record {
      stores = ((if word_at own 3 == 3 then 128 else 2), word_at child 2) ∷ [];
      abort = word_at own 3 == 1;
      wake = word_at own 3 == 2;
    }

-- what a frame stores of an answer: its number, in word 2
abbrev pub reader_stored : ReaderAnswer → List (ℕ × ℕ)
reader_stored answer = (2, answer.0) ∷ []
