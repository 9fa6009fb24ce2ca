-- Representation: toy procedures for tests of a core, whose every step can be followed by hand.
use Rattle.std.specs.Prelude.{ℕ, ◌+◌, ◌-◌, ◌%◌, ◌^◌, true, false, ◌&&◌, ◌==◌, List, [], ◌∷◌, if◌then◌else◌, slice_get, unwrap_or}
use Rattle.sched_rules.specs.declared.act.Act.{Act}
use Rattle.sched_rules.specs.declared.act.InletAct.{InletAct}
use Rattle.sched_rules.specs.declared.act.Continuation.{Continuation}
use Rattle.sched_rules.specs.declared.act.Continuation.TheVariants.{Spawn, Wait, Compute, Return}
use Rattle.toys.specs.declared.fan.FanAnswer.{FanAnswer}
use Rattle.sched_rules.specs.Functions.{Functions}

-- the nearest words that a frame sees, its own; none in an empty sight
abbrev pub nearest : List (List ℕ) → List ℕ
nearest sight = unwrap_or (slice_get sight 0) []

-- the word at a place of a frame, and 0 where the frame has no such place
abbrev pub word_at : List ℕ → ℕ → ℕ
word_at words place = unwrap_or (slice_get words place) 0

-- a toy procedure: the next act of a frame is a function of its words 0 and 1, it is computed from its word 0, and what it
-- stores of an answer is a function of the answer
abbrev pub toy : {A : Type 0} → (ℕ → ℕ → Act) → (List ℕ → List ℕ → InletAct) → (A → ℕ) → (A → List (ℕ × ℕ)) → Functions ℕ A
toy act inlet asked stored =
    record {
      next = λ sight. act (word_at (nearest sight) 0) (word_at (nearest sight) 1);
      inlet = inlet;
      input = λ own. word_at own 0;
      asked = asked;
      accept = λ own answer. stored answer;
      same = λ one other. one == other;
    }

-- a line of Fan's table: a frame of this kind and count stores the next count, and then does what after says
pub record Line : Type 0 where
  pub kind : ℕ
  pub count : ℕ
  pub next_count : ℕ
  pub after : Continuation

-- opening a child of this kind, with count 0 and 4 words
abbrev pub toy_spawns : ℕ → Continuation
toy_spawns kind = Spawn (kind ∷ 0 ∷ []) 4

-- the table of the toy procedure Fan: what a frame does next, by its kind and its count; at any other kind and count
-- it returns without a store
abbrev pub fan_table : List Line
fan_table =
    record { kind = 0; count = 0; next_count = 1; after = toy_spawns 1 }
    ∷ record { kind = 0; count = 1; next_count = 2; after = toy_spawns 2 }
    ∷ record { kind = 0; count = 2; next_count = 3; after = toy_spawns 1 }
    ∷ record { kind = 0; count = 3; next_count = 4; after = Wait }
    ∷ record { kind = 0; count = 4; next_count = 5; after = toy_spawns 1 }
    ∷ record { kind = 0; count = 5; next_count = 6; after = Wait }
    ∷ record { kind = 1; count = 0; next_count = 1; after = Compute }
    ∷ record { kind = 2; count = 0; next_count = 1; after = toy_spawns 1 }
    ∷ record { kind = 2; count = 1; next_count = 2; after = Wait }
    ∷ []

-- the act of a frame of this kind and count: that of its line in the table, or to return where it has none
abbrev pub fan_act : List Line → ℕ → ℕ → Act
fan_act [] kind count = record { stores = []; after = Return }
fan_act (line ∷ lines) kind count =
    if (line.kind == kind) && (line.count == count)
    then record { stores = (1, line.next_count) ∷ []; after = line.after }
    else fan_act lines kind count

-- what a parent in Fan does about a returned child: one of kind 0 adds 1 to word 2 (modulo 2^64) and aborts
abbrev pub fan_inlet : List ℕ → List ℕ → InletAct
fan_inlet own child =
    if word_at own 0 == 0
    then record { stores = (2, (word_at own 2 + 1) % 2 ^ 64) ∷ []; abort = true; wake = false }
    else record { stores = []; abort = false; wake = false }

-- what a frame of Fan stores of an answer: count 2 in word 1, and the value in word 2
abbrev pub fan_stored : FanAnswer → List (ℕ × ℕ)
fan_stored answer = (1, 2) ∷ (2, answer.value) ∷ []

-- the toy procedure Fan, as the five functions of a procedure
abbrev pub fan : Functions ℕ FanAnswer
fan = toy (fan_act fan_table) fan_inlet (λ answer. answer.asked) fan_stored

-- the next act of a frame of Chain: at count 0 it returns; else it opens a child of one less, waits, and returns
abbrev pub chain_act : ℕ → ℕ → Act
chain_act count stage =
    if count == 0 then record { stores = []; after = Return }
    else if stage == 0 then record { stores = (1, 1) ∷ []; after = Spawn ((count - 1) ∷ 0 ∷ []) 20 }
    else if stage == 1 then record { stores = (1, 2) ∷ []; after = Wait }
    else record { stores = []; after = Return }

-- what a parent in Chain does about a returned child: it stores the child's count in word 2
abbrev pub chain_inlet : List ℕ → List ℕ → InletAct
chain_inlet own child = record { stores = (2, word_at child 0) ∷ []; abort = false; wake = false }

-- the toy procedure Chain, as the five functions of a procedure; an answer is itself the input that it was computed
-- from, and nothing is stored of it
abbrev pub chain_procedure : Functions ℕ ℕ
chain_procedure = toy chain_act chain_inlet (λ answer. answer) (λ answer. [])
