-- Meaning: a hall with the history of its steps, as it lies under a desk's lock, and what a call does to both.
use Rattle.std.specs.Prelude.{◌≡◌, ℕ, ◌+◌, ◌≤◌, ◌^◌, List, Result, Ok, Err, MatchResult}
use Rattle.atomic_table.specs.Seated.{TableId}
use Rattle.sched_rules.specs.declared.refusal.Refusal.{Refusal}
use Rattle.sched_rules.specs.declared.step.StepOf.{StepOf}
use Rattle.sched_rules.specs.declared.step.DidOf.{DidOf}
use Rattle.hall.specs.jamboree_rules.declared.leaf.Leaf.{Leaf}
use Rattle.hall.specs.jamboree_rules.declared.leaf.LeafAnswer.{LeafAnswer}
use Rattle.hall.specs.Halls.{HallOf, IsDecided, count_of}
use Rattle.desk.specs.Histories.{IsComeBy}

-- a hall with the history of its steps: which history it is (its identity), the hall, and the history's entries
pub record NotedOf : Type 0 where
  pub id : TableId
  pub hall : HallOf
  pub history : List (ℕ × StepOf LeafAnswer)

-- the hall has come from this hall by the steps of its history
abbrev pub HasCome : HallOf → NotedOf → Type 0
HasCome begun noted = IsComeBy begun noted.hall.grain noted.hall.shared noted.history

-- what a call keeps and says: from whatever hall the one before the call had come, the one after it has come from that
-- too; and of that hall this holds
abbrev pub Since : NotedOf → NotedOf → (HallOf → Type 0) → Type 0
Since before after says = (begun : HallOf) → HasCome begun before → HasCome begun after × says begun

-- what a call did to the hall: it offered this step, and nothing else. The step was taken where the call's answer is
-- Ok, and refused as the answer says where it is Err
abbrev pub IsDone : {X : Type 0} → HallOf → StepOf LeafAnswer → Result X Refusal → HallOf → Type 0
IsDone before step (Ok value) after = (did : DidOf Leaf) × IsDecided before step (Ok did) after
IsDone before step (Err refusal) after = IsDecided before step (Err refusal) after

-- what the answer to a step says of the hall's numbers: a step that was taken is counted and a refused one isn't; the
-- number `kept` stays; the greatest tenant number doesn't fall; and both numbers are within their bounds
abbrev pub IsMoved : {X : Type 0} → HallOf → Result X Refusal → HallOf → Type 0
IsMoved before answer after =
    MatchResult answer (λ _. count_of after ≡ count_of before + 1) (λ _. count_of after ≡ count_of before)
    × (after.kept ≡ before.kept) × (before.shared.newest ≤ after.shared.newest) × (count_of after ≤ 2 ^ 84) × (after.shared.newest ≤ 2 ^ 62)
