-- Meaning: what the seats of a pool's deque (its owner's and its thieves') know of it, and the rule that ties this.
use Rattle.std.specs.Prelude.{◌≡◌, ℕ, ◌+◌, List, [], ◌∷◌}
use mathlib.Core.Option.{some}
use lib.ListN.{get_elem?}
use Rattle.jamboree_rules.specs.declared.pool_rules.task.Task.{Task}
use Rattle.steal_pool.specs.declared.task_deques.rule.Tally.{Tally}

-- what a seat knows: how many of the 64 parts of the right to know the whole deque it has, and the tasks that it pushed and took; where
-- it has all 64, the other seats have pushed and taken nothing
abbrev pub tally : ℕ → List Task → List Task → Tally
tally parts pushed taken = record { parts = parts; pushed = pushed; taken = taken }

-- the weights of tasks, added up: with weight 1 for one task and 0 for the others it is how often that task stands there
abbrev pub weigh : (Task → ℕ) → List Task → ℕ
weigh h [] = 0
weigh h (task ∷ tasks) = h task + weigh h tasks

-- all that was pushed was taken, each task as often
abbrev pub IsEmptied : Tally → Type 0
IsEmptied seat = (h : Task → ℕ) → weigh h seat.pushed ≡ weigh h seat.taken

-- the sum over all seats of a number that each has
abbrev pub total : (Tally → ℕ) → List Tally → ℕ
total f [] = 0
total f (v ∷ vs) = f v + total f vs

-- a seat without a part was joined to another, which counts its tasks now: it has pushed and taken nothing
abbrev pub IdleIsEmpty : List Tally → Type 0
IdleIsEmpty seats = (port : ℕ) (v : Tally) → get_elem? seats port ≡ some v → v.parts ≡ 0 → (v.pushed ≡ []) × (v.taken ≡ [])

-- the rule of a deque that holds these tasks and has these seats: the seats have 64 parts together, what they pushed is
-- what they took and what the deque holds, each task as often, and a seat without a part has an empty tally
abbrev pub IsEachOnce : List Task → List Tally → Type 0
IsEachOnce tasks seats =
    (total (λ v. v.parts) seats ≡ 64)
    × ((h : Task → ℕ) → total (λ v. weigh h v.pushed) seats ≡ total (λ v. weigh h v.taken) seats + weigh h tasks)
    × IdleIsEmpty seats
