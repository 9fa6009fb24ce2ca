-- The pool's task deques: each kind of step (push, pop, steal) keeps the rule of a deque, that each task is taken
-- once.
use Rattle.steal_pool.proofs.TaskDeques.Common.{◌≡◌, ℕ, ◌+◌, ◌-◌, ◌<◌, List, [], ◌∷◌, ◌++◌, set, refl, arith, some, get_elem?, Pushes, Takes, Pops, Finds, Forks, Merges, Learns, Tally, Task, tally, weigh, IsEmptied, IsEachOnce}
use Rattle.steal_pool.proofs.TaskDeques.TallyLemmas.{weigh-append, total-snoc, total-set, alone, idle-set, idle-snoc}

-- a seat that has a part changes what it pushed and took: the rule is kept where, by each weighing, what the deque holds changes by as much
changes : (port : ℕ) (v w : Tally) (before after : List Task) (views : List Tally) → 0 < v.parts → w.parts ≡ v.parts →
    ((h : Task → ℕ) → weigh h w.pushed + weigh h v.taken + weigh h before ≡ weigh h v.pushed + weigh h w.taken + weigh h after) →
    IsEachOnce before views → get_elem? views port ≡ some v → IsEachOnce after (set views port w)
changes port v w before after views some_part same by b at = grind (arith, total-set, idle-set)

module _ (port : ℕ) (v : Tally) (some_part : 0 < v.parts) where
  pub pushes : (xs : List Task) → Pushes IsEachOnce port v xs (λ w. w ≡ tally v.parts (v.pushed ++ xs) v.taken)
  pushes xs items views b at =
      let w = tally v.parts (v.pushed ++ xs) v.taken in
      (w, changes port v w items (items ++ xs) views some_part refl (λ h. omega (arith, weigh-append h v.pushed xs, weigh-append h items xs)) b at, refl)

  pub takes : Takes IsEachOnce port v 1 (λ xs w. w ≡ tally v.parts v.pushed (v.taken ++ xs))
  takes xs items views _ _ b at =
      let w = tally v.parts v.pushed (v.taken ++ xs) in
      (w, changes port v w (xs ++ items) items views some_part refl (λ h. omega (arith, weigh-append h v.taken xs, weigh-append h xs items)) b at, refl)

  pub pops : Pops IsEachOnce port v (λ xs w. w ≡ tally v.parts v.pushed (v.taken ++ xs))
  pops x items views b at =
      let w = tally v.parts v.pushed (v.taken ++ x ∷ []) in
      (w, changes port v w (items ++ x ∷ []) items views some_part refl (λ h. omega (arith, weigh-append h v.taken (x ∷ []), weigh-append h items (x ∷ []))) b at, refl)

-- one part is cut off, with nothing pushed and nothing taken
pub forks : (port : ℕ) (v : Tally) → 1 < v.parts → Forks IsEachOnce port v (tally (v.parts - 1) v.pushed v.taken) (tally 1 [] [])
forks port v enough items views b at = grind (arith, total-set, total-snoc, idle-snoc, idle-set)

-- two seats' parts and lists come together, and the other is spent
pub merges : (port : ℕ) (v : Tally) (other : ℕ) (u : Tally) → 0 < v.parts →
    Merges IsEachOnce port v other u (tally (v.parts + u.parts) (v.pushed ++ u.pushed) (v.taken ++ u.taken)) (tally 0 [] [])
merges port v other u some_part items views b at two at' = grind (arith, total-set, weigh-append, idle-set)

pub learns : (port : ℕ) (v : Tally) → Learns IsEachOnce port v (λ items. v.parts ≡ 64 → (h : Task → ℕ) → weigh h v.pushed ≡ weigh h v.taken + weigh h items)
learns port v items views b at all h = grind (arith, alone)

pub finds : (port : ℕ) (v : Tally) → Finds IsEachOnce port v (v.parts ≡ 64 → IsEmptied v)
finds port v views b at all h = let p = learns port v [] views b at all h in omega arith
