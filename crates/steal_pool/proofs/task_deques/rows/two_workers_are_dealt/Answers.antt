-- Rows of a pool's deques: what two workers are dealt, 62 parts left to each owner, and dealings that aren't whole, by
-- computing the definitions.
use Rattle.steal_pool.proofs.TaskDeques.Common.{◌≡◌, ℕ, ◌+◌, ◌-◌, List, [], length, map, refl, ap, arith, All-from_recursion, Tally, tally, Deque, new_thief, WorkerSeats, Posts, posts_of, IsDealt, IsWhole, two_thieves, new_worker, two_workers, played_seats}
use Rattle.steal_pool.proofs.task_deques.rows.two_workers_are_dealt.Goals as goal

-- what each of the workers that were dealt has
abbrev Dealt : List WorkerSeats → WorkerSeats → Type 0
Dealt all its = (its.own.tally ≡ tally (64 - length all) [] []) × (its.thieves ≡ map (λ (other : WorkerSeats). new_thief other.own) all)

-- what each of whole posts has
abbrev Whole : List Posts → Posts → Type 0
Whole all its = (its.thieves ≡ map (λ (other : Posts). other.own) all) × (its.parts + length all ≡ 64)

dealt-parts : (parts : ℕ) (one two : Deque) → IsDealt (two_workers parts one two) → parts ≡ 62
dealt-parts parts one two is = ap (λ (t : Tally). t.parts) (is 0 (new_worker parts one (two_thieves one two)) (omega arith)).0

whole-parts : (parts : ℕ) (one two : Deque) → IsWhole (map posts_of (two_workers parts one two)) → parts + 2 ≡ 64
whole-parts parts one two is = (is 0 (posts_of (new_worker parts one (two_thieves one two))) (omega arith)).1

pub returns : goal.returns
returns c = record {
  dealt = λ one two. let all : List WorkerSeats = two_workers 62 one two in All-from_recursion (Dealt all) all ((refl, refl), ((refl, refl), tt));
  whole = λ one two. let all : List Posts = map posts_of (two_workers 62 one two) in All-from_recursion (Whole all) all ((refl, refl), ((refl, refl), tt));
  part_more = λ one two is. omega (arith, dealt-parts 63 one two is);
  part_less = λ one two is. omega (arith, whole-parts 61 one two is);
  no_thief = λ one is. let none = (is 0 (posts_of (new_worker 63 one [])) (omega arith)).0 in cc;
  one_worker = λ one two is. let fewer = (is 0 (posts_of (new_worker 63 one (two_thieves one two))) (omega arith)).0 in cc;
  no_longer = λ one two is. let new = ap (λ (t : Tally). t.pushed) (is 0 (new_worker 62 one (two_thieves one two)) (omega arith)).0 in cc;
  still = λ one two. let all : List Posts = map posts_of (played_seats one two) in All-from_recursion (Whole all) all ((refl, refl), ((refl, refl), tt));
}
