-- The core's store admits a tenant (`Store::admit`): it then has an account, an empty tree and an empty list of jobs,
-- all other tenants stay, and the store is sound.
use Rattle.sched_store.proofs.Lookups.{List, ap, ◌∙◌, arith, with_admitted, parts_of, JobListOf, shared_of, job_lists-rise}
use Rattle.sched_store.proofs.TenantSteps.{CanBeAdmitted, can-be-admitted, IsAdmitted, admit-stored, admit-shared}
use Rattle.sched_store.proofs.store.Store.admit.Goals.{After-segments, After-unwrap}
use Rattle.sched_store.proofs.store.Store.admit.Goals as goal

-- the number can be admitted
can : (g : _) (c : After-segments g) → CanBeAdmitted (parts_of c.self.inside) c.args.number c.args.reserve
can g c = can-be-admitted _ _ c.self.invariant c.self.view_is c.requires.above c.requires.room

-- what the table and the book told
told : (g : _) (c : After-unwrap g) → IsAdmitted (parts_of c.self.inside) c.reserve.new.self c.in_ok-job_list.job_list c.reserve-2.new.self c.args.number c.args.reserve
told g c =
    let able = can-be-admitted c.args.number c.args.reserve c.self.invariant c.self.view_is c.requires.above c.requires.room in grind arith

pub reserve-requires-clause-more : goal.reserve-requires-clause-more
reserve-requires-clause-more g c = let none = (can g (goal.at.reserve-requires-clause-more g c).After-segments).no_places in omega (arith, none)

pub reserve-requires-clause-free : goal.reserve-requires-clause-free
reserve-requires-clause-free g c = λ none. (can g (goal.at.reserve-requires-clause-free g c).After-segments).few_trees

pub insert-requires : goal.insert-requires
insert-requires g c = record {
  rising = job_lists-rise c.self.invariant;
  room = (can g (goal.at.insert-requires g c).After-segments).few_job_lists;
}

pub reserve-requires-2 : goal.reserve-requires-2
reserve-requires-2 g c = (can g (goal.at.reserve-requires-2 g c).After-segments).nobody

pub unwrap-requires : goal.unwrap-requires
unwrap-requires g c = c.reserve-2.ensures.ok.1 (can g (goal.at.unwrap-requires g c).After-segments).room

pub invariant_of-self-2 : goal.invariant_of-self-2
invariant_of-self-2 g c = rw c.insert.ensures (admit-stored c.self.invariant (told g (goal.at.invariant_of-self-2 g c).After-unwrap))

pub returns-clause-ok : goal.returns-clause-ok
returns-clause-ok g c =
    ap (λ (ls : List JobListOf). shared_of (record (parts_of c.self.inside) { book = c.reserve-2.new.self; trees = c.reserve.new.self; job_lists = ls; newest = c.args.number })) c.insert.ensures
    ∙ admit-shared c.self.invariant (told g (goal.at.returns-clause-ok g c).After-unwrap)
    ∙ ap (with_admitted c.args.number c.args.reserve) c.self.view_is
