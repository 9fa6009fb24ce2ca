-- A tenant leaves the core's store (`Store::leave`): everything of it goes, and nothing of any other tenant.
use Rattle.sched_store.proofs.Lookups.{arith, refl, Account, parts_of, job_lists-rise}
use Rattle.sched_store.proofs.Steps.{there-account, has-job_list}
use Rattle.sched_store.proofs.TenantSteps.{has-places, leave-closes, IsDeparture, leave-stored, leave-shared}
use Rattle.sched_store.proofs.store.Store.leave.Goals.{After-release-2}
use Rattle.sched_store.proofs.store.Store.leave.Goals as goal

-- what the table, the stack, the lists of jobs and the book told
told : (g : _) (c : After-release-2 g) → (a : Account) × IsDeparture (parts_of c.self.inside) c.close_all.new.self c.release.new.self c.remove.new.self c.release-2.new.self c.args.tenant c.remove_all-nodes.result.now a
told g c =
    let a = there-account c.self.invariant c.args.tenant c.self.view_is c.requires in
    let emptied = c.remove_all-nodes.follows.holds-at-none in (
      a.0,
      grind (arith, a, emptied),
    )

pub remove_all-nodes-requires : goal.remove_all-nodes-requires
remove_all-nodes-requires g c =
    let a = there-account c.self.invariant c.args.tenant c.self.view_is c.requires in
    has-places c.self.invariant c.args.tenant a.1

pub close_all-requires : goal.close_all-requires
close_all-requires g c =
    let closes = leave-closes c.args.tenant c.remove_all-nodes.result.now c.self.invariant c.remove_all-nodes.ensures.values in
    grind arith

pub release-requires-clause-there : goal.release-requires-clause-there
release-requires-clause-there g c =
    let a = there-account c.self.invariant c.args.tenant c.self.view_is c.requires in
    rw (c.remove_all-nodes.follows.holds-at-none.1.places c.args.tenant) (has-places c.self.invariant c.args.tenant a.1)

pub remove-requires : goal.remove-requires
remove-requires g c = record {
  rising = job_lists-rise c.self.invariant;
  there = has-job_list c.self.invariant c.args.tenant c.self.view_is c.requires;
}

pub release-requires-2 : goal.release-requires-2
release-requires-2 g c =
    rw (there-account c.self.invariant c.args.tenant c.self.view_is c.requires).1 refl

pub invariant_of-self : goal.invariant_of-self
invariant_of-self g c = leave-stored c.self.invariant (told g (goal.at.invariant_of-self g c).After-release-2).1

pub returns : goal.returns
returns g c = rw (← c.self.view_is) (leave-shared c.self.invariant (told g (goal.at.returns g c).After-release-2).1)
