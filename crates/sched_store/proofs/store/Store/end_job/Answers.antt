-- The core's store ends a job (`Store::end_job`): it is replaced in its tenant's list by how it ended, no frame goes,
-- and the store is sound.
use Rattle.sched_store.proofs.Lookups.{with_ended, parts_of, job_lists-rise}
use Rattle.sched_store.proofs.Steps.{JobsPut, there-account, has-job_list, jobs-put}
use Rattle.sched_store.proofs.store.Store.end_job.Goals.{After-end}
use Rattle.sched_store.proofs.store.Store.end_job.Goals as goal

-- the list of jobs that was found has the jobs
put : (g : _) (c : After-end g) → JobsPut (parts_of c.self.inside) c.args.tenant c.end.new.self (with_ended c.args.root c.args.ended)
put g c =
    let own = there-account c.self.invariant c.args.tenant c.self.view_is c.requires.there in
    jobs-put c.args.tenant (with_ended c.args.root c.args.ended) c.self.invariant own.1 c.get_mut-job_list.ensures.value c.end.ensures

pub get_mut-job_list-requires : goal.get_mut-job_list-requires
get_mut-job_list-requires g c = record {
  rising = job_lists-rise c.self.invariant;
  there = has-job_list c.self.invariant c.args.tenant c.self.view_is c.requires.there;
}

pub invariant_of-self : goal.invariant_of-self
invariant_of-self g c = (put g (goal.at.invariant_of-self g c).After-end).stored

pub returns : goal.returns
returns g c = rw (← c.self.view_is) (put g (goal.at.returns g c).After-end).shared
