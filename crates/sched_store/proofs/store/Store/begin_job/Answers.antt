-- The core's store begins a job (`Store::begin_job`): the tenant's list has one job more, all else stays, and the
-- store is sound.
use Rattle.sched_store.proofs.Lookups.{owner_of_jobs, JobListOf, ◌++◌, ◌∷◌, [], ◌∙◌, Live, parts_of, said-found, jobs-found, job_lists-rise}
use Rattle.sched_store.proofs.Steps.{JobsPut, there-account, has-job_list, jobs-put}
use Rattle.sched_store.proofs.store.Store.begin_job.Goals.{After-begin}
use Rattle.sched_store.proofs.store.Store.begin_job.Goals as goal

-- the list of jobs that was found has the jobs
put : (g : _) (c : After-begin g) → JobsPut (parts_of c.self.inside) c.args.tenant c.begin.new.self (λ jobs. jobs ++ Live c.args.root ∷ [])
put g c =
    let own = there-account c.self.invariant c.args.tenant c.self.view_is c.requires.there in
    jobs-put c.args.tenant (λ jobs. jobs ++ Live c.args.root ∷ []) c.self.invariant own.1 c.get_mut-job_list.ensures.value c.begin.ensures

pub get_mut-job_list-requires : goal.get_mut-job_list-requires
get_mut-job_list-requires g c = record {
  rising = job_lists-rise c.self.invariant;
  there = has-job_list c.self.invariant c.args.tenant c.self.view_is c.requires.there;
}

pub begin-requires : goal.begin-requires
begin-requires g c =
    let found = jobs-found c.self.invariant c.args.tenant ∙ said-found owner_of_jobs (λ (l : JobListOf). l.1) [] c.args.tenant c.self.inside.job_lists c.get_mut-job_list.result.now c.get_mut-job_list.ensures.value in
    record { room = rw found at (rw (← c.self.view_is) at c.requires.room); fresh = rw found at (rw (← c.self.view_is) at c.requires.fresh) }

pub invariant_of-self : goal.invariant_of-self
invariant_of-self g c = (put g (goal.at.invariant_of-self g c).After-begin).stored

pub returns : goal.returns
returns g c = rw (← c.self.view_is) (put g (goal.at.returns g c).After-begin).shared
