-- The core's store finds a tenant's list of jobs (`Store::job_list`): it is that tenant's, and None is answered
-- exactly where the tenant isn't there.
use Rattle.sched_store.proofs.Lookups.{owner_of_jobs, JobListOf, [], found-said, found-none, jobs-found, job_lists-rise}
use Rattle.sched_store.proofs.store.Store.job_list.Goals as goal

pub get-requires : goal.get-requires
get-requires g c = job_lists-rise c.self.invariant

pub returns-clause-found : goal.returns-clause-found
returns-clause-found g c =
    rw (← c.self.view_is, jobs-found c.self.invariant c.args.tenant) (found-said owner_of_jobs (λ (l : JobListOf). l.1) [] c.args.tenant c.self.inside.job_lists c.get.result c.get.ensures)

pub returns-clause-none : goal.returns-clause-none
returns-clause-none g c =
    rw (← c.self.view_is, jobs-found c.self.invariant c.args.tenant) (found-none owner_of_jobs (λ (l : JobListOf). l.1) [] c.args.tenant c.self.inside.job_lists c.get.result c.get.ensures)
