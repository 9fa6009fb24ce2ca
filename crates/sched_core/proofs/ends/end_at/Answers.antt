-- The core ends a job (`ends::end_at`): all its frames are removed, the root last, and the job is replaced by how it
-- ended; no other tenant is touched.
use Rattle.sched_core.proofs.Common.{aborted-itself, without_frame, without_under, ending_job, ended, shaped-in}
use Rattle.sched_core.proofs.TakenStep.{IsWith, begins, then-changed}
use Rattle.sched_core.proofs.Ending.{IsNamed, named-there, with-named, with-there, as-change, aborted-childless}
use Rattle.sched_core.proofs.ends.end_at.Given.{Over}
use Rattle.sched_core.proofs.ends.end_at.Goals.{After-abort}
use Rattle.sched_core.proofs.ends.end_at.Goals as goal

-- the root is there, and its tenant is what is left after the abort
aborts : (g : Over) (c : After-abort g) →
    (n : IsNamed c.args.store.now c.args.root) × IsWith c.args.store.now c.args.root.tenant (without_under c.args.root.serial n.tenant) c.abort.new.self
aborts g c =
    let n = named-there c.requires.there in
    (n, then-changed _ (begins c.args.root.tenant c.args.store.now n.owner) c.abort.ensures.aborted)

pub remove-requires-clause-there : goal.remove-requires-clause-there
remove-requires-clause-there g c =
    let a = aborts g (goal.at.remove-requires-clause-there g c).After-abort in
    let n = a.0 in
    let shape = shaped-in c.args.root.tenant c.args.store.now.tenants n.tenant c.requires.shaped n.owner in
    with-named c.args.root _ (aborted-itself c.args.root.serial n.tenant.frames n.frame shape.tree n.found) a.1

pub remove-requires-clause-leaf : goal.remove-requires-clause-leaf
remove-requires-clause-leaf g c =
    let a = aborts g (goal.at.remove-requires-clause-leaf g c).After-abort in
    let n = a.0 in
    let shape = shaped-in c.args.root.tenant c.args.store.now.tenants n.tenant c.requires.shaped n.owner in
    aborted-childless n.tenant c.args.root.serial shape.tree a.1

pub end_job-requires-clause-there : goal.end_job-requires-clause-there
end_job-requires-clause-there g c =
    let gone = then-changed _ (aborts g (goal.at.end_job-requires-clause-there g c).After-abort).1 c.remove.ensures in
    with-there _ gone

pub returns : goal.returns
returns g c =
    let a = aborts g (goal.at.returns g c).After-abort in
    let n = a.0 in
    let gone = then-changed (without_frame c.args.root.serial) a.1 c.remove.ensures in
    as-change n.tenant (ended c.args.root.serial c.args.ended) n.owner
    (then-changed (ending_job c.args.root.serial c.args.ended) gone c.end_job.ensures)
