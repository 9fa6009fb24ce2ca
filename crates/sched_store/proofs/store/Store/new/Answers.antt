-- A new store of a core (`Store::new`): it has no tenant, and keeps what a store keeps.
use Rattle.std.proofs.Common.{arith}
use Rattle.sched_store.proofs.TenantSteps.{new-stored}
use Rattle.sched_store.proofs.store.Store.new.Goals as goal

pub invariant_of-result : goal.invariant_of-result
invariant_of-result g c =
    new-stored c.in_ok-stack.stack c.in_ok-table.table c.in_ok-job_lists.job_lists c.in_ok-book.book _ c.segments-segments.result c.nodes.result
    grind arith
