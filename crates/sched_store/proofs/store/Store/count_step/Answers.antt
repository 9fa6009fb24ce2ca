-- The core's store counts a step (`Store::count_step`): the tenant's account has one step less left, which it had, and
-- nothing else changes.
use Rattle.std.proofs.Common.{◌≤◌, refl}
use Rattle.sched_store.proofs.Steps.{left-account, book-left, count-step}
use Rattle.sched_store.proofs.store.Store.count_step.Goals as goal

pub tick-requires : goal.tick-requires
tick-requires g c =
    rw (left-account c.self.invariant c.args.tenant (λ left. 1 ≤ left.steps) (rw (← c.self.view_is) at c.requires)).1.0 refl

pub unwrap-requires : goal.unwrap-requires
unwrap-requires g c =
    c.tick.ensures.ok.1 (book-left c.self.invariant c.args.tenant (λ left. 1 ≤ left.steps) (rw (← c.self.view_is) at c.requires))

pub invariant_of-self : goal.invariant_of-self
invariant_of-self g c =
    let own = left-account c.self.invariant c.args.tenant (λ left. 1 ≤ left.steps) (rw (← c.self.view_is) at c.requires) in
    let ticks = rw c.unwrap.ensures at c.tick.ensures.ticks in
    (count-step c.self.invariant own.1.0 c.tick.ensures.sound ticks c.tick.ensures.sum).stored

pub returns : goal.returns
returns g c =
    let own = left-account c.self.invariant c.args.tenant (λ left. 1 ≤ left.steps) (rw (← c.self.view_is) at c.requires) in
    let ticks = rw c.unwrap.ensures at c.tick.ensures.ticks in
    rw (← c.self.view_is) (count-step c.self.invariant own.1.0 c.tick.ensures.sound ticks c.tick.ensures.sum).shared
