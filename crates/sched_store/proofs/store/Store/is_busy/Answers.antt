-- The core's store tells whether a worker is busy (`Store::is_busy`): a look at the frame that its place names decides
-- it, as it can have no other.
use Rattle.sched_store.proofs.Lookups.{◌∙◌, rising-found}
use Rattle.sched_store.proofs.FrameSteps.{busy-place, busy-nothing}
use Rattle.sched_store.proofs.store.Store.is_busy.Goals as goal

pub returns-in-Some : goal.returns-in-Some
returns-in-Some g c =
    let busy = busy-place c.self.invariant c.args.worker c.in-Some.name (rw c.number-number.ensures.value at c.in-Some.is) in
    record {
      busy = rw (← c.self.view_is) (let held = rw (← c.self.view_is) at c.is_held_by.ensures in held ∙ busy);
      rising = rw (← c.self.view_is) (rising-found c.self.invariant);
    }

pub returns-in-None : goal.returns-in-None
returns-in-None g c = record {
  busy = rw (← c.self.view_is) (busy-nothing c.self.invariant c.args.worker (rw c.number-number.ensures.value at c.in-None.is));
  rising = rw (← c.self.view_is) (rising-found c.self.invariant);
}
