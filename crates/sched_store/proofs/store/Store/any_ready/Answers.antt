-- The core's store finds a ready frame of some tenant (`Store::any_ready`): None exactly where no tenant has one.
use Rattle.sched_store.specs.Inside.{parts_of}
use Rattle.sched_store.proofs.Steps.{ready-found, none-counted, nobody-ready}
use Rattle.sched_store.proofs.store.Store.any_ready.Goals as goal

pub returns : goal.returns
returns g c =
    rw (← c.self.view_is) (record {
      found = ready-found c.self.invariant c.any_ready.result c.any_ready.ensures.found;
      none = (
        λ none. none-counted (parts_of c.self.inside) c.self.inside.book.accounts (c.any_ready.ensures.none.0 none),
        λ zero. c.any_ready.ensures.none.1 (nobody-ready c.self.invariant zero),
      );
    })
