-- The core's store tells a frame's root (`Store::root`): the first frame of its path.
use Rattle.sched_store.proofs.Lookups.{there-has, path-shown}
use Rattle.sched_store.proofs.store.Store.root.Goals as goal

pub root-requires : goal.root-requires
root-requires g c =
    let some = rw (← c.self.view_is) at c.requires in
    there-has c.self.invariant c.args.name some

pub returns : goal.returns
returns g c =
    let some = rw (← c.self.view_is) at c.requires in
    rw (← c.self.view_is, path-shown c.self.invariant c.args.name some) c.root.ensures
