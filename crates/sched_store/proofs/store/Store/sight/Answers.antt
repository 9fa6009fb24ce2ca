-- The core's store shows what a frame sees (`Store::sight`): its own words and those of the frames above it.
use Rattle.sched_store.proofs.Lookups.{sight-found, entry-open, there-not-missing}
use Rattle.sched_store.proofs.store.Store.sight.Goals as goal

pub sight-requires : goal.sight-requires
sight-requires g c = entry-open c.self.invariant c.args.name c.in-Some.ensures.entry

pub unreachable-requires : goal.unreachable-requires
unreachable-requires g c =
    let some = rw (← c.self.view_is) at c.requires in
    there-not-missing c.self.invariant c.args.name some c.in-None.ensures.entry

pub returns : goal.returns
returns g c = rw (← c.self.view_is) (sight-found c.self.invariant c.args.name c.in-Some.ensures.entry c.sight.ensures)
