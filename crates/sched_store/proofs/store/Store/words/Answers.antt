-- The core's store shows a frame's words (`Store::words`): those of its own node.
use Rattle.sched_store.proofs.Lookups.{arith, refl, entry-open, found, nothing-found}
use Rattle.sched_store.proofs.store.Store.words.Goals as goal

pub own-requires : goal.own-requires
own-requires g c = entry-open c.self.invariant c.args.name c.in-Some.ensures.entry

pub returns-in-Some : goal.returns-in-Some
returns-in-Some g c = let f = found c.self.invariant c.args.name c.in-Some.ensures.entry in rw (← c.self.view_is, c.own.ensures) grind (arith, f)

pub returns-in-None : goal.returns-in-None
returns-in-None g c = rw (← c.self.view_is, nothing-found c.self.invariant c.args.name c.in-None.ensures.entry) refl
