-- The core's store tests whether a worker runs or computes a frame (`Store::is_held_by`): as the frame's state says.
use Rattle.sched_store.proofs.Lookups.{arith, refl, sym, ◌∙◌, found, nothing-found}
use Rattle.sched_store.proofs.store.Store.is_held_by.Goals as goal

pub returns-in-Some : goal.returns-in-Some
returns-in-Some g c =
    let f = found c.self.invariant c.args.name (sym c.in-Some.is ∙ c.find.ensures.entry) in
    rw (← c.self.view_is, c.holds_frame.ensures) grind (arith, f)

pub returns-in-None : goal.returns-in-None
returns-in-None g c =
    let none = nothing-found c.self.invariant c.args.name (sym c.in-None.is ∙ c.find.ensures.entry) in rw (← c.self.view_is, none) refl
