-- The core's store writes words of a frame (`Store::store_all`): where there is nothing to write the frame stays as it
-- is.
use Rattle.sched_store.proofs.Lookups.{◌≡◌, [], sym, ◌∙◌, eqb-true, nil_from_length}
use Rattle.sched_store.proofs.FrameSteps.{nothing-stored}
use Rattle.sched_store.proofs.store.Store.store_all.Goals as goal

pub returns-then-is_empty : goal.returns-then-is_empty
returns-then-is_empty g c =
    let none : c.args.stores.now ≡ [] = nil_from_length c.args.stores.now (eqb-true _ _ (sym c.is_empty.ensures ∙ c.if-is_empty.true)) in
    rw none (rw (← c.self.view_is) (nothing-stored c.args.name c.self.invariant (rw (← c.self.view_is) at c.requires.there)))
