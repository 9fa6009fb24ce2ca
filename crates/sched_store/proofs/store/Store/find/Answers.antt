-- The core's store looks a frame up (`Store::find`): its state and its parent are those of the tenant's tree.
use Rattle.sched_store.proofs.Lookups.{sym, ◌∙◌, frame-found, no-frame-found, tree-found, child-or-root}
use Rattle.sched_store.proofs.store.Store.find.Goals as goal

pub returns-in-Some : goal.returns-in-Some
returns-in-Some g c =
    let found = sym c.in-Some.is ∙ c.find.ensures.entry in
    record {
      frame = rw (← c.self.view_is) (frame-found c.self.invariant c.args.name found);
      root = rw (← c.self.view_is) (child-or-root c.self.invariant c.args.name found);
      tree = rw (← c.self.view_is) (tree-found c.self.invariant c.args.name.tenant);
    }

pub returns-in-None : goal.returns-in-None
returns-in-None g c = record {
  frame = rw (← c.self.view_is) (no-frame-found c.self.invariant c.args.name (sym c.in-None.is ∙ c.find.ensures.entry));
  root = tt;
  tree = rw (← c.self.view_is) (tree-found c.self.invariant c.args.name.tenant);
}
