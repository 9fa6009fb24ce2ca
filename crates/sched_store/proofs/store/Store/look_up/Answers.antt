-- The core's store looks a frame up with its words (`Store::look_up`): all that it tells is that frame's.
use Rattle.sched_store.proofs.Lookups.{arith, found as entry-found, frame-found, no-frame-found, tree-found, rising-found, sight-found, entry-open, child-or-root}
use Rattle.sched_store.proofs.store.Store.look_up.Goals as goal

pub own-requires : goal.own-requires
own-requires g c = entry-open c.self.invariant c.args.name c.in-Some.ensures.entry

pub sight-requires : goal.sight-requires
sight-requires g c = entry-open c.self.invariant c.args.name c.in-Some.ensures.entry

pub returns-in-Some : goal.returns-in-Some
returns-in-Some g c =
    let found = c.in-Some.ensures.entry in
    record {
      frame = rw (← c.self.view_is) (frame-found c.self.invariant c.args.name found);
      root = rw (← c.self.view_is) (child-or-root c.self.invariant c.args.name found);
      words = (let f = entry-found c.self.invariant c.args.name found in rw (← c.self.view_is, c.own.ensures) grind (arith, f));
      sight = rw (← c.self.view_is) (sight-found c.self.invariant c.args.name found c.sight.ensures);
      tree = rw (← c.self.view_is) (tree-found c.self.invariant c.args.name.tenant);
      rising = rw (← c.self.view_is) (rising-found c.self.invariant);
    }

pub returns-in-None : goal.returns-in-None
returns-in-None g c = record {
  frame = rw (← c.self.view_is) (no-frame-found c.self.invariant c.args.name c.in-None.ensures.entry);
  root = tt;
  words = tt;
  sight = tt;
  tree = rw (← c.self.view_is) (tree-found c.self.invariant c.args.name.tenant);
  rising = rw (← c.self.view_is) (rising-found c.self.invariant);
}
