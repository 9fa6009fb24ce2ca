-- The core's store raises a tenant's reservation (`Store::raise`): its account has it and its places grow, or memory
-- was refused and nothing changes.
use Rattle.sched_store.proofs.Lookups.{refl, ◌∙◌, arith, with_reserve, parts_of}
use Rattle.sched_store.proofs.TenantSteps.{CanBeRaised, can-be-raised, with_more, raised}
use Rattle.sched_store.proofs.Steps.{Stepped}
use Rattle.sched_store.proofs.store.Store.raise.Goals.{After-segments, After-unwrap}
use Rattle.sched_store.proofs.store.Store.raise.Goals as goal

-- so much can be reserved
can : (g : _) (c : After-segments g) → CanBeRaised (parts_of c.self.inside) c.args.tenant c.args.reserve
can g c = grind (arith, can-be-raised)

-- what the table and the book told
told : (g : _) (c : After-unwrap g) → Stepped (parts_of c.self.inside) (with_more (parts_of c.self.inside) c.reserve.new.self c.raise.new.self) c.args.tenant (with_reserve c.args.reserve)
told g c =
    let able = can-be-raised c.args.tenant c.args.reserve c.self.invariant c.self.view_is c.requires.above c.requires.room in
    let table = c.in_ok-reserve.ensures in
    raised c.args.reserve c.self.invariant (record {
      can = able;
      places = table.places ∙ c.segments.ensures.value;
      frames = table.frames;
      kept = table.kept;
      count = grind arith;
      raises = grind arith;
      sound = c.raise.ensures.sound;
    })

pub reserve-requires-clause-more : goal.reserve-requires-clause-more
reserve-requires-clause-more g c =
    let able = can g (goal.at.reserve-requires-clause-more g c).After-segments in
    omega (arith, able.places, able.above.segments, c.segments.ensures.value)

pub reserve-requires-clause-free : goal.reserve-requires-clause-free
reserve-requires-clause-free g c =
    let able = can g (goal.at.reserve-requires-clause-free g c).After-segments in grind arith

pub raise-requires : goal.raise-requires
raise-requires g c = rw (can g (goal.at.raise-requires g c).After-segments).there refl

pub unwrap-requires : goal.unwrap-requires
unwrap-requires g c = let able = can g (goal.at.unwrap-requires g c).After-segments in c.raise.ensures.ok.1 (rw able.there (able.above, able.room))

pub invariant_of-self-2 : goal.invariant_of-self-2
invariant_of-self-2 g c = (told g (goal.at.invariant_of-self-2 g c).After-unwrap).stored

pub returns-clause-ok : goal.returns-clause-ok
returns-clause-ok g c = rw (← c.self.view_is) (told g (goal.at.returns-clause-ok g c).After-unwrap).shared
