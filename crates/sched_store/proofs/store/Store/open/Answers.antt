-- The core's store opens a frame (`Store::open`): the tenant's tree has it with its words, its account is charged, and
-- nobody else is touched.
use Rattle.sched_store.proofs.Lookups.{◌≤◌, refl, arith, charge, parts_of}
use Rattle.sched_store.proofs.Steps.{book-left}
use Rattle.sched_store.proofs.FrameSteps.{has-free}
use Rattle.sched_store.proofs.OpenFrame.{left-for, parent-found, parent-open, place-left, size-some, Opened, open-step, serials-found}
use Rattle.sched_store.proofs.store.Store.open.Goals.{After-add}
use Rattle.sched_store.proofs.store.Store.open.Goals as goal

-- the step that the stack, the table and the book made
step : (g : _) (c : After-add g) → Opened (parts_of c.self.inside) c.open-2.new.self c.add.new.self c.open.new.self c.args.tenant c.args.parent c.args.words.now c.args.size c.args.home
step g c =
    let own = left-for c.self.invariant c.args.tenant c.args.size c.self.view_is c.requires.left in
    let size = size-some c.args.words.now c.args.size c.requires.size in
    open-step _ _ _ _ _ _ c.parent_node-above.result _ _ _ c.unwrap-node.result own.0 c.self.invariant (record {
      there = own.1.0;
      parent_there = parent-found c.self.invariant c.args.tenant c.args.parent (rw (← c.self.view_is) at c.requires.parent);
      above_is = c.parent_node-above.ensures;
      room = size.1.1;
      unused = grind arith;
      nodes_is = grind arith;
      frames = grind arith;
      kept = c.add.ensures.kept;
      sound = c.open.ensures.sound;
      changes = grind arith;
      sum = grind arith;
    })

pub parent_node-above-requires : goal.parent_node-above-requires
parent_node-above-requires g c =
    parent-found c.self.invariant c.args.tenant c.args.parent (rw (← c.self.view_is) at c.requires.parent)

pub open-requires-2-clause-parent_is_open : goal.open-requires-2-clause-parent_is_open
open-requires-2-clause-parent_is_open g c =
    let parent = parent-found c.self.invariant c.args.tenant c.args.parent (rw (← c.self.view_is) at c.requires.parent) in
    parent-open c.self.invariant c.args.tenant c.args.parent c.parent_node-above.result parent c.parent_node-above.ensures

pub unwrap-node-requires : goal.unwrap-node-requires
unwrap-node-requires g c =
    let left = rw (← c.self.view_is) at c.requires.left in
    let free = has-free c.self.invariant c.args.tenant (charge c.args.size) 1 left in grind arith

pub add-requires : goal.add-requires
add-requires g c =
    let own = left-for c.self.invariant c.args.tenant c.args.size c.self.view_is c.requires.left in
    let parent = parent-found c.self.invariant c.args.tenant c.args.parent (rw (← c.self.view_is) at c.requires.parent) in
    let size = size-some c.args.words.now c.args.size c.requires.size in
    record {
      above = grind arith;
      parent = grind arith;
      room = place-left c.self.invariant c.args.tenant c.args.size c.sizes_are_in_limits.ensures.some own.1.0 size.0 own.1.1.0;
    }

pub open-requires : goal.open-requires
open-requires g c =
    rw (left-for c.self.invariant c.args.tenant c.args.size c.self.view_is c.requires.left).1.0 refl

pub unwrap-before-requires : goal.unwrap-before-requires
unwrap-before-requires g c =
    let left = rw (← c.self.view_is) at c.requires.left in
    c.open.ensures.ok.1 (rw c.charge.ensures (book-left c.self.invariant c.args.tenant (λ l. (charge c.args.size ≤ l.segments) × (1 ≤ l.nodes)) left))

pub invariant_of-self : goal.invariant_of-self
invariant_of-self g c = (step g (goal.at.invariant_of-self g c).After-add).stored

pub returns-clause-name : goal.returns-clause-name
returns-clause-name g c =
    let own = left-for c.self.invariant c.args.tenant c.args.size c.self.view_is c.requires.left in
    let given = serials-found (parts_of c.self.inside) c.args.tenant own.0 own.1.0 in grind arith

pub returns-clause-opened : goal.returns-clause-opened
returns-clause-opened g c = rw (← c.self.view_is) (step g (goal.at.returns-clause-opened g c).After-add).shared
