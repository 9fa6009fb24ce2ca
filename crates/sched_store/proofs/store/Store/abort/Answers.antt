-- The core's store aborts below a frame (`Store::abort`): just the frames below it go, with their nodes, and what they
-- were charged is free again.
use Rattle.sched_store.proofs.Lookups.{arith, without_under, parts_of, aborted, tree-aborted, sym, node_words, aborted-map_values, there-has}
use Rattle.sched_store.proofs.Removing.{stays, with_parts, abort-closes, AreFreed, nodes-free, gone-step, abort-count}
use Rattle.sched_store.proofs.Steps.{Stepped}
use Rattle.sched_store.proofs.store.Store.abort.Goals.{After-free_count, After-give_back}
use Rattle.sched_store.proofs.store.Store.abort.Goals as goal

-- what the nodes gave back
freed : (g : _) (c : After-free_count g) → AreFreed (parts_of c.self.inside) c.args.name (stays c.args.name.serial) c.free_count-before.result c.free_count.result
freed g c =
    nodes-free {nodes = c.close_all.new.self} c.args.name (stays c.args.name.serial) _ _ c.self.invariant (rw (← c.self.view_is) at c.requires) grind arith c.free_count-before.ensures c.free_count.ensures

-- what the table, the stack and the book told
told : (g : _) (c : After-give_back g) → Stepped (parts_of c.self.inside) (with_parts (parts_of c.self.inside) c.close_all.new.self c.remove_under-nodes.follows.lender-at-none c.give_back.new.self) c.args.name.tenant (without_under c.args.name.serial)
told g c =
    let some = rw (← c.self.view_is) at c.requires in
    let under = c.remove_under-nodes.follows.holds-at-none in
    gone-step c.args.name (stays c.args.name.serial) c.free_count-before.result c.free_count.result c.self.invariant
    grind (arith, some, tree-aborted, under, c.self.invariant.forest) (aborted c.args.name.serial) (sym (aborted-map_values (node_words c.self.inside.stack) c.args.name.serial _))

pub remove_under-nodes-requires : goal.remove_under-nodes-requires
remove_under-nodes-requires g c =
    there-has c.self.invariant c.args.name (rw (← c.self.view_is) at c.requires)

pub close_all-requires : goal.close_all-requires
close_all-requires g c =
    let closes = abort-closes c.self.invariant c.args.name c.remove_under-nodes.result.now c.remove_under-nodes.ensures.values in grind arith

pub overflow_sub-freed : goal.overflow_sub-freed
overflow_sub-freed g c = (freed g (goal.at.overflow_sub-freed g c).After-free_count).more

pub overflow_cast-freed : goal.overflow_cast-freed
overflow_cast-freed g c = let few = (freed g (goal.at.overflow_cast-freed g c).After-free_count).few in omega (arith, few)

pub give_back-requires : goal.give_back-requires
give_back-requires g c = (freed g (goal.at.give_back-requires g c).After-free_count).charged

pub invariant_of-self : goal.invariant_of-self
invariant_of-self g c = (told g (goal.at.invariant_of-self g c).After-give_back).stored

pub returns-clause-aborted : goal.returns-clause-aborted
returns-clause-aborted g c = rw (← c.self.view_is) (told g (goal.at.returns-clause-aborted g c).After-give_back).shared

pub returns-clause-count : goal.returns-clause-count
returns-clause-count g c = rw (← c.self.view_is) (abort-count c.self.invariant c.args.name c.remove_under-nodes.result.now c.remove_under-nodes.ensures.values)
