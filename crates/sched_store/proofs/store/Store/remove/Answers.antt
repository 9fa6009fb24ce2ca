-- The core's store removes a frame without a child (`Store::remove`): it goes with its node, and what it was charged
-- is free again.
use Rattle.sched_store.proofs.Lookups.{arith, without_frame, frames_without, parts_of, tree-without, sym, node_words, frames_without-map_values, there-has}
use Rattle.sched_store.proofs.Steps.{Stepped}
use Rattle.sched_store.proofs.Removing.{AreFreed, with_parts, nodes-free, gone-step, others_stay, no-children, leaf-closes, leaf-gone}
use Rattle.sched_store.proofs.store.Store.remove.Goals.{After-free_count, After-give_back}
use Rattle.sched_store.proofs.store.Store.remove.Goals as goal

-- what the node gave back
freed : (g : _) (c : After-free_count g) → AreFreed (parts_of c.self.inside) c.args.name (others_stay c.args.name.serial) c.free_count-before.result c.free_count.result
freed g c =
    nodes-free _ _ _ _ c.self.invariant (rw (← c.self.view_is) at c.requires.there)
    (leaf-gone c.self.invariant c.args.name _ c.remove-node.result c.remove-node.ensures.value c.close.ensures) c.free_count-before.ensures c.free_count.ensures

-- what the table, the stack and the book told
told : (g : _) (c : After-give_back g) → Stepped (parts_of c.self.inside) (with_parts (parts_of c.self.inside) c.close.new.self c.remove-node.new.self c.give_back.new.self) c.args.name.tenant (without_frame c.args.name.serial)
told g c =
    let leaf = no-children c.self.invariant c.args.name (rw (← c.self.view_is) at c.requires.leaf) in
    let some = rw (← c.self.view_is) at c.requires.there in
    let gone = leaf-gone c.self.invariant c.args.name _ c.remove-node.result c.remove-node.ensures.value c.close.ensures in
    gone-step c.args.name (others_stay c.args.name.serial) c.free_count-before.result c.free_count.result c.self.invariant
    grind (arith, some, gone, tree-without, leaf, c.remove-node.ensures.frames, c.remove-node.ensures.kept, c.self.invariant.forest) (frames_without c.args.name.serial) (sym (frames_without-map_values (node_words c.self.inside.stack) c.args.name.serial _))

pub remove-node-requires : goal.remove-node-requires
remove-node-requires g c = record {
  there = there-has c.self.invariant c.args.name (rw (← c.self.view_is) at c.requires.there);
  leaf = no-children c.self.invariant c.args.name (rw (← c.self.view_is) at c.requires.leaf);
}

pub close-requires : goal.close-requires
close-requires g c =
    let leaf = no-children c.self.invariant c.args.name (rw (← c.self.view_is) at c.requires.leaf) in
    let closes = leaf-closes c.self.invariant c.args.name c.remove-node.result c.remove-node.ensures.value leaf in
    grind arith

pub overflow_sub-freed : goal.overflow_sub-freed
overflow_sub-freed g c = (freed g (goal.at.overflow_sub-freed g c).After-free_count).more

pub give_back-requires : goal.give_back-requires
give_back-requires g c = (freed g (goal.at.give_back-requires g c).After-free_count).charged

pub invariant_of-self : goal.invariant_of-self
invariant_of-self g c = (told g (goal.at.invariant_of-self g c).After-give_back).stored

pub returns : goal.returns
returns g c = rw (← c.self.view_is) (told g (goal.at.returns g c).After-give_back).shared
