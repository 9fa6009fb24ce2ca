-- The core's store writes words of a frame (`Store::store_some`): they stand in the frame's node, each at its place;
-- no other frame changes, and the store is sound.
use Rattle.sched_store.proofs.Lookups.{parts_of, there-has}
use Rattle.sched_store.proofs.FrameSteps.{HasNode, has-node, stores-set}
use Rattle.sched_store.proofs.store.Store.store_some.Goals.{After-node_of-node}
use Rattle.sched_store.proofs.store.Store.store_some.Goals as goal

-- the node of the frame
has : (g : _) (c : After-node_of-node g) → HasNode (parts_of c.self.inside) c.args.name c.node_of-node.result
has g c = has-node c.self.invariant _ _ (rw (← c.self.view_is) at c.requires.there) c.node_of-node.ensures

pub node_of-node-requires : goal.node_of-node-requires
node_of-node-requires g c = there-has c.self.invariant c.args.name (rw (← c.self.view_is) at c.requires.there)

pub store_words-requires : goal.store_words-requires
store_words-requires g c =
    let node = has g (goal.at.store_words-requires g c).After-node_of-node in
    record { is_open = node.is_open; inside = rw node.words at (rw (← c.self.view_is) at c.requires.inside) }

pub invariant_of-self : goal.invariant_of-self
invariant_of-self g c = (stores-set c.self.invariant (has g (goal.at.invariant_of-self g c).After-node_of-node) _ c.args.stores.now c.store_words.ensures).stored

pub returns : goal.returns
returns g c = rw (← c.self.view_is) (stores-set c.self.invariant (has g (goal.at.returns g c).After-node_of-node) _ c.args.stores.now c.store_words.ensures).shared
