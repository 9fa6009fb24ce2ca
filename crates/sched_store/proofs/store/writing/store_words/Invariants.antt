-- The core's store writes words of a node (`store::writing::store_words`): at each turn, the words so far and those
-- still to come make what all of them make, and none is out of place.
use Rattle.sched_store.proofs.Lookups.{◌≡◌, drop, false, IsOpen, node_words, with_node_words, stored, is_outside}
use Rattle.sched_store.proofs.store.writing.store_words.Given as goal

abbrev pub invariant-loop-at : goal.invariant-loop-at
invariant-loop-at g l = record {
  is_open : IsOpen l.stack l.node;
  inside : is_outside (drop l.at-index l.stores) (node_words l.stack l.node) ≡ false;
  so_far : with_node_words l.stack l.node (stored (drop l.at-index l.stores) (node_words l.stack l.node)) ≡ with_node_words l.fn.stack l.node (stored l.stores (node_words l.fn.stack l.node));
}
