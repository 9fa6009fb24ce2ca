-- A stack closes all nodes of a list (`Stack::close_all`): at each turn, those passed are gone, the others are stored,
-- and no depth has changed.
use Rattle.cactus_stack.proofs.Common.{◌≡◌, ℕ, take, without, place_at, nodes_from, AreStored}
use Rattle.cactus_stack.proofs.stack.Stack.close_all.Given as goal

abbrev pub invariant-loop-node : goal.invariant-loop-node
invariant-loop-node g l = record {
  stored : AreStored l.self-inside.region l.self-inside.places.items;
  closed : nodes_from l.self-inside.region 0 l.self-inside.places.items ≡ without (nodes_from l.initial.self-inside.region 0 l.initial.self-inside.places.items) (take l.node-index l.nodes);
  depths : (m : ℕ) → (place_at l.self-inside.places.items m).depth ≡ (place_at l.initial.self-inside.places.items m).depth;
}
