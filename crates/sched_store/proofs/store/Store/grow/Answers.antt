-- The core's store makes a frame longer (`Store::grow`): its words are followed by zeros, its tenant is charged the
-- segments, which it had left, and nobody else is touched.
use Rattle.sched_store.proofs.Lookups.{◌≤◌, ◌++◌, length, replicate, arith, ap, ◌∙◌, growth_charge, parts_of, shared_of, words_under, there-has}
use Rattle.sched_store.proofs.Steps.{book-left}
use Rattle.sched_store.proofs.FrameSteps.{WordsSet, HasNode, has-node, has-free, growth-added, growth-set}
use Rattle.sched_store.proofs.store.Store.grow.Goals.{After-node_of-node, After-unwrap-2}
use Rattle.sched_store.proofs.store.Store.grow.Goals as goal

-- the node of the frame
has : (g : _) (c : After-node_of-node g) → HasNode (parts_of c.self.inside) c.args.name c.node_of-node.result
has g c = grind (arith, has-node)

-- what the stack and the book made of it
grown : (g : _) (c : After-unwrap-2 g) → WordsSet (parts_of c.self.inside) c.grow.new.self c.charge.new.self c.args.name (words_under (shared_of (parts_of c.self.inside)) c.args.name ++ replicate c.args.more 0)
grown g c =
    let node = has-node c.self.invariant c.args.name c.node_of-node.result (rw (← c.self.view_is) at c.requires.there) c.node_of-node.ensures in
    let changes = rw c.unwrap-2.ensures at c.charge.ensures.charges in
    let sum = rw c.unwrap-2.ensures at c.charge.ensures.sum in
    growth-set c.self.invariant node _ _ c.args.more c.growth_charge-added.result (rw c.unwrap.ensures at c.grow.ensures.grown) (c.growth_charge-added.ensures ∙ ap (λ n. growth_charge n c.args.more) (c.len.ensures.value ∙ ap length c.own.ensures)) c.charge.ensures.sound changes sum

pub node_of-node-requires : goal.node_of-node-requires
node_of-node-requires g c = there-has c.self.invariant c.args.name (rw (← c.self.view_is) at c.requires.there)

pub own-requires : goal.own-requires
own-requires g c = (has g (goal.at.own-requires g c).After-node_of-node).is_open

pub grow-requires : goal.grow-requires
grow-requires g c =
    let node = has g (goal.at.grow-requires g c).After-node_of-node in grind arith

pub unwrap-requires : goal.unwrap-requires
unwrap-requires g c =
    let left = rw (← c.self.view_is) at c.requires.left in
    let free = has-free c.self.invariant c.args.name.tenant (growth_charge (length (words_under (shared_of (parts_of c.self.inside)) c.args.name)) c.args.more) 0 left in
    let enough = rw (has g (goal.at.unwrap-requires g c).After-node_of-node).words at free in grind arith

pub unwrap-requires-2 : goal.unwrap-requires-2
unwrap-requires-2 g c =
    let left = rw (← c.self.view_is) at c.requires.left in
    let added = growth-added c.self.invariant (has g (goal.at.unwrap-requires-2 g c).After-node_of-node) c.args.more _ _ (c.len.ensures.value ∙ ap length c.own.ensures) c.growth_charge-added.ensures in
    c.charge.ensures.ok.1 (rw added (book-left c.self.invariant c.args.name.tenant (λ l. (growth_charge (length (words_under (shared_of (parts_of c.self.inside)) c.args.name)) c.args.more ≤ l.segments) × (0 ≤ l.nodes)) left))

pub invariant_of-self : goal.invariant_of-self
invariant_of-self g c = (grown g (goal.at.invariant_of-self g c).After-unwrap-2).stored

pub returns : goal.returns
returns g c = rw (← c.self.view_is) (grown g (goal.at.returns g c).After-unwrap-2).shared
