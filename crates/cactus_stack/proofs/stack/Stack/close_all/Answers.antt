-- A stack closes all nodes of a list (`Stack::close_all`): each is open when its turn comes, and at the end just these
-- are gone.
use Rattle.cactus_stack.proofs.Common.{◌≡◌, ◌+◌, ◌<◌, suc, length, take, refl, ◌∙◌, arith, take_all}
use Rattle.cactus_stack.proofs.LawFacts.{without-more, still-there}
use Rattle.cactus_stack.proofs.Steps.{closed, depths-stay}
use Rattle.cactus_stack.proofs.stack.Stack.close_all.Goals as goal

pub free-requires-clause-is_open : goal.free-requires-clause-is_open
free-requires-clause-is_open g c =
    let within : c.loop-node.node-index < length c.args.nodes.now = omega (arith, c.loop-node-test.true) in
    let is_open = rw (← c.node-item.is) at (c.requires.are_open c.loop-node.node-index c.node-item.result within) in
    rw (c.loop-node.invariant.closed, c.self.view_is) (still-there c.args.self.now c.args.nodes.now c.loop-node.node-index c.node-item.result c.requires.once within c.node-item.is is_open)

pub loop-node-preserved : goal.loop-node-preserved
loop-node-preserved g c =
    let within : c.loop-node.node-index < length c.args.nodes.now = omega (arith, c.loop-node-test.true) in
    let next : c.loop-node.node-index + 1 ≡ suc c.loop-node.node-index = omega arith in
    record {
      stored = c.free.ensures.stored;
      closed = rw (next, without-more _ c.args.nodes.now c.loop-node.node-index c.node-item.result within c.node-item.is) (c.free.ensures.closed ∙ rw c.loop-node.invariant.closed refl);
      depths = λ m. rw c.free.ensures.length_alone (depths-stay c.loop-node.self-inside.places.items c.node-item.result 0 m) ∙ c.loop-node.invariant.depths m;
    }

pub invariant_of-self : goal.invariant_of-self
invariant_of-self g c =
    let all : take c.loop-node.node-index c.args.nodes.now ≡ c.args.nodes.now = take_all c.loop-node.node-index c.args.nodes.now (omega (arith, c.loop-node-test.false)) in
    closed c.self.invariant c.self.view_is c.args.nodes.now c.loop-node.invariant.stored (c.loop-node.invariant.closed ∙ rw (all, c.self.view_is) refl) c.loop-node.invariant.depths c.requires.with_children

pub returns : goal.returns
returns g c =
    let all : take c.loop-node.node-index c.args.nodes.now ≡ c.args.nodes.now = take_all c.loop-node.node-index c.args.nodes.now (omega (arith, c.loop-node-test.false)) in
    c.loop-node.invariant.closed ∙ rw (all, c.self.view_is) refl
