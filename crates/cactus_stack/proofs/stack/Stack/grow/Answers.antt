-- A stack makes a node longer (`Stack::grow`): the node's words are followed by zeros, all others stay; it is refused
-- exactly where too few segments are free.
use Rattle.cactus_stack.proofs.Common.{◌+◌, ◌++◌, replicate, refl, arith, node_words, with_node_words, with_len}
use Rattle.cactus_stack.proofs.Content.{charge-some}
use Rattle.cactus_stack.proofs.Steps.{IsRead, Shows, is-read, free-is, grown}
use Rattle.cactus_stack.proofs.stack.Stack.grow.Goals.{After-grow_chain, After-index}
use Rattle.cactus_stack.proofs.stack.Stack.grow.Goals as goal

-- the node's place, as it was read
read : (g : _) (c : After-index g) → IsRead c.self.inside.region c.self.inside.places.items c.args.self.now c.args.node c.index-at.result c.index.result.now
read g c = is-read c.self.invariant.stored c.self.view_is c.requires.is_open c.index-at.ensures c.first.ensures c.index.ensures

-- the step that the region made
step : (g : _) (c : After-grow_chain g) → Shows c.grow_chain.new.region (with_len c.self.inside.places.items c.args.node (c.index.result.now.len + c.args.more))
    (with_node_words c.args.self.now c.args.node (node_words c.args.self.now c.args.node ++ replicate c.args.more 0))
step g c =
    let of = is-read c.self.invariant.stored c.self.view_is c.requires.is_open c.index-at.ensures c.first.ensures c.index.ensures in
    grown c.self.invariant c.self.view_is c.args.more c.requires.is_open of c.first-2.ensures c.charge-count.ensures c.charge.ensures (omega (arith, of.len, c.requires.in_limits)) c.grow_chain.ensures

pub returns-then-free_count-added-clause-refused : goal.returns-then-free_count-added-clause-refused
returns-then-free_count-added-clause-refused g c =
    let free = free-is c.self.invariant.stored c.self.view_is c.free_count.ensures in
    rw (← (read g (goal.at.returns-then-free_count-added-clause-refused g c).After-index).len) ((λ _. omega (arith, free, c.charge.ensures, c.charge-count.ensures, c.if-free_count-added.true)), (λ _. refl))

pub grow_chain-requires-clause-some : goal.grow_chain-requires-clause-some
grow_chain-requires-clause-some g c = rw c.charge-count.ensures (charge-some c.index.result.now.len (read g (goal.at.grow_chain-requires-clause-some g c).After-index).some)

pub overflow_cast-len-2 : goal.overflow_cast-len-2
overflow_cast-len-2 g c = omega (arith, (read g (goal.at.overflow_cast-len-2 g c).After-index).len, c.requires.in_limits)

pub invariant_of-self : goal.invariant_of-self
invariant_of-self g c =
    let put = is-read c.self.invariant.stored c.self.view_is c.requires.is_open c.index-at.ensures c.first.ensures c.index_mut.ensures.value in
    rw (put.at_node, put.is) (step g (goal.at.invariant_of-self g c).After-grow_chain).1

pub returns-clause-grown : goal.returns-clause-grown
returns-clause-grown g c =
    let put = is-read c.self.invariant.stored c.self.view_is c.requires.is_open c.index-at.ensures c.first.ensures c.index_mut.ensures.value in
    rw (put.at_node, put.is) (step g (goal.at.returns-clause-grown g c).After-grow_chain).0

pub returns-clause-refused : goal.returns-clause-refused
returns-clause-refused g c =
    let free = free-is c.self.invariant.stored c.self.view_is c.free_count.ensures in
    rw (← (read g (goal.at.returns-clause-refused g c).After-index).len) ((λ h. absurd (cc h)), (λ h. absurd (omega (arith, h, free, c.charge.ensures, c.charge-count.ensures, c.if-free_count-added.false))))
