-- A stack gives a node's segments and number back (`stack::free`): the node is gone, and the others are stored as
-- before.
use Rattle.cactus_stack.proofs.Common.{refl, ◌∙◌, rules, place_at, resized}
use Rattle.cactus_stack.proofs.Steps.{IsChange, changed, still-stored, kept-node, is-read, close-change}
use Rattle.cactus_stack.proofs.stack.free.Goals.{After-give_chain}
use Rattle.cactus_stack.proofs.stack.free.Goals as goal

-- what the region's change is to the places
change : (g : _) (c : After-give_chain g) → IsChange c.args.region.now c.give_chain.new.region c.args.places.now.items c.args.node (resized (place_at c.args.places.now.items c.args.node) 0)
change g c =
    let of = is-read c.requires.stored refl c.requires.is_open c.index-at.ensures c.first.ensures c.index.ensures in
    close-change c.requires.stored of.it.some (rw (c.first-2.ensures, c.charge-count.ensures, of.is) at c.give_chain.ensures)

pub index-requires : goal.index-requires
index-requires g c =
    let below = (kept-node c.requires.stored refl c.args.node c.requires.is_open).within in
    rw (c.index-at.ensures ∙ c.first.ensures) (search rules)

pub give_chain-requires : goal.give_chain-requires
give_chain-requires g c =
    let of = is-read c.requires.stored refl c.requires.is_open c.index-at.ensures c.first.ensures c.index.ensures in
    rw (c.first-2.ensures, c.charge-count.ensures, of.is) of.it.sound.is_chain

pub index_mut-requires : goal.index_mut-requires
index_mut-requires g c =
    let below = (kept-node c.requires.stored refl c.args.node c.requires.is_open).within in
    rw (c.index-at.ensures ∙ c.first.ensures) (search rules)

pub returns-clause-stored : goal.returns-clause-stored
returns-clause-stored g c =
    let put = is-read c.requires.stored refl c.requires.is_open c.index-at.ensures c.first.ensures c.index_mut.ensures.value in
    rw (put.at_node, put.is) (still-stored (change g (goal.at.returns-clause-stored g c).After-give_chain) c.requires.stored)

pub returns-clause-closed : goal.returns-clause-closed
returns-clause-closed g c =
    let put = is-read c.requires.stored refl c.requires.is_open c.index-at.ensures c.first.ensures c.index_mut.ensures.value in
    rw (put.at_node, put.is) (changed (change g (goal.at.returns-clause-closed g c).After-give_chain))
