-- A node's chain of segments is made longer (`chain::grow_chain`): the new ones hold zeros and hang at its old end.
use Rattle.cactus_stack.proofs.Grown.{chain-grows, last_is-taken}
use Rattle.cactus_stack.proofs.chain.grow_chain.Goals as goal

pub set_link-requires : goal.set_link-requires
set_link-requires g c =
    last_is-taken c.args.region.now _ c.args.first c.args.more _ c.fresh_chain-fresh.ensures _ c.args.count c.requires.some c.requires.is_chain (rw c.view.ensures at c.segment_after-last.ensures)

pub returns : goal.returns
returns g c =
    chain-grows c.args.region.now _ c.args.first c.args.more _ c.fresh_chain-fresh.ensures _ _ c.args.count c.requires.some c.requires.is_chain (rw c.view.ensures at c.segment_after-last.ensures) c.set_link.ensures
