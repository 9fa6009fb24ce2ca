-- A closed node's chain of segments is given back (`chain::give_chain`): it ends, as each call has one segment less to
-- give.
use Rattle.cactus_stack.proofs.chain.+give_chain.Given as goal

abbrev pub decreases-give_chain : goal.decreases-give_chain
decreases-give_chain g l = l.count
