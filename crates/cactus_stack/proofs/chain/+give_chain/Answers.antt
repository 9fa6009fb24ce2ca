-- A closed node's chain of segments is given back (`chain::give_chain`): all its segments are free then, and no other
-- changes.
use Rattle.cactus_stack.proofs.Common.{arith}
use Rattle.cactus_stack.proofs.Grown.{give-rest-of, given-back-of}
use Rattle.cactus_stack.proofs.chain.+give_chain.Goals as goal

pub give_chain-requires : goal.give_chain-requires
give_chain-requires g t c = λ κs within.
    (omega arith, (within, give-rest-of c.args.region.now c.in-Some.segment c.in-Some.is c.link-next.ensures c.give.ensures c.args.count (omega arith) c.requires))

pub returns-in-Some : goal.returns-in-Some
returns-in-Some g t c =
    given-back-of c.args.region.now c.in-Some.segment c.in-Some.is c.link-next.ensures c.give.ensures _ c.args.count (omega arith) c.requires c.give_chain.ensures
