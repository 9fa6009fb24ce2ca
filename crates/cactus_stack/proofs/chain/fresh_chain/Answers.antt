-- A chain of segments for a stack's node (`chain::fresh_chain`): one of one segment holds the given words and then
-- zeros, and no other segment changes.
use Rattle.cactus_stack.proofs.Common.{arith}
use Rattle.cactus_stack.proofs.Grown.{fresh-chain-of-one}
use Rattle.cactus_stack.proofs.chain.fresh_chain.Goals as goal

pub returns-then-count-eq1 : goal.returns-then-count-eq1
returns-then-count-eq1 g c =
    rw c.if-count-eq1.true (fresh-chain-of-one c.args.region.now _ _ c.args.words.now (omega (arith, c.requires.room, c.if-count-eq1.true)) c.fresh_segment.ensures.was_free c.fresh_segment.ensures.after)
