-- A chain of segments for a stack's node (`chain::fresh_segments`): made from its end to its front, it holds the given
-- words and then zeros, and no other segment changes.
use Rattle.cactus_stack.proofs.Common.{arith}
use Rattle.cactus_stack.proofs.Grown.{fresh-chain-grows}
use Rattle.cactus_stack.proofs.chain.+fresh_segments.Goals as goal

pub returns : goal.returns
returns g t c =
    let after = rw c.split_at.ensures.front at c.fresh_segment.ensures.after in
    let rest = rw c.split_at.ensures.back at c.fresh_segments-rest.ensures in
    fresh-chain-grows c.args.region.now _ c.fresh_segments-rest.result _ c.args.words.now _ c.min.ensures c.fresh_segment.ensures.was_free _ c.args.count (omega arith) c.requires.room rest after
