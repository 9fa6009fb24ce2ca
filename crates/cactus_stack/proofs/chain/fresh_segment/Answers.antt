-- A fresh segment for a stack's node (`chain::fresh_segment`): it holds the words and zeros, and its link is the one
-- given.
use Rattle.cactus_stack.proofs.Grown.{fresh-segment-is-filled}
use Rattle.cactus_stack.proofs.chain.fresh_segment.Goals as goal

pub returns-clause-after : goal.returns-clause-after
returns-clause-after g c =
    rw (c.set_link.ensures, c.fill.ensures, c.words_mut.ensures.value, c.in-Some.ensures.taken)
    (fresh-segment-is-filled c.args.region.now c.in-Some.segment c.args.words.now c.args.link c.in-Some.ensures.fresh)
