-- A chain of segments is followed (`chain::segment_after`): it ends, as each call has one link less to go.
use Rattle.cactus_stack.proofs.chain.+segment_after.Given as goal

abbrev pub decreases-segment_after : goal.decreases-segment_after
decreases-segment_after l = l.links
