-- A chain of segments for a stack's node (`chain::fresh_segments`): it ends, as each call makes one segment less.
use Rattle.cactus_stack.proofs.chain.+fresh_segments.Given as goal

abbrev pub decreases-fresh_segments : goal.decreases-fresh_segments
decreases-fresh_segments g l = l.count
