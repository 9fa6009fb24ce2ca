-- What suffices for a search (`amounts::most_needed`): the segments and nodes below a position are worked out ply by
-- ply, as the definition does.
use Rattle.std.proofs.Common.{arith}
use Rattle.jamboree_core.proofs.EnoughBounds.{segments-step, nodes-step}
use Rattle.jamboree_core.proofs.amounts.+most_needed.Goals as goal

pub returns-clause-segments : goal.returns-clause-segments
returns-clause-segments t c =
    segments-step c.args.choices c.args.empty c.args.plies c.saturating_sub-left.result c.min.result c.most_needed-below.result.segments c.saturating_mul.result c.div_ceil-frame.result c.saturating_add.result
    c.if-plies-eq0.false (omega (arith, c.saturating_sub-left.ensures)) (omega (arith, c.min.ensures)) c.most_needed-below.ensures.segments (omega (arith, c.saturating_mul.ensures))
    (omega (arith, c.div_ceil-frame.ensures)) (omega (arith, c.saturating_add.ensures))

pub returns-clause-nodes : goal.returns-clause-nodes
returns-clause-nodes t c =
    nodes-step c.args.choices c.args.empty c.args.plies c.saturating_sub-left.result c.min.result c.most_needed-below.result.nodes c.saturating_sub-searches.result c.saturating_mul-2.result c.saturating_add-2.result
    c.if-plies-eq0.false (omega (arith, c.saturating_sub-left.ensures)) (omega (arith, c.min.ensures)) c.most_needed-below.ensures.nodes (omega (arith, c.saturating_sub-searches.ensures))
    (omega (arith, c.saturating_mul-2.ensures)) (omega (arith, c.saturating_add-2.ensures))
