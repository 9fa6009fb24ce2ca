-- Of what is said to suffice for a position: it meets each frame's inequality, so the law `positions_suffice`.
use Rattle.jamboree_core.proofs.EnoughBounds.{positions-enough, root-nodes, positions-roomy, root-segments}
use Rattle.jamboree_core.proofs.reserves.positions_suffice.Goals as goal

pub returns-clause-nodes : goal.returns-clause-nodes
returns-clause-nodes c grain = (_, positions-enough grain, root-nodes grain)

pub returns-clause-segments : goal.returns-clause-segments
returns-clause-segments c grain = (_, positions-roomy grain, root-segments grain)
