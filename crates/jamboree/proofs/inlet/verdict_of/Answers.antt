-- A search's inlet (`inlet::verdict_of`): for a test, a first search and a search again, what the parent does about
-- the score is what the definition says.
use Rattle.jamboree.proofs.ActLemmas.{by-end, by-test, by-search}
use Rattle.jamboree.proofs.inlet.verdict_of.Goals as goal

pub returns-then-frame-score : goal.returns-then-frame-score
returns-then-frame-score c = by-end c.args.frame.now c.args.child.now c.seen-score.result c.seen-score.ensures _ c.if-frame-score.true c.ended.ensures

pub returns-then-score-child : goal.returns-then-score-child
returns-then-score-child c =
    by-test c.args.frame.now c.args.child.now c.seen-score.result c.seen-score.ensures _ _ c.if-frame-score.false c.in-Test.is c.if-score-child.true c.low.ensures

pub returns-else-score-child : goal.returns-else-score-child
returns-else-score-child c =
    by-test c.args.frame.now c.args.child.now c.seen-score.result c.seen-score.ensures _ _ c.if-frame-score.false c.in-Test.is
    c.if-score-child.false c.failed.ensures

pub returns-then-floor-score : goal.returns-then-floor-score
returns-then-floor-score c =
    by-search c.args.frame.now c.args.child.now c.seen-score.result c.seen-score.ensures _ c.floor.result _ c.if-frame-score.false c.in_default.not-Test
    c.floor.ensures c.if-floor-score.true c.raised.ensures

pub returns-else-floor-score : goal.returns-else-floor-score
returns-else-floor-score c =
    by-search c.args.frame.now c.args.child.now c.seen-score.result c.seen-score.ensures _ c.floor.result _ c.if-frame-score.false c.in_default.not-Test
    c.floor.ensures c.if-floor-score.false c.kept.ensures
