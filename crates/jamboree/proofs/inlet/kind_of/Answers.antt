-- A search's inlet (`inlet::kind_of`): by the window that the child was searched in, its score is an upper bound, a
-- lower bound or the value of its choice.
use Rattle.jamboree.proofs.Common.{neg_ℤ, seen, frame_in}
use Rattle.jamboree.proofs.ActLemmas.{is-low, is-high, kind-low, kind-other}
use Rattle.jamboree.proofs.inlet.kind_of.Goals as goal

pub returns-then-score-child : goal.returns-then-score-child
returns-then-score-child c =
    let w = c.args.child.now in
    kind-low (neg_ℤ w.goal.beta) (neg_ℤ w.goal.alpha) (seen (frame_in w)) (is-low w c.seen-score.result _ _ c.seen-score.ensures c.if-score-child.true)

pub returns-then-child-score : goal.returns-then-child-score
returns-then-child-score c =
    let w = c.args.child.now in
    kind-other (neg_ℤ w.goal.beta) (neg_ℤ w.goal.alpha) (seen (frame_in w)) _
    (is-low w c.seen-score.result _ _ c.seen-score.ensures c.if-score-child.false) (is-high w c.seen-score.result _ _ c.seen-score.ensures c.if-child-score.true)

pub returns : goal.returns
returns c =
    let w = c.args.child.now in
    kind-other (neg_ℤ w.goal.beta) (neg_ℤ w.goal.alpha) (seen (frame_in w)) _
    (is-low w c.seen-score.result _ _ c.seen-score.ensures c.if-score-child.false) (is-high w c.seen-score.result _ _ c.seen-score.ensures c.if-child-score.false)
