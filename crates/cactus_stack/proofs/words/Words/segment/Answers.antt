-- The words of one node of a stack (`Words::segment`): the sixteen words from that place on, or as many as are left.
use Rattle.cactus_stack.proofs.Common.{arith, ◌<◌, ◌∙◌, charge}
use Rattle.cactus_stack.proofs.Content.{front-of-block, place-of-block, block-is_taken, words-of-block}
use Rattle.cactus_stack.proofs.words.Words.segment.Goals as goal

pub segment_after-segment-requires : goal.segment_after-segment-requires
segment_after-segment-requires c =
    front-of-block c.self.invariant c.args.number (omega (arith, c.charge.ensures, c.if-charge-number.false))

pub words-words-requires : goal.words-words-requires
words-words-requires c =
    let below : c.args.number < charge c.self.inside.len = omega (arith, c.charge.ensures, c.if-charge-number.false) in
    (block-is_taken c.self.invariant c.args.number below c.segment_after-segment.result (c.segment_after-segment.ensures ∙ place-of-block c.self.invariant c.args.number below)).0

pub returns : goal.returns
returns c =
    let below : c.args.number < charge c.self.inside.len = omega (arith, c.charge.ensures, c.if-charge-number.false) in
    rw (← c.self.view_is)
    (words-of-block c.self.invariant c.args.number below _ _ c.words-words.result.now c.min.ensures (c.segment_after-segment.ensures ∙ place-of-block c.self.invariant c.args.number below) c.words-words.ensures.value)
