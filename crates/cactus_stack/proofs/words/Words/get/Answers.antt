-- The words of one node of a stack (`Words::get`): the word at a place is read from the segment that has it, and
-- beyond the end there is none.
use Rattle.cactus_stack.proofs.Common.{sym, arith, ◌<◌, ◌∙◌}
use Rattle.cactus_stack.proofs.Content.{front-of-sound, place-of-sound, place-is_taken, word-of-sound}
use Rattle.cactus_stack.proofs.words.Words.get.Goals as goal

pub segment_after-segment-requires : goal.segment_after-segment-requires
segment_after-segment-requires c =
    front-of-sound c.self.invariant c.args.at (omega (arith, c.if-at-self.false))

pub words-requires : goal.words-requires
words-requires c =
    let below : c.args.at < c.self.inside.len = omega (arith, c.if-at-self.false) in
    rw (c.segment_after-segment.ensures ∙ place-of-sound c.self.invariant c.args.at below)
    (place-is_taken c.self.invariant c.args.at below).0

pub returns : goal.returns
returns c =
    let below : c.args.at < c.self.inside.len = omega (arith, c.if-at-self.false) in
    let place = c.segment_after-segment.ensures ∙ place-of-sound c.self.invariant c.args.at below in
    rw (c.words.ensures.value, place, ← c.self.view_is)
    (sym (word-of-sound c.self.invariant c.args.at below))
