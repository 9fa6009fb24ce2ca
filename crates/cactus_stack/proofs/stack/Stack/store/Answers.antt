-- A stack writes one word of a node (`Stack::store`): the word stands at its place, in the segment that holds it, and
-- nothing else changes.
use Rattle.cactus_stack.proofs.Common.{◌≡◌, suc, ◌<◌, ◌∙◌, ◌/◌, Some, get_or, arith, chain, len_at}
use Rattle.cactus_stack.proofs.Content.{front-of-sound, place-of-sound, place-is_taken}
use Rattle.cactus_stack.proofs.Steps.{kept-node, stored-word}
use Rattle.cactus_stack.proofs.stack.Stack.store.Goals.{After-segment_after-segment}
use Rattle.cactus_stack.proofs.stack.Stack.store.Goals as goal

-- the segment that holds the word
place : (g : _) (c : After-segment_after-segment g) → c.segment_after-segment.result ≡ get_or (chain (suc (c.args.at / 16)) c.self.inside.region (Some c.args.node)) (c.args.at / 16) 0
place g c = rw (c.view.ensures, c.first.ensures) at c.segment_after-segment.ensures

pub segment_after-segment-requires : goal.segment_after-segment-requires
segment_after-segment-requires g c =
    let it = kept-node c.self.invariant.stored c.self.view_is c.args.node c.requires.is_open in
    rw (c.view.ensures, c.first.ensures) (front-of-sound it.sound c.args.at (omega (arith, c.requires.in_bounds, it.len)))

pub words_mut-requires : goal.words_mut-requires
words_mut-requires g c =
    let it = kept-node c.self.invariant.stored c.self.view_is c.args.node c.requires.is_open in
    let below : c.args.at < len_at c.self.inside.places.items c.args.node = omega (arith, c.requires.in_bounds, it.len) in
    rw (place g (goal.at.words_mut-requires g c).After-segment_after-segment ∙ place-of-sound it.sound c.args.at below)
    (place-is_taken it.sound c.args.at below).0

pub invariant_of-self : goal.invariant_of-self
invariant_of-self g c =
    rw c.words_mut.ensures.value (stored-word c.self.invariant c.self.view_is c.args.node c.args.word c.requires.is_open c.requires.in_bounds (place g (goal.at.invariant_of-self g c).After-segment_after-segment)).1

pub returns : goal.returns
returns g c =
    rw c.words_mut.ensures.value (stored-word c.self.invariant c.self.view_is c.args.node c.args.word c.requires.is_open c.requires.in_bounds (place g (goal.at.returns g c).After-segment_after-segment)).0
