-- A region lends the words of a taken segment (`Region::words_mut`): whatever is written there, no link and no other
-- segment changes.
use Rattle.segment_region.proofs.Common.{sym, ◌∙◌, arith, refl}
use Rattle.segment_region.proofs.Entries.{taken-block, words_at-place}
use Rattle.segment_region.proofs.Whole.{whole-words, entries-words}
use Rattle.segment_region.proofs.region.Region.words_mut.Goals as goal

-- No answer names the place that is lent, so that the contract decides which one it may be.

pub get_mut-requires : goal.get_mut-requires
get_mut-requires g c =
    let r = c.self.inside in
    let t = taken-block r.mark r.cells.slots c.args.segment (rw (← c.self.view_is) at c.requires) in
    (sym c.self.invariant.0.0, c.self.invariant.1.filled _ (omega arith))

pub invariant_of-self-lent : goal.invariant_of-self-lent
invariant_of-self-lent g c = λ w.
    let r = c.self.inside in
    let t = taken-block r.mark r.cells.slots c.args.segment (rw (← c.self.view_is) at c.requires) in
    (c.self.invariant.0, whole-words c.self.invariant.1 _ c.get_mut.result.now w (omega arith) c.get_mut.ensures.value)

pub returns : goal.returns
returns g c =
    let r = c.self.inside in
    let taken = rw (← c.self.view_is) at c.requires in
    let block = c.get_mut.result.now in (
      (refl, λ w. rw (← c.self.view_is) (entries-words r.mark r.cells.slots _ c.args.segment block w (omega arith) taken c.get_mut.ensures.value)),
      record { lends = tt; value = rw (← c.self.view_is) (c.words_mut.ensures.value ∙ sym (words_at-place r.mark r.cells.slots _ c.args.segment block (omega arith) taken c.get_mut.ensures.value)) },
    )
