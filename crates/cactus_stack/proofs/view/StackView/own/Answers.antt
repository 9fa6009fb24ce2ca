-- A read of a stack (`StackView::own`): the words are those that the node's chain of segments holds.
use Rattle.cactus_stack.proofs.Common.{◌≡◌, ℕ, get_or, sym, ap, ◌∙◌, len_at, words_in_chain, Place}
use Rattle.cactus_stack.proofs.Steps.{is-read}
use Rattle.cactus_stack.proofs.view.StackView.own.Goals as goal

pub returns : goal.returns
returns c =
    let of = is-read c.self.invariant.stored c.self.view_is c.requires c.index-at.ensures c.first-first.ensures c.index-self-at.is in
    let len : (get_or c.self.inside.places.now c.index-at.result c.index-self-at.result).len ≡ len_at c.self.inside.places.now c.args.node = ap (λ (place : Place). place.len) (sym c.index-self-at.is ∙ of.is) in
    rw (c.of.ensures, c.view.ensures, c.first-first.ensures) (ap (λ (k : ℕ). words_in_chain c.self.inside.region c.args.node k) len ∙ sym of.it.words)
