-- A read of a stack (`StackView::parent`): the node's place names the parent that it was opened under.
use Rattle.cactus_stack.proofs.Common.{sym, ap, ◌∙◌, parent_of_node, Place}
use Rattle.cactus_stack.proofs.Steps.{is-read}
use Rattle.cactus_stack.proofs.view.StackView.parent.Goals as goal

pub returns : goal.returns
returns c =
    let of = is-read c.self.invariant.stored c.self.view_is c.requires c.index-at.ensures c.first.ensures c.index-self-at.is in
    rw (← c.index-self-at.is) (ap (λ (place : Place). place.parent) of.is ∙ sym (ap parent_of_node of.it.entry))
