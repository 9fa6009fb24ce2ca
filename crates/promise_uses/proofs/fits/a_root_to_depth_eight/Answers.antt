-- A use of the law on returned roots (`a_root_to_depth_eight`): it holds the value and the choice of what was asked.
use Rattle.promise_uses.proofs.Common.{refl, ◌∙◌, root_words}
use Rattle.promise_uses.proofs.fits.a_root_to_depth_eight.Goals as goal

pub returns : goal.returns
returns c own opp words fit root =
    let law = c.a_returned_root_holds_value_and_choice.ensures in
    (law.value (root_words own opp 8) words fit root ∙ rw (root.own_is, root.opp_is, root.depth_is) refl, law.choice (root_words own opp 8) words fit root ∙ rw (root.own_is, root.opp_is, root.depth_is) refl)
