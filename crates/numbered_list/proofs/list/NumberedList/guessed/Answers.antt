-- A list of things by number (`NumberedList::guessed`): what stands at the guessed place is the thing of the number.
use Rattle.std.proofs.Common.{ap, ◌∙◌}
use Rattle.numbered_list.proofs.Places.{find_by_number-found}
use Rattle.numbered_list.proofs.list.NumberedList.guessed.Goals as goal

pub returns-in-Some : goal.returns-in-Some
returns-in-Some g c =
    let number_of = g.T.Numbered.number_of in
    let own = ap number_of c.index.ensures ∙ rw c.as_slice.ensures.value at c.in-Some.ensures.thing c.index.result.now in
    rw (← c.self.view_is) (find_by_number-found number_of _ _ c.in-Some.at c.index.result.now (rw (← c.self.view_is) at c.requires) (rw c.as_slice.ensures.value at c.in-Some.ensures.within) c.index.ensures own)
