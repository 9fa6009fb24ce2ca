-- The index of a list by number (`TenantIndex::find`): what stands at the guessed place is the thing of the number.
use Rattle.std.proofs.Common.{ap, sym, ◌∙◌}
use Rattle.numbered_list.proofs.Places.{find_by_number-found}
use Rattle.numbered_list.proofs.index.TenantIndex.find.Goals as goal

pub returns-in-Some : goal.returns-in-Some
returns-in-Some g c =
    let number_of = g.T.Numbered.number_of in
    let own = ap number_of c.index-things-at.is ∙ c.in-Some.ensures.thing c.index-things-at.result in
    sym (find_by_number-found number_of _ _ c.in-Some.at c.index-things-at.result c.requires c.in-Some.ensures.within c.index-things-at.is own)
