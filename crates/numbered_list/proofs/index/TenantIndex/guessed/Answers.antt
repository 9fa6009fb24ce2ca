-- The index of a list by number (`TenantIndex::guessed`): where the guess is right, it is the place.
use Rattle.std.proofs.Common.{ap, sym, ◌∙◌}
use Rattle.numbered_list.proofs.Places.{count_below-found}
use Rattle.numbered_list.proofs.index.TenantIndex.guessed.Goals as goal

pub returns-then-number-clause-place : goal.returns-then-number-clause-place
returns-then-number-clause-place g c =
    let number_of = g.T.Numbered.number_of in
    count_below-found number_of _ _ _ c.index-things-guess.result c.requires c.if-guess-things.true (ap number_of (sym c.index-things-guess.is) ∙ sym c.number.ensures ∙ c.if-number.true)
