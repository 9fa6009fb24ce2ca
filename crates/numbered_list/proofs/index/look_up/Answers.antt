-- The index of a list by number (`index::look_up`): what stands at the place is the thing of the number, or there is
-- none.
use Rattle.std.proofs.Common.{sym, ◌∙◌, arith}
use Rattle.numbered_list.proofs.Places.{find_by_number-read, find_by_number-other, find_by_number-past}
use Rattle.numbered_list.proofs.index.look_up.Goals as goal
use Rattle.numbered_list.proofs.index.look_up.Goals.{else-at-things-via-then-at-things+else-number, else-at-things-via-else-at-things}

pub returns-then-number : goal.returns-then-number
returns-then-number g c =
    let number_of = g.T.Numbered.number_of in
    find_by_number-read number_of _ _ c.search-at.result c.index-things-at.result c.index-things-at-then-number.result c.requires c.if-at-things.true c.index-things-at.is c.index-things-at-then-number.is (sym c.number.ensures ∙ c.if-number.true)

pub returns : goal.returns
returns g c =
    let number_of = g.T.Numbered.number_of in
    elim c.else-at-things.branch [
      | else-at-things-via-then-at-things+else-number w ↦ sym (find_by_number-other number_of _ _ c.search-at.result _ c.requires c.search-at.ensures w.if-at-things.true w.index-things-at.is (λ own. w.if-number.false (w.number.ensures ∙ own)))
      | else-at-things-via-else-at-things w ↦ sym (find_by_number-past number_of _ _ c.search-at.result c.requires c.search-at.ensures (omega (arith, w.if-at-things.false)))
    ]
