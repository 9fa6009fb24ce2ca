-- A list of things by number (`NumberedList::remove`): the thing at the place of the number goes.
use Rattle.std.proofs.Common.{◌∙◌, arith}
use Rattle.numbered_list.specs.Places.{IsAt}
use Rattle.numbered_list.proofs.Edits.{place-read, at-within, at-thing, at-removed}
use Rattle.numbered_list.proofs.list.NumberedList.remove.Given.{Over}
use Rattle.numbered_list.proofs.list.NumberedList.remove.Goals.{After-place_of-at}
use Rattle.numbered_list.proofs.list.NumberedList.remove.Goals as goal

module _ (g : Over) (c : After-place_of-at g) where
  here : IsAt g.T.Numbered.number_of c.args.number c.self.inside.things.items c.place_of-at.result
  here =
      let rising = rw (← c.self.view_is) at c.requires.rising in
      place-read _ _ _ _ _ rising (rw (← c.self.view_is) at c.requires.there) c.as_slice.ensures.value c.place_of-at.ensures

pub remove-thing-requires : goal.remove-thing-requires
remove-thing-requires g c = omega (arith, at-within _ _ _ _ (here g (goal.at.remove-thing-requires g c).After-place_of-at), c.self.inside.things.ok.0)

pub returns-clause-list : goal.returns-clause-list
returns-clause-list g c =
    let at = here g (goal.at.returns-clause-list g c).After-place_of-at in
    rw (← c.self.view_is) (c.remove-thing.ensures.items ∙ at-removed g.T.Numbered.number_of c.args.number c.self.inside.things.items c.place_of-at.result at)

pub returns-clause-value : goal.returns-clause-value
returns-clause-value g c =
    let at = here g (goal.at.returns-clause-value g c).After-place_of-at in
    rw (← c.self.view_is) (at-thing _ _ _ _ c.remove-thing.result at c.remove-thing.ensures.value)
