-- A list of things by number (`NumberedList::get_mut`): the place is that of the number's thing, and what is written
-- there takes its place.
use Rattle.std.proofs.Common.{arith, refl}
use Rattle.numbered_list.specs.Places.{IsAt}
use Rattle.numbered_list.proofs.Edits.{place-read, at-within, at-thing, at-put}
use Rattle.numbered_list.proofs.list.NumberedList.get_mut.Given.{Over}
use Rattle.numbered_list.proofs.list.NumberedList.get_mut.Goals.{After-place_of-at}
use Rattle.numbered_list.proofs.list.NumberedList.get_mut.Goals as goal

module _ (g : Over) (c : After-place_of-at g) where
  here : IsAt g.T.Numbered.number_of c.args.number c.self.inside.things.items c.place_of-at.result
  here =
      let rising = rw (← c.self.view_is) at c.requires.rising in
      place-read _ _ _ _ _ rising (rw (← c.self.view_is) at c.requires.there) c.as_slice.ensures.value c.place_of-at.ensures

pub index_mut-requires : goal.index_mut-requires
index_mut-requires g c = omega (arith, at-within _ _ _ _ (here g (goal.at.index_mut-requires g c).After-place_of-at), c.self.inside.things.ok.0)

pub returns : goal.returns
returns g c =
    let at = here g (goal.at.returns g c).After-place_of-at in (
      (refl, λ w. rw (← c.self.view_is) (at-put g.T.Numbered.number_of c.args.number c.self.inside.things.items c.place_of-at.result w at)),
      record { writes_back = tt; value = rw (← c.self.view_is) (at-thing _ _ _ _ c.index_mut.result.now at c.index_mut.ensures.value) },
    )
