-- A list of things by number (`NumberedList::insert`): the new thing comes to its place, for which there is memory.
use Rattle.std.proofs.Common.{◌<◌, length, IsOk, arith}
use Rattle.numbered_list.proofs.Edits.{inserted-read}
use Rattle.numbered_list.proofs.list.NumberedList.insert.Goals as goal

pub insert-requires : goal.insert-requires
insert-requires g c =
    let placed = inserted-read g.T.Numbered.number_of _ c.args.thing _ _ c.place_of-at.result c.as_slice.ensures.value c.number.ensures c.place_of-at.ensures in
    omega (arith, placed.0, c.self.inside.things.ok.0)

pub returns : goal.returns
returns g c =
    let placed = inserted-read g.T.Numbered.number_of _ c.args.thing _ _ c.place_of-at.result c.as_slice.ensures.value c.number.ensures c.place_of-at.ensures in
    let room : length c.self.inside.things.items < 64 = rw (← c.self.view_is) at c.requires.room in
    let done : IsOk c.insert.result = c.insert.ensures.succeeds (omega (arith, room, c.self.invariant, c.self.inside.things.ok.0)) in
    rw (← c.self.view_is, c.insert.ensures.items, done) placed.1
