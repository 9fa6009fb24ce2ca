-- A worker's row of thieves (`dealing::row`): the next deque's owner gives one of its parts to the new thief.
use Rattle.steal_pool.proofs.TaskDeques.Common.{◌<◌, List, length, ap, ◌∙◌, arith, rules, map-set_same, DequeSeatIn, owner_seat, owner_room, with_part_cut, new_thief, owner_seats}
use Rattle.steal_pool.proofs.TaskDeques.SeatLemmas.{owner-at, cut-at, row-push}
use Rattle.steal_pool.proofs.task_deques.dealing.row.Goals as goal

pub loop-place-preserved : goal.loop-place-preserved
loop-place-preserved g c =
    let x = c.index_mut.result.now in
    let at = c.loop-place in
    let thief = c.in_ok-thief.field-0 in
    let before : List (DequeSeatIn g.row.A.Denot) = owner_seats c.args.owners.now.items in
    let inside : at.place < length at.owners.items = omega (arith, at.owners.ok.0, c.loop-place.invariant.4) in
    let within : at.place < length before = omega (arith, c.loop-place.invariant.5) in
    let here = owner-at with_part_cut at.owners.items before at.place x inside c.index_mut.ensures.value c.loop-place.invariant.0 in (
      cut-at at.owners.items before at.place x inside within c.index_mut.ensures.value c.loop-place.invariant.0 c.thief.new.self c.thief.ensures.owner,
      rw c.push_reserved.ensures.items (row-push _ before _ _ (owner_seat x) within c.loop-place.invariant.1 (c.in_ok-thief.ensures.thief ∙ ap new_thief here)),
      omega (arith, c.push_reserved.ensures.len),
      omega (arith, c.push_reserved.ensures.capacity),
      search rules,
      search rules,
      map-set_same owner_room at.owners.items at.place _ x (c.thief.ensures.room ∙ ap owner_room c.index_mut.ensures.value) ∙ c.loop-place.invariant.6,
    )
