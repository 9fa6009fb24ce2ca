-- The ends of a pool's deques are dealt (`dealing::paired`): the next owner goes together with the next row of
-- thieves.
use Rattle.steal_pool.proofs.TaskDeques.Common.{◌≡◌, List, Some, map, ap, arith, All-pop, DequeSeatIn, owner_seat, new_thief, owner_seats, thief_seats, worker_seats, beside}
use Rattle.steal_pool.proofs.TaskDeques.SeatLemmas.{gives, gives-room}
use Rattle.steal_pool.proofs.task_deques.dealing.paired.Goals as goal

pub loop-own-preserved : goal.loop-own-preserved
loop-own-preserved g c =
    let at = c.loop-own in
    let own = c.in-Some.own in
    let row = c.take_last-thieves.result in
    let owners : List (DequeSeatIn g.row.A.Denot) = owner_seats c.args.owners.items in
    let thieves : List (DequeSeatIn g.row.A.Denot) = map new_thief owners in
    let popped = All-pop (λ r. thief_seats r.items ≡ thieves) at.rows.items _ (Some row) c.take_last-thieves.ensures.items c.loop-own.invariant.1 in
    let its : worker_seats (record { own = own; thieves = row }) ≡ beside thieves (owner_seat own) = ap (λ (l : List (DequeSeatIn g.row.A.Denot)). beside l (owner_seat own)) popped.1 in (
      rw c.push_reserved.ensures.items (gives at.all.items (record { own = own; thieves = row }) own _ _ thieves owners its c.in-Some.ensures.steps.0 c.loop-own.invariant.0),
      popped.0,
      omega (arith, c.in-Some.ensures.steps.1, c.take_last-thieves.ensures.len, c.loop-own.invariant.2),
      omega (arith, c.in-Some.ensures.steps.1, c.push_reserved.ensures.len, c.push_reserved.ensures.capacity, c.loop-own.invariant.3),
      rw c.push_reserved.ensures.items (gives-room at.all.items (record { own = own; thieves = row }) _ _ _ c.in-Some.ensures.steps.0 c.loop-own.invariant.4),
    )
