-- A hall with its history is offered a seat's step (`NotedHall::take_for`): the seat's share, the count of its taken
-- steps, goes up where it is taken.
use Rattle.desk.proofs.Noting.{seat-counts}
use Rattle.desk.proofs.noted_hall.NotedHall.take_for.Goals as goal

pub returns-clause-share : goal.returns-clause-share
returns-clause-share g c =
    let seat = c.seat.inside in
    rw (← c.seat.view_is) (seat-counts seat.tenant seat.asked.items seat.token.known c.take.new.token.known c.args.step.now c.take.result c.take.ensures.mine)
