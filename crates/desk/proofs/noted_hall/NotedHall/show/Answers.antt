-- A hall with its history shows it to a seat (`NotedHall::show`): what the seat sees is all of it, and its own steps
-- are those that it made.
use Rattle.desk.proofs.Common.{◌≡◌, ◌<◌, ap, sym, ◌∙◌, subst, jamboree, HasCome, SeatCoreOf}
use Rattle.desk.proofs.Judged.{Rights, Headlines}
use Rattle.desk.proofs.Coming.{looks}
use Rattle.desk.proofs.Noting.{seat_of}
use Rattle.desk.proofs.noted_hall.NotedHall.show.Goals as goal

pub returns-clause-look : goal.returns-clause-look
returns-clause-look g c = λ begun come new.
    let here = subst (HasCome begun) (sym c.self.view_is) come in
    let procedure = c.core-core.result.now.procedure in
    let is : procedure.grain ≡ begun.grain = c.core-core.ensures.grain ∙ here.same in
    let right = subst (λ grain. Rights (jamboree grain)) is (c.each_step_has_a_right_answer.ensures procedure) in
    let headline = subst (λ grain. Headlines (jamboree grain)) is (c.no_tenant_is_disturbed.ensures procedure) in
    let seat = c.seat.inside in
    let above = subst (λ (s : SeatCoreOf). begun.shared.newest < s.seat.tenant) (sym c.seat.view_is) new in
    let was = seat_of seat.tenant seat.asked.items seat.token.known in
    let now = ap (λ k. seat_of seat.tenant seat.asked.items k) c.show.ensures.token in
    rw (← c.seat.view_is) (looks c.self.inside.hall here was _ right headline c.seat.invariant.0 above c.show.ensures.seen c.show.ensures.own now)
