-- A hall with its history lets a seat leave (`NotedHall::leave`): the history ends with the tenant's Leave, the last
-- of the seat's own steps.
use Rattle.desk.proofs.Common.{subst, refl, Leave, IsDecided, IsMoved, IsToldOf}
use Rattle.desk.proofs.noted_hall.NotedHall.leave.Goals as goal

pub returns-clause-told : goal.returns-clause-told
returns-clause-told g c = λ begun come.
    let t = c.take-left in
    let is = t.ensures.left begun come refl c.seat.invariant.1 in
    rw (← c.seat.view_is)
    (subst (λ r. IsToldOf begun c.seat.inside.token.known (Leave c.seat.inside.tenant) r t.new.token.known) is (t.ensures.told begun come), t.ensures.true_to begun come refl)

pub returns-clause-step : goal.returns-clause-step
returns-clause-step g c = λ begun come.
    let t = c.take-left in
    let is = t.ensures.left begun come refl c.seat.invariant.1 in
    rw (← c.seat.view_is) (subst (λ r. IsDecided c.args.self.now.hall (Leave c.seat.inside.tenant) r t.new.self.hall) is t.ensures.step)

pub returns-clause-moved : goal.returns-clause-moved
returns-clause-moved g c = λ begun come.
    let t = c.take-left in
    let is = t.ensures.left begun come refl c.seat.invariant.1 in
    subst (λ r. IsMoved c.args.self.now.hall r t.new.self.hall) is t.ensures.moved
