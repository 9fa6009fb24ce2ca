-- A use of the promise on a session's history (`a_spent_ask`): of a session with HELLO, ASK, WAIT and a refused raise,
-- the Submit is in the history.
use Rattle.promise_uses.proofs.Turned.{spent-ask}
use Rattle.promise_uses.proofs.seen.a_spent_ask.Goals as goal

pub returns : goal.returns
returns g c =
    let seen = c.serve.ensures in
    (seen.session.answered, seen.session.replies, λ quota more board side job known are knows. spent-ask g.L.DeskLedger.begun more board side job known quota _ _ seen.tenant are knows)
