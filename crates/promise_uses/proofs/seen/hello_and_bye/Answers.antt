-- A use of the promise on a session's history (`hello_and_bye`): of a session with HELLO alone, the history has its
-- Admit and its Leave.
use Rattle.promise_uses.proofs.Turned.{admit-and-leave}
use Rattle.promise_uses.proofs.seen.hello_and_bye.Goals as goal

pub returns : goal.returns
returns g c =
    let seen = c.serve.ensures in
    (seen.session.answered, seen.session.replies, λ quota known are knows. admit-and-leave g.L.DeskLedger.begun quota _ _ known seen.tenant knows are)
