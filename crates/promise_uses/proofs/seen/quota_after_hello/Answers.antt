-- A use of the promise on a session's history (`quota_after_hello`): what QUOTA tells is what the tenant had left at a
-- moment of the history.
use Rattle.promise_uses.proofs.Turned.{quota-left}
use Rattle.promise_uses.proofs.seen.quota_after_hello.Goals as goal

pub returns : goal.returns
returns g c =
    let seen = c.serve.ensures in
    let session = seen.session in
    (session.answered, session.replies, session.pieces, session.writes, session.written, seen.dones, λ quota left known are knows. quota-left g.L.DeskLedger.begun quota _ _ known seen.tenant knows left are)
