-- A use of the desk's session without the history given back (`hello_and_bye_untold`): what the seat knew of it is
-- there all the same.
use Rattle.promise_uses.proofs.Turned.{admit-and-leave}
use Rattle.promise_uses.proofs.seen.hello_and_bye_untold.Goals as goal

pub returns : goal.returns
returns g c =
    let told = c.serve_desk.ensures.seen in
    let seen = told.1 in
    (told.0, seen.session.answered, seen.session.replies, λ quota known are knows. admit-and-leave g.L.DeskLedger.begun quota _ _ known seen.tenant knows are)
