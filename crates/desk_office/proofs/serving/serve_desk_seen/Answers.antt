-- A server's session is served at its desk (`serve_desk_seen`): each answer is a function of its request and of the
-- tenant's own part of the history.
use Rattle.desk_office.proofs.Sessions.{seen-session}
use Rattle.desk_office.proofs.serving.serve_desk_seen.Goals as goal

pub returns : goal.returns
returns g c =
    let served = c.serve_lines-result in
    seen-session (λ office. record { seat = office.seat; knew = office.knew }) g.L.DeskLedger.begun _ (λ from call reply to turn. turn) _ _ c.args.source.now served.new.source c.args.sink.now served.new.sink c.new-office.result served.new.office served.result _
    c.new-office.ensures.0 c.new-office.ensures.1 c.close-knew.ensures served.ensures
