-- Answers for serve_taped: a session over streams with tapes is one of the tapes.
use Rattle.tcp_server.proofs.OnTapes.{on-tapes}
use Rattle.tcp_server.proofs.server.serve_taped.Goals as goal

pub returns : goal.returns
returns g c =
    let served = c.serve_desk_seen-ended in
    rw (c.into_tape.ensures, c.into_tape-2.ensures)
    (on-tapes g.L.DeskLedger.begun g.S.Source.gives g.K.Sink.takes c.args.source served.new.source c.args.sink served.new.sink served.result.0 served.result.1 served.ensures)
