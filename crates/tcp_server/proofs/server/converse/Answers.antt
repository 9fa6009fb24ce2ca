-- Answers for converse: its tapes began blank, at the connection's socket.
use Rattle.tcp_server.proofs.OnTapes.{from-blank, on-own-socket}
use Rattle.tcp_server.proofs.server.converse.Goals as goal

pub of-requires : goal.of-requires
of-requires g c =
    let left = c.serve_taped.result in
    on-own-socket g.L.DeskLedger.begun _ left.read left.written left.ended left.knew
    (from-blank g.L.DeskLedger.begun _ c.in_ok-source.source.tape c.in_ok-sink.sink.tape left.read left.written left.ended left.knew c.in_ok-source.ensures c.in_ok-sink.ensures c.serve_taped.ensures)

pub returns : goal.returns
returns g c =
    let left = c.serve_taped.result in
    rw c.of.ensures
    (from-blank g.L.DeskLedger.begun _ c.in_ok-source.source.tape c.in_ok-sink.sink.tape left.read left.written left.ended left.knew c.in_ok-source.ensures c.in_ok-sink.ensures c.serve_taped.ensures)
