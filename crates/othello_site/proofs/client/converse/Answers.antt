-- Answers for converse: a header is left out, and what is behind it is served.
use Rattle.std.specs.Net.Tcp.{stream_raw_fd}
use Rattle.othello_site.proofs.SocketLemmas.{if-some, on-socket}
use Rattle.othello_site.proofs.client.converse.Goals as goal

pub returns : goal.returns
returns g c =
    if-some c.receive.result
    (λ passed e.
    on-socket g.J.SiteNaming.begun c.args.port (stream_raw_fd c.args.stream.now) c.of_ip-peer.result c.in_ok-known.known.used
    c.in-Ok-of_socket.reader c.greet.new.source.reader c.skip.new.self e.0 c.in-Ok-of_socket-2.writer passed.read passed.written passed.ended passed.knew
    c.in-Ok-of_socket.ensures c.in-Ok-of_socket-2.ensures c.greet.ensures.kept c.in_ok-known.ensures.header c.skip.ensures e.1 e.2)
    c.receive.ensures
