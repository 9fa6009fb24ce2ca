-- Answers for receive: what is served is what is on the tapes.
use Rattle.std.proofs.Common.{subst, sym}
use Rattle.line_io.specs.Leads.{between}
use Rattle.tcp_server.specs.Tapes.{TapeOf, Fills, Puts}
use Rattle.site_office.specs.Sessions.{SeenSiteSession}
use Rattle.othello_site.proofs.SocketLemmas.{seen-by}
use Rattle.othello_site.proofs.client.receive.Goals as goal

pub returns : goal.returns
returns g c =
    let served = c.serve_connection-ended in (
      served.new.source.reader,
      subst (λ (t : TapeOf). SeenSiteSession g.J.SiteNaming.begun (between Fills c.args.source.reader served.new.source.reader) (between Puts c.args.sink.writer t) served.result.0 served.result.1) (sym c.into_tape-2.ensures)
          (seen-by g.J.SiteNaming.begun c.args.source served.new.source c.args.sink served.new.sink (λ s. s.reader) (λ k. k.writer) served.result.0 served.result.1 served.ensures),
      sym c.into_tape.ensures,
    )
