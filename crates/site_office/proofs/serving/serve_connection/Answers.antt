-- Answers for serve_connection: what its office knew when it closed is what it gives back.
use Rattle.std.proofs.Common.{subst, sym}
use Rattle.line_io.specs.Leads.{between}
use Rattle.site_office.specs.Sessions.{SeenSiteSession}
use Rattle.site_office.proofs.serving.serve_connection.Goals as goal

pub returns : goal.returns
returns g c =
    let served = c.serve_office-end in
    subst (λ knew. SeenSiteSession g.J.SiteNaming.begun (between g.S.Source.gives c.args.source.now served.new.source) (between g.K.Sink.takes c.args.sink.now served.new.sink) served.result knew)
    (sym c.close-knew.ensures) (served.ensures.seen c.new-office.ensures.knew)
