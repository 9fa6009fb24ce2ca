-- Answers for a use: a connection of a site that says PING and HELLO, and ends.
use Rattle.promise_uses.proofs.Common.{List}
use Rattle.promise_uses.proofs.Connected.{all-read, left-of, none-came, ping-hello}
use Rattle.line_io.specs.Lines.{LineText}
use Rattle.promise_uses.proofs.connections.ping_and_hello.Goals as goal

pub returns : goal.returns
returns g c =
    let seen = c.serve_connection.ensures in
    let talk = seen.talk in
    let lines = talk.lines in (
      lines.answered,
      lines.texts,
      seen.own,
      seen.replies,
      seen.asks,
      talk.blocks,
      talk.last,
      lines.pieces,
      lines.rest,
      talk.reads,
      lines.writes,
      lines.taken,
      all-read _ talk.blocks talk.last lines.answered lines.texts lines.rest talk.ending lines.ends,
      λ are. ping-hello lines.answered lines.texts seen.own _ are seen.mixed,
      seen.dones,
      seen.made,
      λ quota trace are knows. left-of g.J.SiteNaming.begun _ quota trace c.serve_connection.result.1 seen.tenant knows are,
      none-came g.J.SiteNaming.begun _ c.serve_connection.result.1 seen.tenant,
    )
