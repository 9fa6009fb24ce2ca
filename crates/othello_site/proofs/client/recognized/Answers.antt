-- Answers for recognized: a customer whose connection is known has the header that its first bytes say.
use Rattle.std.proofs.Common.{subst, sym}
use Rattle.othello_site.specs.Connections.{IsRecognized}
use Rattle.othello_site.proofs.SocketLemmas.{is-recognized}
use Rattle.othello_site.proofs.client.recognized.Goals as goal

pub returns : goal.returns
returns g c =
    let e = c.recognize.ensures in
    subst (IsRecognized c.args.port c.args.bytes.now c.args.peer) (sym e.2) (is-recognized _ _ c.args.port c.args.bytes.now c.args.peer e.0 e.1)
