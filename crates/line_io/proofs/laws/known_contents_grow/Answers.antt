-- Of a writer whose contents are known: its writes add what they took, so the law `known_contents_grow`.
use Rattle.line_io.proofs.Known.{known-write}
use Rattle.line_io.proofs.laws.known_contents_grow.Goals as goal

pub returns : goal.returns
returns g c = λ old new pieces r bytes e p. known-write (λ s. g.W.Write.contents s.writer) old pieces new r bytes e p
