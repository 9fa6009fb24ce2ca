-- Of a run from known bytes to a known writer: what is appended is exactly the answers, so the law
-- `known_runs_are_exact`.
use Rattle.line_io.proofs.Known.{known-run}
use Rattle.line_io.proofs.laws.known_runs_are_exact.Goals as goal

pub returns : goal.returns
returns g c =
    λ out source source' sink sink' bytes held e f x. known-run (λ s. g.R.Read.remaining s.reader) (λ s. g.W.Write.contents s.writer) bytes held e f x
