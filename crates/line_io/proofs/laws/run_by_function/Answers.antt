-- Of a run whose answers are a function of the lines: what it writes is that function of what it reads, so the law
-- `run_by_function`.
use Rattle.line_io.proofs.ByFunction.{Run-function}
use Rattle.line_io.proofs.laws.run_by_function.Goals as goal

pub returns : goal.returns
returns g c =
    λ answer same source source' sink sink' answerer answerer' r x.
    Run-function g.A.LineAnswerer.answers (λ _. Unit {0}) answer (λ a line text b _ h. (same a line text b h, tt)) tt x
