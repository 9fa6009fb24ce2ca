-- The command `solve --ordered` (`solving::solve_ordered`): it takes no memory for searches, so what is written is the
-- defined output itself.
use Rattle.solve_engine.proofs.Common.{Run-function, solve_line}
use Rattle.solve_engine.proofs.RefusalLemmas.{none-refused-run}
use Rattle.solve_engine.proofs.solving.solve_ordered.Goals as goal

pub returns-clause-solved : goal.returns-clause-solved
returns-clause-solved g c =
    none-refused-run g.S.Source.gives g.K.Sink.takes
    (Run-function _ (λ _. Unit {0}) solve_line (λ a line text b _ h. (h, tt)) tt c.answer_lines.ensures)

pub returns-clause-each : goal.returns-clause-each
returns-clause-each g c = Run-function _ (λ _. Unit {0}) solve_line (λ a line text b _ h. (h, tt)) tt c.answer_lines.ensures
