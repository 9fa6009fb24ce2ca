-- The command `solve --visited` (`solving::solve_visited`): each answer has the defined value and move, and a number.
use Rattle.solve_engine.proofs.Common.{Run-related, IsVisitedLine}
use Rattle.solve_engine.proofs.solving.solve_visited.Goals as goal

pub returns : goal.returns
returns g c =
    Run-related g.S.Source.gives g.K.Sink.takes _ IsVisitedLine (λ a line text b h. h) _ _ _ _ _ _ _ c.answer_lines.ensures
