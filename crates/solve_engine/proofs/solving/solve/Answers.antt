-- The command `solve` (`solving::solve`): what is written is the defined answers to the lines read.
use Rattle.solve_engine.proofs.RefusalLemmas.{solved-run}
use Rattle.solve_engine.proofs.solving.solve.Goals as goal

pub returns : goal.returns
returns g c = solved-run g.S.Source.gives g.K.Sink.takes c.answer_lines.ensures
