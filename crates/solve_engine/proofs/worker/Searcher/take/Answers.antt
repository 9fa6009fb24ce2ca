-- The one worker of `solve` (`Searcher::take`): a worker's step or a Spend leaves the core one of that tenant's job.
use Rattle.solve_engine.proofs.Working.{step-keeps}
use Rattle.solve_engine.proofs.worker.Searcher.take.Goals as goal

pub returns : goal.returns
returns g c =
    let e = c.step_search.ensures in
    step-keeps c.args.self.now.core c.step_search.new.core c.args.step.now c.step_search.result c.requires e.known_before e.procedure e.one e.searching
