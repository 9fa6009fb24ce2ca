-- The one worker of `solve` (`Searcher::offer_on`): the core it works on stays one of that tenant's job.
use Rattle.solve_engine.proofs.worker.Searcher.offer_on.Goals as goal

pub returns : goal.returns
returns g c task works = c.go_on.ensures task (c.offer.ensures task works)
