-- The one worker of `solve` (`Searcher::offer_and_run`): the core it works on stays one of that tenant's job, also
-- where the job is given up.
use Rattle.solve_engine.proofs.worker.Searcher.offer_and_run.Goals as goal

pub returns-in-GivingUp : goal.returns-in-GivingUp
returns-in-GivingUp g c task works = c.spend.ensures task (c.offer.ensures task works)
