-- A list of steps on a core of searches (`running::run_searches`): the headline holds of it, and the jobs stay
-- searches.
use Rattle.jamboree_core.proofs.Serving.{headline-in-full, both-ok}
use Rattle.jamboree_core.proofs.running.run_searches.Goals as goal

pub returns-clause-headline : goal.returns-clause-headline
returns-clause-headline g c =
    both-ok c.run.result c.run.ensures.headline c.run.ensures.fitting (λ headline fitting.
    (headline.0, headline.1, headline-in-full _ _ _ _ _ headline.2 (fitting headline.0 headline.1)))
