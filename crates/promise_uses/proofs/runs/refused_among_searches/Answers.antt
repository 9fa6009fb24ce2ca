-- A use of the promise on lists of searches (`refused_among_searches`): tenant 7's Steal is refused for its own state,
-- or as worker 5 is busy for another.
use Rattle.promise_uses.proofs.Common.{refl, if-ok}
use Rattle.promise_uses.proofs.Parts.{of-seven}
use Rattle.promise_uses.proofs.runs.refused_among_searches.Goals as goal

pub returns : goal.returns
returns g c =
    if-ok c.run.result (λ run these before later said more home serial refusal steps answers as_many.
    of-seven c.args.procedure.grain before said home serial refusal (these before later said more _ refusal steps answers as_many refl)) c.run.ensures.refused
