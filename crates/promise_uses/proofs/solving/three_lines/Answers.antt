-- A use of the promise on `solve` (`three_lines`): what is written is the answers to three lines, or a beginning of
-- these after a fault.
use Rattle.promise_uses.proofs.Solved.{solves-three}
use Rattle.promise_uses.proofs.solving.three_lines.Goals as goal

pub returns : goal.returns
returns g c = solves-three _ _ _ _ _ _ _ c.solve.ensures
