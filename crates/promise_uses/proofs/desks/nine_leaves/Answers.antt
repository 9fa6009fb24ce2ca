-- A use of the desk's `leave_seen` (`nine_leaves`): tenant 9's Leave ends the history and its own steps.
use Rattle.promise_uses.proofs.desks.nine_leaves.Goals as goal

pub returns : goal.returns
returns g c = record {
  told = rw (← c.requires.nine) c.leave_seen.ensures.told;
  legal = c.leave_seen.ensures.true_to.0;
  own = rw (← c.requires.nine) c.leave_seen.ensures.true_to.1;
}
