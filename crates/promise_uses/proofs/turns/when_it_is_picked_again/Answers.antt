-- A use of the law on who is ready (`when_it_is_picked_again`): with a lead of 5 and two others it is picked within 13
-- picks.
use Rattle.std.proofs.Common.{arith}
use Rattle.std.proofs.Math.Nat.{le_refl}
use Rattle.promise_uses.proofs.turns.when_it_is_picked_again.Goals as goal

pub returns : goal.returns
returns c =
    let law = c.who_is_ready_is_picked.ensures in
    record {
      alone = λ group place lead line account events led waits one. let few = law.picks group place lead 0 line account events led waits one in grind (arith, few);
      again = λ group place line account events led waits three. law.picks group place 5 2 line account events led waits three;
      tasks = λ group place line account events led waits three each. law.tasks group place 5 2 128 line account events led waits three (grind (arith)) each;
      lead = λ group place amount other line next rival. law.lead group place amount amount line next (le_refl amount) other rival;
    }
