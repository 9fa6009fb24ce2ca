-- A use of the law on who has waited longest (`when_it_has_waited_longest`): of 64 places it is picked within 64 such
-- picks.
use Rattle.std.proofs.Common.{arith}
use Rattle.promise_uses.proofs.turns.when_it_has_waited_longest.Goals as goal

pub returns : goal.returns
returns c =
    let law = c.who_waits_longest_is_picked.ensures in
    record {
      first = λ group place line account events waiting waits one. let fewer = law.picks group place line account events waiting waits in grind (arith, fewer, one);
      second = λ group place line account events waiting waits two. let fewer = law.picks group place line account events waiting waits in grind (arith, fewer, two);
      places = λ group place line account events waiting waits many. let fewer = law.places group place line account events waiting waits in grind (arith, fewer, many);
      tasks = λ group place line account events waiting waits many each. let fewer = law.tasks group place 512 line account events waiting waits (grind (arith)) each in grind (arith, fewer, many);
    }
