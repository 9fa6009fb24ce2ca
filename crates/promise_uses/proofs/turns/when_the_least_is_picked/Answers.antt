-- A use of the law on the least served (`when_the_least_is_picked`): behind two others it is picked third at the
-- latest.
use Rattle.std.proofs.Common.{arith}
use Rattle.promise_uses.proofs.turns.when_the_least_is_picked.Goals as goal

pub returns : goal.returns
returns c =
    let law = c.who_is_least_is_picked_soon.ensures in
    record {
      first = λ group place line account events least waits one. let fewer = law.picks group place line account events least waits in grind (arith, fewer, one);
      third = λ group place line account events least waits three. let fewer = law.picks group place line account events least waits in grind (arith, fewer, three);
      tasks = λ group place line account events least waits each three. let fewer = law.tasks group place 128 line account events least waits (grind (arith)) each in grind (arith, fewer, three);
    }
