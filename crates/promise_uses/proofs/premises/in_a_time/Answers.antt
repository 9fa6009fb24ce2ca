-- Instances of the premises of the law on a customer's rate (`in_a_time`).
use Rattle.std.specs.Prelude.{[], ◌∷◌}
use Rattle.std.proofs.Math.Dec.{lit≤}
use Rattle.promise_uses.proofs.premises.in_a_time.Goals as goal

pub returns : goal.returns
returns c = (3, 9, 3 ∷ 7 ∷ 9 ∷ [], lit≤ tt, (lit≤ tt, lit≤ tt, (lit≤ tt, lit≤ tt, (lit≤ tt, lit≤ tt, tt))))
