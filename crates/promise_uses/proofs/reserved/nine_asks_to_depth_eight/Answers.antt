-- A use of the law on what suffices (`nine_asks_to_depth_eight`): with 3,478 segments and 12,545 nodes reserved,
-- tenant 9's search to depth 8 at grain 6 is never spent.
use Rattle.promise_uses.proofs.Common.{refl, arith}
use Rattle.sched_rules.specs.Trees.{admitted_with}
use Rattle.promise_uses.proofs.Reserving.{rest-finds, has-enough}
use Rattle.promise_uses.proofs.reserved.nine_asks_to_depth_eight.Goals as goal

pub returns : goal.returns
returns c own opp serial later tenant frame apart none is at =
    let law = c.who_asks_with_enough_is_never_spent.ensures in
    let rest = rest-finds 6 _ later none in
    let has = has-enough 8 6 refl (law.any 8 6) law.two_plies (admitted_with (record { segments = 3478; nodes = 12545 })) own opp refl (omega arith) (omega arith) in
    law.never 6 _ tenant 9 serial frame is (tt, ((record { own = own; opp = opp; depth = 8; are = refl; apart = apart; shallow = omega arith }, refl), rest.1)) (tt, (has, rest.0)) at
