-- A use of the law on sums (`two_find_room`): each of two searches that are asked for one after the other finds the nodes
-- and the segments for it, so none is spent.
use Rattle.promise_uses.proofs.TwoAtOnce.{two_then, two-searches, two-rooms}
use Rattle.promise_uses.proofs.several.two_find_room.Goals as goal

pub returns-clause-nine : goal.returns-clause-nine
returns-clause-nine c own opp own_then opp_then serial later tenant frame apart apart_then none is at =
    let one = c.who_asks_with_enough_is_never_spent.ensures in
    let cost = c.positions_suffice.ensures.nodes 4 in
    let size = c.positions_suffice.ensures.segments 4 in
    c.who_asks_within_its_sums_is_never_spent.ensures.rooms 4 cost.0 size.0 (two_then 9 own opp own_then opp_then later none) tenant 9 serial frame cost.1 size.1 is (two-searches 9 own opp own_then opp_then later none apart apart_then)
    (two-rooms 9 own opp own_then opp_then later none (one.any 6 4) one.two_plies cost.0 size.0 (cost.2 6) (size.2 6)) at

pub returns-clause-seven : goal.returns-clause-seven
returns-clause-seven c own opp own_then opp_then serial later tenant frame apart apart_then none is at =
    let one = c.who_asks_with_enough_is_never_spent.ensures in
    let cost = c.positions_suffice.ensures.nodes 4 in
    let size = c.positions_suffice.ensures.segments 4 in
    c.who_asks_within_its_sums_is_never_spent.ensures.rooms 4 cost.0 size.0 (two_then 7 own opp own_then opp_then later none) tenant 7 serial frame cost.1 size.1 is (two-searches 7 own opp own_then opp_then later none apart apart_then)
    (two-rooms 7 own opp own_then opp_then later none (one.any 6 4) one.two_plies cost.0 size.0 (cost.2 6) (size.2 6)) at
