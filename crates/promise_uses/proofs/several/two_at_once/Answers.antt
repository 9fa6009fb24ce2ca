-- A use of the law on sums (`two_at_once`): each of two searches that are asked for one after the other finds the sums
-- within what is reserved, so none is spent.
use Rattle.promise_uses.proofs.TwoAtOnce.{two_then, two-searches, two-sums}
use Rattle.promise_uses.proofs.several.two_at_once.Goals as goal

pub returns-clause-nine : goal.returns-clause-nine
returns-clause-nine c own opp own_then opp_then serial later tenant frame apart apart_then none is at =
    let one = c.who_asks_with_enough_is_never_spent.ensures in
    c.who_asks_within_its_sums_is_never_spent.ensures.asks 4 (two_then 9 own opp own_then opp_then later none) tenant 9 serial frame is (two-searches 9 own opp own_then opp_then later none apart apart_then)
    (two-sums 9 own opp own_then opp_then later none (one.any 6 4) one.two_plies) at

pub returns-clause-seven : goal.returns-clause-seven
returns-clause-seven c own opp own_then opp_then serial later tenant frame apart apart_then none is at =
    let one = c.who_asks_with_enough_is_never_spent.ensures in
    c.who_asks_within_its_sums_is_never_spent.ensures.asks 4 (two_then 7 own opp own_then opp_then later none) tenant 7 serial frame is (two-searches 7 own opp own_then opp_then later none apart apart_then)
    (two-sums 7 own opp own_then opp_then later none (one.any 6 4) one.two_plies) at
