-- A use of the law on sums (`third_and_fifth_live`): with enough for five searches, of which two live, none is spent.
use Rattle.promise_uses.proofs.Common.{refl}
use Rattle.sched_laws.specs.Fitted.{origins_of}
use Rattle.promise_uses.proofs.Reserving.{five-sums, three-sums}
use Rattle.promise_uses.proofs.several.third_and_fifth_live.Goals as goal

pub returns-clause-nine : goal.returns-clause-nine
returns-clause-nine c own opp journal tenant words third fifth serial frame is searches asked jobs nodes segments at =
    let one = c.who_asks_with_enough_is_never_spent.ensures in
    c.who_asks_within_its_sums_is_never_spent.ensures.sums 4 journal tenant 9 serial frame is searches
    (five-sums 6 4 refl (one.any 6 4) one.two_plies own opp (origins_of journal) tenant words third fifth asked jobs nodes segments) at

pub returns-clause-seven : goal.returns-clause-seven
returns-clause-seven c own opp journal tenant first third serial frame is searches asked jobs nodes segments at =
    let one = c.who_asks_with_enough_is_never_spent.ensures in
    c.who_asks_within_its_sums_is_never_spent.ensures.sums 4 journal tenant 7 serial frame is searches
    (three-sums 6 4 refl (one.any 6 4) one.two_plies own opp (origins_of journal) tenant first third asked jobs nodes segments) at
