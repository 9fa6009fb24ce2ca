-- A use of the law on sums (`seven_beside_nine`): in a core of tenants 7 and 9 none of their jobs is spent, whatever the
-- other does.
use Rattle.promise_uses.proofs.Common.{refl, only, taken_steps}
use Rattle.sched_laws.specs.Fitted.{origins_of}
use Rattle.promise_uses.proofs.Reserving.{five-sums, three-sums}
use Rattle.promise_uses.proofs.several.seven_beside_nine.Goals as goal

pub returns-clause-nine : goal.returns-clause-nine
returns-clause-nine c own opp totals steps answers seven tenant words third fifth serial frame answer right other there searches asked jobs nodes segments at answered =
    let one = c.who_asks_with_enough_is_never_spent.ensures in
    c.who_asks_within_its_sums_is_never_spent.ensures.beside 6 totals steps answers 9 serial tenant frame answer right searches there
    (five-sums 8 6 refl (one.any 8 6) one.two_plies own opp (origins_of (only 9 (taken_steps steps answers))) tenant words third fifth asked jobs nodes segments) at answered

pub returns-clause-seven : goal.returns-clause-seven
returns-clause-seven c own opp totals steps answers tenant nine first third serial frame answer right other there searches asked jobs nodes segments at answered =
    let one = c.who_asks_with_enough_is_never_spent.ensures in
    c.who_asks_within_its_sums_is_never_spent.ensures.beside 6 totals steps answers 7 serial tenant frame answer right searches there
    (three-sums 8 6 refl (one.any 8 6) one.two_plies own opp (origins_of (only 7 (taken_steps steps answers))) tenant first third asked jobs nodes segments) at answered
