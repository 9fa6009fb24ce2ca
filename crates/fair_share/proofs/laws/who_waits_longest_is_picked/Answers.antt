-- Of who shares a pool: who has waited longest is picked in turn, so the law `who_waits_longest_is_picked`.
use Rattle.fair_share.proofs.Common.{◌+◌, ◌*◌, ◌<◌, ◌≤◌, arith, length, mul-le-mul_left, is_older, long_picks_in}
use Rattle.fair_share.proofs.LongLemmas.{few-between, few-longs, count-most}
use Rattle.fair_share.proofs.laws.who_waits_longest_is_picked.Goals as goal

pub returns-clause-picks : goal.returns-clause-picks
returns-clause-picks c = few-longs

pub returns-clause-places : goal.returns-clause-places
returns-clause-places c group place line account events is waits =
    omega (arith, few-longs group place line account events is waits, count-most (is_older account) line.accounts)

pub returns-clause-tasks : goal.returns-clause-tasks
returns-clause-tasks c group place many line account events is waits some each =
    let less : long_picks_in events < length line.accounts = omega (arith, few-longs group place line account events is waits, count-most (is_older account) line.accounts) in
    let picks : long_picks_in events + 1 ≤ length line.accounts = omega arith in
    let times : many * (long_picks_in events + 1) ≤ many * length line.accounts = mul-le-mul_left many picks in
    omega (arith, few-between many 0 events each some)
