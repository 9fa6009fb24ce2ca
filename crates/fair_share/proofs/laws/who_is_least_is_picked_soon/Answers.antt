-- Of who shares a pool: the least served is picked before anybody who comes later, so the law
-- `who_is_least_is_picked_soon`.
use Rattle.fair_share.proofs.Common.{◌+◌, ◌*◌, ◌<◌, ◌≤◌, arith, count_by, mul-le-mul_left, is_ahead, picks_in}
use Rattle.fair_share.proofs.WaitLemmas.{few-picks, few-tasks}
use Rattle.fair_share.proofs.laws.who_is_least_is_picked_soon.Goals as goal

pub returns-clause-picks : goal.returns-clause-picks
returns-clause-picks c = few-picks

pub returns-clause-tasks : goal.returns-clause-tasks
returns-clause-tasks c group place many line account events is waits some each =
    let less : picks_in events < count_by (is_ahead group account) line.accounts = few-picks group place line account events is waits in
    let picks : picks_in events + 1 ≤ count_by (is_ahead group account) line.accounts = omega arith in
    let times : many * (picks_in events + 1) ≤ many * count_by (is_ahead group account) line.accounts = mul-le-mul_left many picks in
    omega (arith, few-tasks many 0 events each some)
