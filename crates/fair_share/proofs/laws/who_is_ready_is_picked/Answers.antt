-- Of who shares a pool: whoever is ready all along is picked again within a bound, so the law
-- `who_is_ready_is_picked`.
use Rattle.fair_share.proofs.Common.{◌+◌, ◌*◌, ◌≤◌, arith, mul-le-mul_left, picks_in}
use Rattle.fair_share.proofs.WaitLemmas.{few-tasks}
use Rattle.fair_share.proofs.LeadLemmas.{led-picks, lead-after}
use Rattle.fair_share.proofs.laws.who_is_ready_is_picked.Goals as goal

pub returns-clause-picks : goal.returns-clause-picks
returns-clause-picks c = led-picks

pub returns-clause-tasks : goal.returns-clause-tasks
returns-clause-tasks c group place lead others many line account events is waits count some each =
    let few : picks_in events ≤ (lead + 1) * others = led-picks group place lead others line account events is waits count in
    let more : picks_in events + 1 ≤ (lead + 1) * others + 1 = omega arith in
    let times : many * (picks_in events + 1) ≤ many * ((lead + 1) * others + 1) = mul-le-mul_left many more in
    omega (arith, few-tasks many 0 events each some)

pub returns-clause-lead : goal.returns-clause-lead
returns-clause-lead c = lead-after
