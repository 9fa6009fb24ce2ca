-- The desk's list of what a seat asked for (`seat_asked_at`): job 1 is the first entry, and a number of 0 or above the
-- length has none.
use Rattle.std.proofs.Common.{sym, arith}
use Rattle.hall.proofs.DeskRules.Asking.{at-zero, at-past, at-read}
use Rattle.hall.proofs.desk_rules.asked.seat_asked_at.Goals as goal

pub returns-then-job-eq0 : goal.returns-then-job-eq0
returns-then-job-eq0 c = rw c.if-job-eq0.true (sym (at-zero c.args.asked.now))

pub returns-then-at-asked : goal.returns-then-at-asked
returns-then-at-asked c = at-read c.args.asked.now c.args.job c.index-asked-at.result (omega arith) (omega arith) c.index-asked-at.is

pub returns-else-at-asked : goal.returns-else-at-asked
returns-else-at-asked c = sym (at-past c.args.asked.now c.args.job (omega arith))
