-- Of an admission at a core: it is refused as full exactly where the book of reservations says so, so the law
-- `fullness_is_the_book_s`.
use Rattle.sched_rules.proofs.Isolation.{is-full}
use Rattle.sched_rules.proofs.laws.fullness_is_the_book_s.Goals as goal

pub returns : goal.returns
returns c book quota = is-full book quota
