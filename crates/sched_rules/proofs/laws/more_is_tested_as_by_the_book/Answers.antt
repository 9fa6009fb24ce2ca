-- Of a raise of a reservation at a core: it is refused exactly where the book of reservations says so, so the law
-- `more_is_tested_as_by_the_book`.
use Rattle.sched_rules.proofs.Isolation.{is-lower, is-beyond}
use Rattle.sched_rules.proofs.laws.more_is_tested_as_by_the_book.Goals as goal

pub returns : goal.returns
returns c = record {
  lower = λ now quota. is-lower now quota;
  beyond = λ book now quota. is-beyond book now quota;
}
