-- The core's store tests an admission (`Store::is_full`): by its book's totals and places, as the core's definition
-- says.
use Rattle.sched_store.proofs.Lookups.{arith, book-says, is_full}
use Rattle.sched_store.proofs.store.Store.is_full.Goals as goal

pub returns-then-rest-eq0 : goal.returns-then-rest-eq0
returns-then-rest-eq0 g c =
    rw (← c.self.view_is, book-says c.self.invariant (λ b. is_full b c.args.reserve)) grind (arith, c.rest-rest.ensures.rest)

pub returns-then-rest-segments : goal.returns-then-rest-segments
returns-then-rest-segments g c =
    rw (← c.self.view_is, book-says c.self.invariant (λ b. is_full b c.args.reserve)) grind (arith, c.rest-rest.ensures.rest)

pub returns : goal.returns
returns g c =
    rw (← c.self.view_is, book-says c.self.invariant (λ b. is_full b c.args.reserve)) grind (arith, c.rest-rest.ensures.rest)
