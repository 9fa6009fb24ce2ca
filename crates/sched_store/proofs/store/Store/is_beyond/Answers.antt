-- The core's store tests a raised reservation (`Store::is_beyond`): by its book's totals, as the core's definition
-- says.
use Rattle.sched_store.proofs.Lookups.{arith, book-says, is_beyond}
use Rattle.sched_store.proofs.store.Store.is_beyond.Goals as goal

pub returns-then-rest-segments : goal.returns-then-rest-segments
returns-then-rest-segments g c =
    rw (← c.self.view_is, book-says c.self.invariant (λ b. is_beyond b c.args.now c.args.reserve)) grind (arith, c.rest-rest.ensures.rest)

pub returns : goal.returns
returns g c =
    rw (← c.self.view_is, book-says c.self.invariant (λ b. is_beyond b c.args.now c.args.reserve)) grind (arith, c.rest-rest.ensures.rest)
