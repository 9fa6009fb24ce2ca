-- A use of the site's law on plans (`plans_that_come_in`): a plan of the same hall that leaves all what they
-- have comes in, and no other.
use Rattle.promise_uses.proofs.Common.{arith, Own, Guests, Named, new_book}
use Rattle.promise_uses.proofs.customers.plans_that_come_in.Goals as goal

pub returns : goal.returns
returns c =
    let law = c.a_plan_comes_in.ensures in
    record {
      totals = λ book plan none. ((law book plan).0 none).0;
      fits = λ book plan none. ((law book plan).0 none).1;
      named = λ number book plan none. (((law book plan).0 none).2 (Own (Named number))).sessions;
      guests = λ book plan none. (((law book plan).0 none).2 Guests).nodes;
      empty = λ plan other same fits. (law (new_book other) plan).1 (same, fits, λ part. record { sessions = grind (arith); segments = grind (arith); nodes = grind (arith) });
    }
